pub mod Birth
pub mod Graph
pub mod Walk
