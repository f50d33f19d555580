pub mod Gate
pub mod Passing
