-- The graph that stands where the walk passes, within a collection or without one.
pub mod Beside
pub mod ByAddress
pub mod Held
pub mod Stands
pub mod TakenBack
