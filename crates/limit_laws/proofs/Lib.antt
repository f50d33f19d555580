pub mod Bytes
pub mod Copies
pub mod Events
pub mod LogRoom
pub mod Progress
pub mod Runs
