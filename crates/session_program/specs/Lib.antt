pub mod Ending
pub mod Lines
pub mod Parts
pub mod Served
pub mod Session
