pub mod Events
pub mod Rows
pub mod Runs
pub mod Sets
