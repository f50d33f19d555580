pub mod GraphCode
pub mod Objects
pub mod Runs
pub mod Told
