pub mod Canon
pub mod Refusals
pub mod Runs
pub mod Text
pub mod Whole
