-- An opened heap continues.
pub mod Again
pub mod Opened
