pub mod Ends
pub mod Seal
