pub mod Ended
pub mod Together
pub mod Written
