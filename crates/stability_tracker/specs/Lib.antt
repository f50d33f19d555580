pub mod Promotion
pub mod Search
