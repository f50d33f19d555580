pub mod Area
pub mod Places
pub mod Promotion
pub mod Stands
