-- What a seal leaves standing.
pub mod Fields
pub mod Names
pub mod Places
pub mod Sealing
pub mod Stands
pub mod Values
pub mod Words
