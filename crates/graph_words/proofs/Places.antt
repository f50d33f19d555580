-- Addresses and names of objects.
pub mod Addresses
pub mod Lists
pub mod Moved
pub mod Moves
pub mod Names
