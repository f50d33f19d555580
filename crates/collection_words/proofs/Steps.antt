-- The records of a collection.
pub mod Addresses
pub mod Collected
pub mod Scan
