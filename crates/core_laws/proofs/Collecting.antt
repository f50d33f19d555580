-- Steps of a collection.
pub mod Behind
pub mod Black
pub mod Carried
pub mod Collected
pub mod Entries
pub mod Events
pub mod Few
pub mod Flip
pub mod Holds
pub mod Least
pub mod Room
pub mod Roots
pub mod Scan
pub mod Spelled
pub mod Told
