pub mod Collected
pub mod Copied
pub mod Followed
pub mod Made
pub mod Olds
pub mod Scanned
pub mod Visited
