mod Areas
pub mod Flip
mod Lists
mod Locks
mod Next
mod Roots
pub mod Scan
