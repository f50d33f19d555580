-- Memory refuses what the core refuses.
pub mod Ends
pub mod Handles
pub mod Locks
pub mod LogRoom
pub mod Room
pub mod Writes
