pub mod ByPage
pub mod CacheState
pub mod Dirty
pub mod Stored
pub mod Writing
