pub mod Follows
pub mod Shared
pub mod Callers
pub mod Workers
