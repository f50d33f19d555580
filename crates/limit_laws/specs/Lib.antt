pub mod Bytes
pub mod Copies
pub mod Progress
pub mod Room
