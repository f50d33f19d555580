pub mod Heap
pub mod Writing
