pub mod Births
pub mod Heap
