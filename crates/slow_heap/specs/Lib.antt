pub mod Objects
pub mod SlowHeap
