pub mod Causes
pub mod Collects
pub mod Ending
pub mod Format
pub mod GivenBack
pub mod HeapState
pub mod Refinement
pub mod Steps
