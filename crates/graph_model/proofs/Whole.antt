-- Graphs without dangling references.
pub mod Closed
pub mod Graph
pub mod Names
pub mod Root
pub mod Whole
