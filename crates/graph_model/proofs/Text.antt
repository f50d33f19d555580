-- The text of a graph.
pub mod Printable
pub mod Short
pub mod Text
