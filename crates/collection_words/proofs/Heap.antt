-- The words of a heap, whether a collection is under way or not.
pub mod Cases
pub mod Front
pub mod Write
