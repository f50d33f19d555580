-- Graphs that stand in words.
pub mod Closed
pub mod Field
pub mod Hand
pub mod Objects
pub mod Own
pub mod ReadBack
pub mod Run
pub mod Seen
pub mod TakenBack
pub mod Visible
pub mod Walked
pub mod Write
