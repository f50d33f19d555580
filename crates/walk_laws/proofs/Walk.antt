-- The walk of both spaces, and words that are laid out.
pub mod Completed
pub mod Fields
pub mod Laid
pub mod Olds
pub mod Walked
