pub mod Copied
pub mod FlipFailure
pub mod Flipped
pub mod Moved
pub mod Plan
