pub mod CollectionWalk
pub mod Layout
pub mod Read
pub mod ReadFailure
pub mod Walk
pub mod WalkFailure
