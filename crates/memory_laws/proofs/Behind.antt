-- What records of a collection, which come before an event or are one, leave in memory.
pub mod Barrier
pub mod Event
pub mod Held
pub mod Passed
pub mod Sessions
pub mod Spaces
