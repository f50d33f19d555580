-- Runs of events.
pub mod Calls
pub mod Ending
pub mod Opening
