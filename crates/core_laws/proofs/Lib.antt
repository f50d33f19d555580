pub mod Answers
pub mod Collecting
pub mod Crash
pub mod Opening
pub mod Run
pub mod Seal
pub mod Sessions
pub mod Step
