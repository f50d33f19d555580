pub mod Behind
pub mod Collecting
pub mod Does
pub mod Kept
pub mod Refusal
pub mod Step
