pub mod GateLaws
pub mod ImageLaws
mod Images
mod Passed
pub mod PassingLaws
mod Runs
