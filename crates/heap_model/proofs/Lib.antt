pub mod ListLaws
pub mod Opening
pub mod Outside
pub mod Run
pub mod Shaped
pub mod Step
