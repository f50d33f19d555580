pub mod After
mod Chains
pub mod Copies
mod Errors
mod Fields
mod Following
mod Headers
mod Loops
mod Plans
pub mod Rising
mod Spelled
pub mod Steps
pub mod Total
