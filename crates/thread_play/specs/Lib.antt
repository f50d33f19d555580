pub mod Follows
pub mod Worked
pub mod Stationed
