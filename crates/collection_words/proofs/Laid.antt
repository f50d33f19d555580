-- Words that are laid out, and completed.
pub mod Completed
pub mod Filled
pub mod Followed
pub mod Names
pub mod Old
pub mod Sources
pub mod TakenBack
pub mod Underway
pub mod Within
pub mod Write
