pub mod Appended
pub mod Kinds
pub mod Steps
