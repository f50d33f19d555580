-- What a core answers.
pub mod Busy
pub mod Plain
pub mod Unseen
