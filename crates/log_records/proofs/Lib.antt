mod Fields
mod Listed
pub mod Lists
pub mod RecordLaws
mod Spelled
pub mod Words
