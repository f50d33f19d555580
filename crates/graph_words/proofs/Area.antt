-- The area of a transaction's own objects.
pub mod Field
pub mod Fields
pub mod Made
pub mod Starts
pub mod State
pub mod Words
pub mod Write
