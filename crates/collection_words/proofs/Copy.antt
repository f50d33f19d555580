-- One object is copied.
pub mod Ascending
pub mod Laid
pub mod Moved
pub mod Named
pub mod Relocated
pub mod Stands
pub mod Words
