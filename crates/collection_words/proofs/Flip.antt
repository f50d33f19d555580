-- A flip: some objects are copied, the others stay.
pub mod Entries
pub mod Laid
pub mod Parted
pub mod Relocated
pub mod Words
