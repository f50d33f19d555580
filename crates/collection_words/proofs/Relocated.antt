-- Objects that stand elsewhere.
pub mod Entries
pub mod Fronts
pub mod Stands
pub mod Writes
