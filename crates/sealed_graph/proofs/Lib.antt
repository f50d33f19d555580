pub mod GraphLaws
pub mod Readings
