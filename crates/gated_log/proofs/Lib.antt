mod Appending
mod LogBytes
mod LogForce
pub mod LogLaws
mod LogReading
mod Reader
