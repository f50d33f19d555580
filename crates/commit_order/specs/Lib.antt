pub mod Heard
pub mod SerialOrder
