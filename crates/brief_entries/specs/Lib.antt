pub mod Brief
pub mod Ordinary
