pub mod Carry
pub mod Origin
pub mod Pages
pub mod Prefix
pub mod Ranges
pub mod Redo
pub mod Transfers
pub mod Victim
