pub mod Roots
pub mod Slots
pub mod Table
pub mod TableCode
pub mod Translation
