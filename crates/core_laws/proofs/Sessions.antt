-- Sessions side by side.
pub mod Actives
pub mod Apart
pub mod OtherWrites
pub mod Stays
pub mod TakenBack
pub mod Unlocked
pub mod Whole
