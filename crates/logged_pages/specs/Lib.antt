pub mod Advancing
pub mod Appended
pub mod Carried
pub mod OnDisk
pub mod State
