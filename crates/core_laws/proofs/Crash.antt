-- What a crash leaves of a core.
pub mod Cut
pub mod Grow
pub mod Image
