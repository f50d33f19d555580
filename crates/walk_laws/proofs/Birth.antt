-- Births of the objects of both spaces.
pub mod Born
pub mod Copied
pub mod Flipped
pub mod Scanned
pub mod TakenBack
