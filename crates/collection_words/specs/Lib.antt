pub mod Completed
pub mod Copying
pub mod Flipped
pub mod LaidOut
pub mod Placed
pub mod Placing
pub mod Relocated
pub mod Writes
