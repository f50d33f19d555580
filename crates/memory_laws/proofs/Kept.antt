-- What an event leaves as it was.
pub mod Beside
pub mod Held
pub mod Locks
pub mod Log
pub mod Pages
pub mod Parts
pub mod Same
pub mod Writes
