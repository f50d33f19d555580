-- Memory after an event is that of the core after it.
pub mod Answered
pub mod Appended
pub mod Disk
pub mod Ends
pub mod Flush
pub mod Handles
pub mod Held
pub mod New
pub mod Reads
pub mod Same
pub mod Seal
pub mod Writes
pub mod Wrote
