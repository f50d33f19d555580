-- What is refused, and which conflicts are named.
pub mod Busy
pub mod Granted
pub mod Plain
