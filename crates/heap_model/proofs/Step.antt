-- Steps of a core.
pub mod Bits
pub mod Calls
pub mod Goes
pub mod Granted
pub mod Grow
pub mod Handles
pub mod Logged
pub mod Moved
pub mod Plain
pub mod Room
pub mod Step
pub mod Transfers
