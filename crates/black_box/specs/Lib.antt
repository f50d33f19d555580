pub mod Asked
pub mod Ends
pub mod Stores
pub mod Tale
pub mod Tales
pub mod Told
pub mod Workers
