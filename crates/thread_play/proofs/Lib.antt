pub mod Lists
pub mod Sending
pub mod Parts
pub mod Stations
pub mod Working
