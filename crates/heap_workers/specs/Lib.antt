pub mod Playing
pub mod Stations
