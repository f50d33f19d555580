mod PrintedScript
mod Renamed
mod Stored
