pub mod Black
pub mod Ends
pub mod Pages
pub mod Rows
pub mod Scans
