-- Objects that are put end to end.
pub mod Ends
pub mod Sources
