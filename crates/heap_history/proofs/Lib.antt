pub mod KeptLists
pub mod ReadEntries
