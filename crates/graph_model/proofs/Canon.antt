-- Canon numbering and isomorphism.
pub mod Isomorphism
pub mod Match
pub mod MatchRows
pub mod Matches
pub mod NumberedRows
pub mod Numbering
pub mod Numbers
pub mod Renaming
pub mod Visits
