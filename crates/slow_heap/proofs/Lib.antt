pub mod Called
pub mod Holders
pub mod Kept
pub mod RowLaws
pub mod Texts
