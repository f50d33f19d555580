pub mod AreaLaws
mod Kept
pub mod ObjectLaws
pub mod TranslatedLaws
