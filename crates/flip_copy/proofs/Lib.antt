pub mod CopiesLaws
pub mod FlipKept
pub mod FlipLaws
pub mod FlipRecord
pub mod MovedLaws
pub mod ObjectWordsLaws
pub mod StepLaws
