pub mod Header
pub mod Size
pub mod Word
