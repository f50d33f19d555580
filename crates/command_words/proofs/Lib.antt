pub mod LimitLaws
pub mod NumberLaws
mod NumberRead
pub mod RowLaws
pub mod SpellLaws
mod WordsRead
