pub mod DamageLaws
pub mod NumberLaws
pub mod Numbers
pub mod OrderLaws
pub mod Rows
pub mod Rows0
pub mod TextLaws
