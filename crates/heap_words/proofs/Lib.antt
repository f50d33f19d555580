pub mod HeaderLaws
pub mod Headers
pub mod SizeLaws
pub mod WordLaws
