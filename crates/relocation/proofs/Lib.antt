mod Found
pub mod RelocationLaws
