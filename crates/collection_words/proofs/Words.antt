-- Words of objects that are put end to end.
pub mod Cover
pub mod Put
pub mod Objects
