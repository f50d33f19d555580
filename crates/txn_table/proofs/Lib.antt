mod GoneAlong
pub mod RootsLaws
mod SlotLaws
pub mod TableLaws
