pub mod Mirrored
pub mod MirroredLaws
pub mod Ready
