pub mod FaultLaws
pub mod LogReplay
pub mod Opening
pub mod OpensLaws
pub mod Refusals
