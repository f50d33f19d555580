pub mod CallLaws
pub mod CommitLaws
pub mod HoldsLaws
pub mod LockingLaws
pub mod OrderLaws
pub mod PlaceLaws
pub mod StrictLaws
