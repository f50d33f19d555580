-- In what words a play says what the shared heap did.
pub use Rattle.shared_heap.specs.Follows.{events_of, StaysDisk, Reaches, ReachesOn, Follows, IsCaused, IsUncut}
