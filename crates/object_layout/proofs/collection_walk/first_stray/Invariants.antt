use Rattle.std.proofs.Common.{◌≡◌, ℕ, ◌-◌, ◌<◌, ◌^◌, true}
use Rattle.std.specs.Prelude.{Contains}
use Rattle.std.specs.FinSet.{contains}
use Rattle.object_layout.specs.Walk.{AreAscending}
use Rattle.object_layout.proofs.collection_walk.first_stray.Given as goal

abbrev pub decreases-loop-at : goal.decreases-loop-at
decreases-loop-at l = 2 ^ 32 - l.from

abbrev pub invariant-loop-at : goal.invariant-loop-at
invariant-loop-at l = record {
  among : AreAscending l.starts → (q : ℕ) → contains l.collection.gray q ≡ true → q < l.from → Contains l.starts q;
}
