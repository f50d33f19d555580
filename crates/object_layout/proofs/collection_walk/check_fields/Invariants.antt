use Rattle.std.proofs.Common.{◌≡◌, ℕ, ◌+◌}
use Rattle.std.specs.Prelude.{IsTrue, None}
use Rattle.object_layout.specs.Read.{IsRead}
use Rattle.object_layout.specs.Walk.{AreAscending, IsFilled}
use Rattle.object_layout.specs.CollectionWalk.{targets}
use Rattle.object_layout.proofs.OldStarts.{KeepSoFar}
use Rattle.object_layout.proofs.collection_walk.check_fields.Given as goal

abbrev pub invariant-loop-at : goal.invariant-loop-at
invariant-loop-at g l = record {
  read : IsRead g.W.Words.tells g.W.Words.extent g.W.Words.content g.W.Words.keeps g.W.Words.faults g.W.Words.stops l.initial.words l.words None;
  inside : IsTrue g.W.Words.tells → AreAscending l.olds → (base : ℕ) (used : ℕ) → l.end ≡ base + used → IsFilled (g.W.Words.content l.initial.words) base used l.starts
      → KeepSoFar (g.W.Words.content l.initial.words) (targets l.collection l.starts l.olds) l.starts l.at-index;
}
