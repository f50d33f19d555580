use Rattle.std.proofs.Common.{ℕ, List}
use Rattle.std.specs.Prelude.{IsTrue, None}
use Rattle.object_layout.specs.Read.{IsRead}
use Rattle.object_layout.specs.CollectionWalk.{given, from_end, AreOldObjects}
use Rattle.object_layout.proofs.OldStarts.{KeepSoFar}
use Rattle.object_layout.proofs.collection_walk.check_old_fields.Given as goal

abbrev pub invariant-loop-at : goal.invariant-loop-at
invariant-loop-at g l = record {
  read : IsRead g.W.Words.tells g.W.Words.extent g.W.Words.content g.W.Words.keeps g.W.Words.faults g.W.Words.stops l.initial.words l.words None;
  inside : IsTrue g.W.Words.tells → (starts : List ℕ) → AreOldObjects (g.W.Words.content l.initial.words) starts (given l.from) l.olds (from_end (given l.from))
      → KeepSoFar (g.W.Words.content l.initial.words) (λ a. l.olds) l.olds l.at-index;
}
