use Rattle.std.proofs.Common.{◌≡◌, ℕ, ◌+◌, ◌≤◌, List, ◌++◌, drop}
use Rattle.std.specs.Prelude.{IsTrue, None, Contains}
use Rattle.heap_spaces.specs.Spaces.{flipped}
use Rattle.log_records.specs.declared.copies.ObjectCopy.{ObjectCopy}
use Rattle.object_layout.specs.Read.{IsRead}
use Rattle.flip_copy.specs.Copied.{copies_from}
use Rattle.flip_copy.specs.Plan.{AreCopies, AreRootsIn}
use Rattle.flip_copy.proofs.plan.copy_all.Given as goal

-- what is copied so far is a prefix of what is to be copied, whatever follows it
abbrev pub invariant-loop-at : goal.invariant-loop-at
invariant-loop-at g l = record {
  read : IsRead g.W.Words.tells g.W.Words.extent g.W.Words.content g.W.Words.keeps g.W.Words.faults g.W.Words.stops l.initial.words l.words None;
  within : l.behind ≤ l.end;
  room : l.to + l.spaces.base ≤ (flipped l.spaces).base + l.behind;
  are : (rest : List ObjectCopy) → AreCopies l.behind l.end l.to rest → AreCopies l.spaces.base l.end (flipped l.spaces).base (l.copies.items ++ rest);
  copied : IsTrue g.W.Words.tells → l.copies.items ++ copies_from (g.W.Words.content l.initial.words) l.to (drop l.at-index l.ats) ≡ copies_from (g.W.Words.content l.initial.words) (flipped l.spaces).base l.ats;
  next : IsTrue g.W.Words.tells → AreRootsIn (g.W.Words.content l.initial.words) l.spaces l.ats → (at : ℕ) → Contains (drop l.at-index l.ats) at → l.behind ≤ at;
}
