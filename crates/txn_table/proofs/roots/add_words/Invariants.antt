use Rattle.std.proofs.Common.{◌≡◌, ◌++◌, take}
use Rattle.std.specs.List.{flat_map}
use Rattle.txn_table.specs.Roots.{referred_in}
use Rattle.txn_table.proofs.roots.add_words.Given as goal

-- those of the first words were added
abbrev pub invariant-loop-word : goal.invariant-loop-word
invariant-loop-word l = l.roots.items ≡ l.initial.roots.items ++ flat_map referred_in (take l.word-index l.words)
