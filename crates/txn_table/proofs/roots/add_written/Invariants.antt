use Rattle.std.proofs.Common.{◌≡◌, ◌++◌, take}
use Rattle.std.specs.List.{flat_map}
use Rattle.txn_table.specs.Roots.{named_by}
use Rattle.txn_table.proofs.roots.add_written.Given as goal

-- those of the first entries were added
abbrev pub invariant-loop-entry : goal.invariant-loop-entry
invariant-loop-entry l = l.roots.items ≡ l.initial.roots.items ++ flat_map named_by (take l.entry-index l.entries)
