use Rattle.std.proofs.Common.{◌≡◌, ◌++◌, take}
use Rattle.std.specs.List.{flat_map}
use Rattle.txn_table.specs.Roots.{held_by}
use Rattle.txn_table.proofs.roots.add_held.Given as goal

-- those of the first handles were added
abbrev pub invariant-loop-handle : goal.invariant-loop-handle
invariant-loop-handle l = l.roots.items ≡ l.initial.roots.items ++ flat_map held_by (take l.handle-index l.handles)
