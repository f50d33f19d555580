use Rattle.std.proofs.Common.{◌≡◌, ◌++◌, take}
use Rattle.std.specs.List.{flat_map}
use Rattle.volatile_area.specs.Area.{starts_of}
use Rattle.txn_table.specs.Roots.{referred_from}
use Rattle.txn_table.proofs.roots.add_fields.Given as goal

-- those of the first objects were added
abbrev pub invariant-loop-object : goal.invariant-loop-object
invariant-loop-object l = l.roots.items ≡ l.initial.roots.items ++ flat_map (referred_from l.area.words) (take l.object-index (starts_of l.area))
