-- Which uses of an object conflict.
use Rattle.std.specs.Prelude.{◌==◌, Bool, true, false, ◌&&◌, not}
use Rattle.object_locks.specs.declared.holding.Mode.{Mode}
use Rattle.object_locks.specs.declared.holding.Mode.TheVariants.{Shared, Exclusive}
use Rattle.object_locks.specs.declared.holding.Holding.{Holding}

-- two uses of an object conflict unless both only read it
abbrev pub modes_conflict : Mode → Mode → Bool
modes_conflict Shared Shared = false
modes_conflict Shared Exclusive = true
modes_conflict Exclusive other = true

-- two holdings conflict if they are of one object, of two transactions, and in modes that do
abbrev pub conflicts : Holding → Holding → Bool
conflicts a b = (a.key.address == b.key.address) && not (a.transaction == b.transaction) && modes_conflict a.mode b.mode
