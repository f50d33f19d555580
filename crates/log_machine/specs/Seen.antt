-- What contracts see of the writes that may be taken back, as they lie in memory.
use Rattle.std.specs.Prelude.{ℕ, List, map, reverse}
use Rattle.std.specs.Ordering.{nat_cmp}
use Rattle.std.specs.FinMap.{FinMap, from_entries}
use Rattle.std.specs.Global.{Vec}
use Rattle.log_machine.specs.declared.UndoEntry.{UndoEntry}
use Rattle.log_machine.specs.Machine.{Loser}

-- a transaction's writes, of which the newest stands last
abbrev pub seen_loser : ℕ × Vec UndoEntry → Loser
seen_loser e = (e.0, reverse e.1.items)

abbrev pub seen_undo : List (ℕ × Vec UndoEntry) → FinMap nat_cmp (List UndoEntry)
seen_undo entries = from_entries (map seen_loser entries)
