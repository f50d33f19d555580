-- What holds of the writes that may be taken back.
use Rattle.std.specs.Prelude.{ℕ, ◌+◌, ◌<◌, ◌≤◌}
use Rattle.log_machine.specs.declared.UndoEntry.{UndoEntry}

-- the write of a field of an object, which replaced a word
abbrev pub undo_entry : ℕ → ℕ → ℕ → UndoEntry
undo_entry object field was = record { object = object; field = field; was = was }

-- the write's field lies in the used words of a space
pub record LiesInside (base used : ℕ) (u : UndoEntry) : Type 0 where
  pub above : base ≤ u.object
  pub below : u.object + 2 + u.field < base + used
