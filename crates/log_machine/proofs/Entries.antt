-- Entries that an object's write leaves.
use Rattle.std.specs.Prelude.{◌^◌, ◌<◌}
use Rattle.heap_words.specs.Word.{IsFieldWord}
use Rattle.log_machine.specs.declared.UndoEntry.{UndoEntry}

-- a write whose undo has a spelling
pub record IsEntry (u : UndoEntry) : Type 0 where
  pub object_fits : u.object < 2 ^ 32
  pub field_fits : u.field < 2 ^ 16
  pub was_word : IsFieldWord u.was
