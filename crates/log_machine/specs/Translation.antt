-- Undo entries after objects have moved.
use Rattle.std.specs.Prelude.{ℕ, List, map}
use Rattle.relocation.specs.Relocation.{moved_to, translated_word}
use Rattle.log_machine.specs.declared.UndoEntry.{UndoEntry}

-- an entry then: it names its object by its new address, and a reference that it would put back leads to the object's new address
abbrev pub translated_entry : List (ℕ × ℕ) → UndoEntry → UndoEntry
translated_entry pairs u = record u { object = moved_to pairs u.object; was = translated_word pairs u.was }

-- entries then, in their order
abbrev pub translated_list : List (ℕ × ℕ) → List UndoEntry → List UndoEntry
translated_list pairs us = map (translated_entry pairs) us
