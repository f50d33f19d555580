-- Writes into fields of current objects.
use Rattle.std.specs.Prelude.{◌≡◌, ℕ, ◌<◌, List, slice_index, Some, Contains}
use Rattle.std.specs.List.{AllByRecursion}
use Rattle.heap_words.specs.declared.Word.TheVariants as word
use Rattle.heap_words.specs.Word.{bits, meaning}
use Rattle.object_layout.specs.Layout.{object_at}
use Rattle.log_machine.specs.declared.UndoEntry.{UndoEntry}
use Rattle.log_machine.specs.Machine.{State, field_at}
use Rattle.graph_words.specs.Places.{Places, addresses}
use Rattle.collection_words.specs.Completed.{followed}
use Rattle.collection_words.specs.LaidOut.{LeadsHere}

-- A field of an object that stands at one of these places.
pub record IsCurrentField (places : Places) (words : List ℕ) (object field : ℕ) : Type 0 where
  pub start : Contains (addresses places) object
  pub fields : ℕ
  pub stands : object_at words object ≡ Some fields
  pub within : field < fields

-- A write into such a field, of a word that leads to one of these objects, or to none.
pub record IsHereWrite (places : Places) (words : List ℕ) (object field word : ℕ) : Type 0 where
  pub is : IsCurrentField places words object field
  pub leads : LeadsHere (addresses places) (meaning word)

-- the writes that may be taken back put such words back
abbrev pub AreBacked : Places → List ℕ → List UndoEntry → Type 0
AreBacked places words us = AllByRecursion (λ u. IsHereWrite places words u.object u.field u.was) us

-- A write of a scan: it puts into such a field what the field's word follows to, which is a reference to one of these objects.
pub record IsScanWrite (s : State) (places remaining : Places) (words : List ℕ) (write : ℕ × ℕ) : Type 0 where
  pub object : ℕ
  pub field : ℕ
  pub to : ℕ
  pub at : write.0 ≡ field_at object field
  pub is : IsCurrentField places words object field
  pub word : write.1 ≡ bits (word.Stable to)
  pub leads : Contains (addresses places) to
  pub follows : followed s words remaining (slice_index words write.0) ≡ write.1
