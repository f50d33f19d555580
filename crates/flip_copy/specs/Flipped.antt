-- The state of the record machine after a flip.
use Rattle.std.specs.Prelude.{◌≡◌, ℕ, ◌<◌, List, Some, None, Contains}
use Rattle.heap_spaces.specs.Copying.{begun, with_copies}
use Rattle.heap_words.specs.Word.{meaning}
use Rattle.heap_words.specs.declared.Word.TheVariants.{Stable}
use Rattle.log_machine.specs.Collecting.{other_base, pairs_of, translated_undo}
use Rattle.log_machine.specs.Entries.{EachKeyed}
use Rattle.log_machine.specs.Machine.{State, spaces_of}
use Rattle.log_machine.specs.Sound.{IsConsistent}
use Rattle.log_machine.specs.declared.UndoEntry.{UndoEntry}
use Rattle.log_records.specs.declared.copies.ObjectCopy.{ObjectCopy}
use Rattle.object_layout.specs.Layout.{object_at}
use Rattle.flip_copy.specs.Copied.{root_copies, with_base, moved_objects, copied_size}
use Rattle.flip_copy.specs.Plan.{AreCopiesOf}

-- An undo entry is of a field of one of the objects at these addresses, and so is what its word leads to, if that is a stable object.
pub record IsRooted (words roots : List ℕ) (u : UndoEntry) : Type 0 where
  pub object : Contains roots u.object
  pub field : (n : ℕ) → object_at words u.object ≡ Some n → u.field < n
  pub was : (address : ℕ) → meaning u.was ≡ Some (Stable address) → Contains roots address

-- so is each entry of each transaction
abbrev pub AreRooted : List ℕ → List ℕ → State → Type 0
AreRooted words roots s = EachKeyed (λ t entries. (u : UndoEntry) → Contains entries u → IsRooted words roots u) s.undo

-- the state after a flip with these copies
abbrev pub with_flip : State → List ObjectCopy → State
with_flip s copies = record s {
  base = other_base s;
  used = copied_size copies;
  collection = Some (with_copies (begun s.used) (moved_objects copies));
  undo = translated_undo (pairs_of copies) s.undo;
}

-- A flip is planned with these copies, for a state in which no collection runs: they are those of the roots, and all that undo entries name is a root.
pub record IsPlanned (s : State) (words roots : List ℕ) (copies : List ObjectCopy) : Type 0 where
  pub consistent : IsConsistent s
  pub none : s.collection ≡ None
  pub are : copies ≡ root_copies (spaces_of s) words roots
  pub copied : AreCopiesOf (spaces_of s) copies
  pub rooted : AreRooted words (with_base s.base roots) s
