-- A write, as records encode it.
use Rattle.std.proofs.Common.{◌≡◌, inl, inr, ℕ, ◌≤◌, List, ◌∷◌, length, Some, arith}
use Rattle.std.specs.Prelude.{slice_index_or}
use Rattle.graph_model.specs.declared.id.Id.{Id}
use Rattle.graph_model.specs.declared.val.Val.{Val}
use Rattle.graph_model.specs.declared.val.Val.TheVariants.{Null}
use Rattle.graph_model.specs.Graph.{Graph, fields}
use Rattle.log_records.specs.declared.Record.{Record}
use Rattle.log_records.specs.declared.Record.TheVariants.{Update}
use Rattle.log_machine.specs.declared.UndoEntry.{UndoEntry}
use Rattle.log_machine.specs.UndoEntry.{undo_entry}
use Rattle.log_machine.specs.Machine.{State, undo_of, with_entries, turned}
use Rattle.graph_words.specs.Places.{Places, IsOld, AreOld, address_of, place_of, bits_of}
use Rattle.graph_words.specs.Stands.{IsOfField, AreOfFields}
use Rattle.heap_model.proofs.ListLaws.{AllByRecursion-map}

-- Names.

-- old names stay old
pub older : (next later : ℕ) (places : Places) → next ≤ later → AreOld next places → AreOld later places
older next later places le old = AllByRecursion-map (λ p. IsOld next p.0) (λ p. IsOld later p.0) places (λ p is. elim is [ inl here ↦ inl here | inr from ↦ inr (from.0, omega (arith, from.1)) ]) old

-- Fields that were written.

-- they are fields of a graph whose standing objects have the same lengths
pub of_fields_kept : (places : Places) (g h : Graph) (undo : List UndoEntry) → ((id : Id) (at : ℕ) → address_of places id ≡ Some at → length (fields h id) ≡ length (fields g id))
    → AreOfFields places g undo → AreOfFields places h undo
of_fields_kept places g h undo same all = AllByRecursion-map (IsOfField places g) (IsOfField places h) undo
    (λ u is. record { id = is.id; object = is.object; field = omega (arith, same is.id u.object is.object, is.field) }) all

-- A write.

-- the word of a value where objects of a graph stand at these places
abbrev pub word_in : Places → Graph → Val → ℕ
word_in places g v = bits_of (place_of places g) v

-- what it replaces
abbrev pub entry_of : Places → Graph → Id → ℕ → ℕ → UndoEntry
entry_of places g id at i = undo_entry at i (word_in places g (slice_index_or (fields g id) i Null))

-- its record
abbrev pub update_of : Places → Graph → ℕ → Id → ℕ → ℕ → Val → Record
update_of places g t id at i v = Update t at i (word_in places g (slice_index_or (fields g id) i Null)) (word_in places g v)

-- the state after it
abbrev pub written : State → ℕ → UndoEntry → State
written s t u = turned s t (with_entries s.undo t (u ∷ undo_of s t)) 0
