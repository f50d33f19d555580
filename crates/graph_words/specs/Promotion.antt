-- What a seal does: the objects that become reachable get the next free words, and the fields that led to them are put right.
use Rattle.std.specs.Prelude.{ℕ, ◌+◌, ◌==◌, List, [], ◌∷◌, ◌++◌, map, slice_index, Option, None, Some, if◌then◌else◌}
use Rattle.std.specs.List.{flat_map}
use Rattle.std.specs.Ordering.{nat_cmp, ordering_then}
use Rattle.std.specs.declared.cmp.Ordering.{Ordering}
use Rattle.std.specs.FinMap.{from_entries, keys}
use Rattle.heap_words.specs.declared.Word.{Word}
use Rattle.heap_words.specs.declared.Word.TheVariants.{Stable, Volatile}
use Rattle.heap_words.specs.Word.{bits, meaning}
use Rattle.log_records.specs.declared.Record.{Record}
use Rattle.log_records.specs.declared.Record.TheVariants.{Base, Fix, Commit}
use Rattle.log_machine.specs.declared.UndoEntry.{UndoEntry}
use Rattle.log_machine.specs.Machine.{field_at}
use Rattle.object_layout.specs.Layout.{field_words, birth_at, id_at}
use Rattle.volatile_area.specs.Area.{AreaState, length_at}
use Rattle.stability_tracker.specs.Promotion.{promoted, need}
use Rattle.graph_words.specs.Places.{Places}

-- A field of an object that stands in the current space, by the object's address and the field's number.
abbrev pub Field : Type 0
Field = ℕ × ℕ

-- fields go by object, and then by number
abbrev pub field_cmp : Field → Field → Ordering
field_cmp a b = ordering_then (nat_cmp a.0 b.0) (nat_cmp a.1 b.1)

-- the field that a write wrote
abbrev pub field_of : UndoEntry → Field
field_of u = (u.object, u.field)

-- the fields that these writes wrote, each once, ascending
abbrev pub written_fields : List UndoEntry → List Field
written_fields undo = keys {R = field_cmp} (from_entries (map (λ u. (field_of u, tt {0})) undo))

-- the words that stand in these fields
abbrev pub words_in_fields : List ℕ → List Field → List ℕ
words_in_fields words fields = map (λ f. slice_index words (field_at f.0 f.1)) fields

-- the words that an object of an area takes
abbrev pub words_taken : AreaState → ℕ → ℕ
words_taken area at = 2 + length_at area.words at

-- An object's index in the area, and the address that it gets.
abbrev pub Move : Type 0
Move = ℕ × ℕ

-- the objects with these indices get the words from an address on, one after the other
abbrev pub moves_to : AreaState → List ℕ → ℕ → List Move
moves_to area [] address = []
moves_to area (at ∷ rest) address = (at, address) ∷ moves_to area rest (address + words_taken area at)

-- the address that the object with an index gets
abbrev pub moved : List Move → ℕ → Option ℕ
moved [] at = None
moved (m ∷ ms) at = if m.0 == at then Some m.1 else moved ms at

-- the word of a reference to an address, or this word where there is none
abbrev pub stable_or : ℕ → Option ℕ → ℕ
stable_or w None = w
stable_or w (Some address) = bits (Stable address)

-- the same for a word with this meaning
abbrev pub moved_meant : List Move → ℕ → Option Word → ℕ
moved_meant moves w (Some (Volatile at)) = stable_or w (moved moves at)
moved_meant moves w meant = w

-- a field's word after the move: one that referred to an object which moved refers to its address
abbrev pub moved_word : List Move → ℕ → ℕ
moved_word moves w = moved_meant moves w (meaning w)

-- the words of an object of the area after the move: the same header and birth, and its fields after the move
abbrev pub promoted_words : AreaState → List Move → ℕ → List ℕ
promoted_words area moves at = slice_index area.words at ∷ birth_at area.words at ∷ map (moved_word moves) (field_words area.words at)

-- the record that puts an object of the area at its address
abbrev pub base_of : AreaState → List Move → Move → Record
base_of area moves m = Base area.transaction m.1 (promoted_words area moves m.0)

-- the record that puts a word of this meaning right, where it stands in a field
abbrev pub fix_meant : ℕ → List Move → Field → ℕ → Option Word → List Record
fix_meant t moves f w (Some (Volatile at)) = Fix t f.0 f.1 (moved_word moves w) ∷ []
fix_meant t moves f w meant = []

-- the record that puts a field right, if it referred to an object of the area
abbrev pub fix_of : ℕ → List ℕ → List Move → Field → List Record
fix_of t words moves f = let w = slice_index words (field_at f.0 f.1) in fix_meant t moves f w (meaning w)

-- the objects that a seal promotes, where the transaction made these writes: those that are reached from the fields that it wrote
abbrev pub promoted_by : AreaState → List ℕ → List UndoEntry → List ℕ
promoted_by area words undo = promoted area (words_in_fields words (written_fields undo))

-- how many words they take
abbrev pub promoted_need : AreaState → List ℕ → List UndoEntry → ℕ
promoted_need area words undo = need area (promoted_by area words undo)

-- the objects that the seal moves: they get the words from an address on
abbrev pub moves_of : AreaState → List ℕ → List UndoEntry → ℕ → List Move
moves_of area words undo address = moves_to area (promoted_by area words undo) address

-- the records that promote what a transaction made: each object's, and then each field's
abbrev pub promotion_records : AreaState → List ℕ → List UndoEntry → ℕ → List Record
promotion_records area words undo address =
    let moves = moves_of area words undo address in
    map (base_of area moves) moves ++ flat_map (fix_of area.transaction words moves) (written_fields undo)

-- the records of a seal
abbrev pub seal_records : AreaState → List ℕ → List UndoEntry → ℕ → List Record
seal_records area words undo address = promotion_records area words undo address ++ Commit area.transaction ∷ []

-- the places of the objects that a seal moves
abbrev pub promoted_places : AreaState → List Move → Places
promoted_places area moves = map (λ m. (id_at area.words m.0, m.1)) moves
