-- A seal where it finds the heap: what its transaction sees, has made and has written, and what the seal leaves.
use Rattle.std.specs.Prelude.{◌≡◌, ℕ, ◌+◌, ◌≤◌, List, ◌++◌, length, map, slice_get, slice_index, Contains, Some, fold}
use Rattle.heap_words.specs.declared.Word.{Word}
use Rattle.heap_words.specs.declared.Word.TheVariants.{Volatile}
use Rattle.heap_words.specs.Word.{meaning}
use Rattle.graph_model.specs.declared.id.Id.{Id}
use Rattle.graph_model.specs.Graph.{Graph}
use Rattle.log_records.specs.declared.Record.{Record}
use Rattle.log_machine.specs.declared.UndoEntry.{UndoEntry}
use Rattle.log_machine.specs.Machine.{field_at, put_record}
use Rattle.object_layout.specs.Layout.{field_words}
use Rattle.volatile_area.specs.Area.{AreaState, starts_of}
use Rattle.graph_words.specs.Places.{Places, place_of}
use Rattle.graph_words.specs.Area.{HasMade, area_of}
use Rattle.graph_words.specs.Stands.{Stands, AreWritten, AreOfFields}
use Rattle.graph_words.specs.Promotion.{Field, Move, written_fields, moves_to, base_of, promoted_places}
use Rattle.graph_words.proofs.Places.Moves.{AreDistinct, words_needed}
use Rattle.graph_words.proofs.Promotion.Fix.{fixes}

-- A seal: where it finds the heap, and which objects of its transaction's area it promotes.
pub record Sealing : Type 0 where
  pub places : Places  -- the objects that stand in the current space
  pub g : Graph  -- the graph that the transaction sees
  pub t : ℕ  -- its number
  pub made : ℕ  -- how many objects it has made
  pub undo : List UndoEntry  -- what it has written into the space
  pub words : List ℕ
  pub base : ℕ  -- where the space begins
  pub used : ℕ  -- how many words of it are used
  pub starts : List ℕ  -- the objects that are promoted
  pub address : ℕ  -- where the first of them goes

-- where objects stand before the seal
abbrev pub place : Sealing → Id → Word
place c = place_of c.places c.g

-- the transaction's area
abbrev pub area : Sealing → AreaState
area c = area_of (place c) c.g c.t c.made

-- the objects that move: they get the words from the address on
abbrev pub moves : Sealing → List Move
moves c = moves_to (area c) c.starts c.address

-- how many words they need
abbrev pub need : Sealing → ℕ
need c = words_needed (area c) c.starts

-- the records of the objects, and then of the fields that are put right
abbrev pub records : Sealing → List Record
records c = map (base_of (area c) (moves c)) (moves c) ++ fixes c.t c.words (moves c) (written_fields c.undo)

-- the words after the seal
abbrev pub later_words : Sealing → List ℕ
later_words c = fold put_record c.words (records c)

-- the objects that stand in the space then
abbrev pub later_places : Sealing → Places
later_places c = c.places ++ promoted_places (area c) (moves c)

-- where objects stand then
abbrev pub later_place : Sealing → Id → Word
later_place c = place_of (later_places c) c.g

-- What is promoted: objects of the area, none twice; each that a word of these fields refers to; and each that a field of one of them does.
pub record ArePromoted (area : AreaState) (words : List ℕ) (fields : List Field) (starts : List ℕ) : Type 0 where
  pub own : (at : ℕ) → Contains starts at → Contains (starts_of area) at
  pub distinct : AreDistinct starts
  pub named : (f : Field) (at : ℕ) → Contains fields f → meaning (slice_index words (field_at f.0 f.1)) ≡ Some (Volatile at) → Contains (starts_of area) at → Contains starts at
  pub along : (from i w at : ℕ) → Contains starts from → slice_get (field_words area.words from) i ≡ Some w → meaning w ≡ Some (Volatile at) → Contains (starts_of area) at
      → Contains starts at

-- What a seal finds: the graph stands there as its transaction sees it, and a reference has room for each address that it gives.
pub record IsSealing (c : Sealing) : Type 0 where
  pub stands : Stands c.t c.made c.places c.g c.words c.base c.used
  pub has : HasMade c.places c.g c.t c.made
  pub written : AreWritten c.places c.g c.undo
  pub of_fields : AreOfFields c.places c.g c.undo
  pub promotion : ArePromoted (area c) c.words (written_fields c.undo) c.starts
  pub top : c.address + need c ≤ 2097152

-- Such a seal gives the words after those that are used, and there are as many.
pub record Appends (c : Sealing) : Type 0 where
  pub sealing : IsSealing c
  pub end : c.address ≡ c.base + c.used
  pub room : c.address + need c ≤ length c.words
