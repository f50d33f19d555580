-- A seal of a transaction within a collection: where it finds the heap, and what it leaves.
use Rattle.std.specs.Prelude.{◌≡◌, ◌≢◌, ℕ, ◌+◌, ◌≤◌, List, [], ◌++◌, slice_get, fold, max, Contains, None, Some, true}
use Rattle.std.specs.List.{AllByRecursion}
use Rattle.std.specs.FinMap as finite
use Rattle.heap_spaces.specs.Collection.{Collection}
use Rattle.graph_model.specs.Graph.{Graph, fields}
use Rattle.graph_model.specs.declared.id.Id.{Id}
use Rattle.graph_model.specs.declared.val.Val.TheVariants.{Ref}
use Rattle.log_records.specs.declared.Record.{Record}
use Rattle.log_machine.specs.declared.UndoEntry.{UndoEntry}
use Rattle.log_machine.specs.Machine.{State, field_at, is_number, owed, put_record, space_words, taken_back}
use Rattle.volatile_area.specs.Area.{AreaState}
use Rattle.graph_words.specs.Area.{HasMade, area_of}
use Rattle.graph_words.specs.Places.{Places, address_of, made_by, place_of}
use Rattle.graph_words.specs.Promotion.{Field, moves_of, promoted_need, promoted_places, promotion_records, seal_records, written_fields}
use Rattle.graph_words.specs.Stands.{AreOfFields, AreWritten, IsWritten, Stands}
use Rattle.collection_words.specs.Completed.{StandsCompleted, completed, future}
use Rattle.collection_words.specs.LaidOut.{IsUnderway}
use Rattle.collection_words.specs.Writes.{AreBacked}

-- An active transaction and the heap, where it may be sealed.
pub record Seal : Type 0 where
  pub state : State
  pub collection : Collection
  pub places : Places  -- the current objects
  pub remaining : Places  -- those that remain in the from-space
  pub words : List ℕ  -- all words
  pub g : Graph  -- the graph that the transaction sees
  pub t : ℕ  -- its number
  pub made : ℕ  -- how many objects it has made
  pub undo : List UndoEntry  -- what it has written
  pub others : List UndoEntry  -- what the other active transactions have written

-- a transaction that begins, where all others have written this
abbrev pub begun : State → Collection → Places → Places → List ℕ → Graph → ℕ → List UndoEntry → Seal
begun s k places remaining words g t others = record {
  state = s;
  collection = k;
  places = places;
  remaining = remaining;
  words = words;
  g = g;
  t = t;
  made = 0;
  undo = [];
  others = others;
}

-- The seal.

-- the transaction's area
abbrev pub area : Seal → AreaState
area c = area_of (place_of c.places c.g) c.g c.t c.made

-- the words as it sees them
abbrev pub seen : Seal → List ℕ
seen c = taken_back c.others c.words

-- how many words it asks for
abbrev pub asked : Seal → ℕ
asked c = promoted_need (area c) (seen c) c.undo

-- the next free word
abbrev pub next_free : Seal → ℕ
next_free c = c.state.base + c.state.used

-- its records
abbrev pub records : Seal → List Record
records c = seal_records (area c) (seen c) c.undo (next_free c)

-- After it.

-- the state
abbrev pub last : Seal → State
last c = record c.state { used = c.state.used + asked c; undo = finite.remove c.state.undo c.t; commits = c.state.commits + 1; next = max c.state.next (c.t + 1) }

-- the places of what it has promoted
abbrev pub placed : Seal → Places
placed c = promoted_places (area c) (moves_of (area c) (seen c) c.undo (next_free c))

-- the current objects
abbrev pub later_places : Seal → Places
later_places c = c.places ++ placed c

-- the words
abbrev pub later_words : Seal → List ℕ
later_words c = fold put_record c.words (records c)

-- The seal of the completed words, as if the collection had copied all: what is promoted goes after what is owed to the collection.

-- all objects, each where it will stand
abbrev pub all : Seal → Places
all c = c.places ++ future c.state c.words c.remaining

-- the completed words
abbrev pub whole : Seal → List ℕ
whole c = completed c.state c.places c.remaining c.words

-- how many words are used then
abbrev pub used_then : Seal → ℕ
used_then c = c.state.used + owed c.state

-- the address of the first object that is promoted
abbrev pub free_then : Seal → ℕ
free_then c = c.state.base + used_then c

-- the completed words as the transaction sees them
abbrev pub seen_then : Seal → List ℕ
seen_then c = taken_back c.others (whole c)

-- the records of its promotion
abbrev pub records_then : Seal → List Record
records_then c = promotion_records (area c) (seen_then c) c.undo (free_then c)

-- the places of what it has promoted
abbrev pub placed_then : Seal → Places
placed_then c = promoted_places (area c) (moves_of (area c) (seen_then c) c.undo (free_then c))

-- What it finds.

-- The fields of current objects that lead to objects with no place are among those that these writes wrote.
abbrev pub AreWrittenWithin : Places → Places → Graph → List UndoEntry → Type 0
AreWrittenWithin places remaining g undo =
    (id target : Id) (at i : ℕ) → address_of places id ≡ Some at → slice_get (fields g id) i ≡ Some (Ref target) → address_of (places ++ remaining) target ≡ None
    → IsWritten undo at i

-- no write of the one list is of a field that the other has written
abbrev pub AreBeside : List UndoEntry → List UndoEntry → Type 0
AreBeside us vs = AllByRecursion (λ u. AllByRecursion (λ v. field_at u.object u.field ≢ field_at v.object v.field) vs) us

-- What an active transaction sees within a collection: its graph stands in the completed words, what it made leads to current objects or to
-- its own, and what it has written is of fields of current objects.
pub record IsSeenWithin (c : Seal) : Type 0 where
  pub underway : IsUnderway c.state c.collection c.places c.remaining c.words
  pub stands : StandsCompleted c.t c.made c.places c.remaining c.g c.others c.words c.state
  pub has : HasMade c.places c.g c.t c.made
  pub none_left : (i : ℕ) → address_of c.remaining (made_by c.t i) ≡ None
  pub written : AreWrittenWithin c.places c.remaining c.g c.undo
  pub of_fields : AreOfFields c.places c.g c.undo
  pub backed : AreBacked c.places c.words c.undo
  pub others_backed : AreBacked c.places c.words c.others

-- Such a transaction can be sealed: the others have written other fields, and there is room for what it promotes beside what is owed to the
-- collection.
pub record CanSealWithin (c : Seal) : Type 0 where
  pub sees : IsSeenWithin c
  pub beside : AreBeside c.undo c.others
  pub number : is_number c.t ≡ true
  pub room : c.state.used + asked c + owed c.state ≤ space_words c.state.pages

-- What another transaction sees after the seal of the completed words, as the law of a seal without a collection says it.
pub record IsSeenThen (c : Seal) (u made : ℕ) (g : Graph) (undo others : List UndoEntry) : Type 0 where
  pub stands : Stands u made (all c ++ placed_then c) g (taken_back others (fold put_record (whole c) (records_then c))) c.state.base (used_then c + asked c)
  pub has : HasMade (all c ++ placed_then c) g u made
  pub written : AreWritten (all c ++ placed_then c) g undo
  pub of_fields : AreOfFields (all c ++ placed_then c) g undo

-- the heap, with what another transaction sees of it
abbrev pub seen_by : Seal → ℕ → ℕ → Graph → List UndoEntry → List UndoEntry → Seal
seen_by c u made g undo others = record c { g = g; t = u; made = made; undo = undo; others = others }

-- the heap after the seal, with what it sees then
abbrev pub seen_behind : Seal → ℕ → ℕ → Graph → List UndoEntry → List UndoEntry → Seal
seen_behind c u made g undo others =
    record c { state = last c; places = later_places c; words = later_words c; g = g; t = u; made = made; undo = undo; others = others }

-- no field that the transaction wrote has this word
abbrev pub IsBesideFields : Seal → ℕ → Type 0
IsBesideFields c x = (f : Field) → Contains (written_fields c.undo) f → field_at f.0 f.1 ≢ x
