-- The words as they would be if the collection that runs copied all that is left, and every reference were followed.
use Rattle.std.specs.Prelude.{◌≡◌, ℕ, ◌+◌, ◌<◌, ◌==◌, nat_le, nat_lt, List, [], ◌∷◌, ◌++◌, length, map, filter, slice_index, Bool, not, ◌&&◌, Option, None, Some, if◌then◌else◌}
use Rattle.std.specs.List.{flat_map, enumerate_from}
use Rattle.heap_words.specs.declared.Header.{Header}
use Rattle.heap_words.specs.declared.Header.TheVariants.{Length, Forward}
use Rattle.heap_words.specs.Header.{header}
use Rattle.heap_words.specs.declared.Word.{Word}
use Rattle.heap_words.specs.declared.Word.TheVariants as word
use Rattle.heap_words.specs.Word.{bits, meaning}
use Rattle.heap_spaces.specs.Collection.{Collection}
use Rattle.relocation.specs.Relocation.{moved_to}
use Rattle.object_layout.specs.Layout.{birth_at, field_words, object_at}
use Rattle.log_machine.specs.declared.UndoEntry.{UndoEntry}
use Rattle.log_machine.specs.Machine.{State, field_at, space_words, owed, put_all, taken_back}
use Rattle.log_machine.specs.Collecting.{other_base}
use Rattle.graph_model.specs.Graph.{Graph}
use Rattle.graph_words.specs.Places.{Places, addresses}
use Rattle.graph_words.specs.Stands.{Stands}

-- Objects end to end.

-- how many words the object at an address takes
abbrev pub taken_at : List ℕ → ℕ → ℕ
taken_at words at = 2 + length (field_words words at)

-- how many the objects at these addresses take
abbrev pub taken_by : List ℕ → List ℕ → ℕ
taken_by words [] = 0
taken_by words (at ∷ rest) = taken_at words at + taken_by words rest

-- where these objects go, if they are put end to end from an address on: each one's own address, and the one that it gets
abbrev pub moves_from : List ℕ → List ℕ → ℕ → List (ℕ × ℕ)
moves_from words [] to = []
moves_from words (at ∷ rest) to = (at, to) ∷ moves_from words rest (to + taken_at words at)

-- their places then
abbrev pub places_from : List ℕ → Places → ℕ → Places
places_from words [] to = []
places_from words (p ∷ ps) to = (p.0, to) ∷ places_from words ps (to + taken_at words p.1)

-- the objects that remain, each at the address that it will have after the used words
abbrev pub future : State → List ℕ → Places → Places
future s words remaining = places_from words remaining (s.base + s.used)

-- where all objects stand in the completed words: the current ones where they do, and those that remain after the used words
abbrev pub completed_places : State → Places → Places → List ℕ → Places
completed_places s places remaining words = places ++ future s words remaining

-- the places but the one at an address
abbrev pub without : Places → ℕ → Places
without places from = filter (λ p. not (p.1 == from)) places

-- References.

-- an address lies in the space that is not current: in the from-space, where a collection runs
abbrev pub in_other_space : State → ℕ → Bool
in_other_space s at = nat_le (other_base s) at && nat_lt at (other_base s + space_words s.pages)

-- where the object that stood at an address of the from-space stands in the end: its copy, or where it will be put
abbrev pub end_of : List (ℕ × ℕ) → ℕ → Option Header → ℕ
end_of moves from (Some (Forward to)) = to
end_of moves from (Some (Length n)) = moved_to moves from
end_of moves from None = moved_to moves from

-- a word of this meaning, with a reference into the from-space followed
abbrev pub followed_by : State → List ℕ → List (ℕ × ℕ) → ℕ → Option Word → ℕ
followed_by s words moves w None = w
followed_by s words moves w (Some word.Null) = w
followed_by s words moves w (Some (word.Int n)) = w
followed_by s words moves w (Some (word.Volatile index)) = w
followed_by s words moves w (Some (word.Stable from)) =
    if in_other_space s from then bits (word.Stable (end_of moves from (header (slice_index words from)))) else w

-- a field's word then, where these objects remain
abbrev pub followed : State → List ℕ → Places → ℕ → ℕ
followed s words remaining w = followed_by s words (moves_from words (addresses remaining) (s.base + s.used)) w (meaning w)

-- Completed words.

-- an object's words, with its fields followed
abbrev pub followed_words : (ℕ → ℕ) → List ℕ → ℕ → List ℕ
followed_words follow words at = slice_index words at ∷ birth_at words at ∷ map follow (field_words words at)

-- what puts it where it goes
abbrev pub move_writes : (ℕ → ℕ) → List ℕ → ℕ × ℕ → List (ℕ × ℕ)
move_writes follow words move = enumerate_from move.1 (followed_words follow words move.0)

-- the writes that complete the words: the objects of places and what remains stand end to end from the base on, and no field leads back
abbrev pub completing : State → Places → Places → List ℕ → List (ℕ × ℕ)
completing s places remaining words =
    flat_map (move_writes (followed s words remaining) words) (moves_from words (addresses (places ++ remaining)) s.base)

-- the completed words where such a collection runs or none
abbrev pub completed_in : State → Places → Places → List ℕ → Option Collection → List ℕ
completed_in s places remaining words None = words
completed_in s places remaining words (Some k) = put_all words (completing s places remaining words)

-- The completed words, where objects stand at places and these remain in the from-space: without a collection they are the words.
abbrev pub completed : State → Places → Places → List ℕ → List ℕ
completed s places remaining words = completed_in s places remaining words s.collection

-- An object stands elsewhere in other words, with its fields made others.
pub record IsMade (follow : ℕ → ℕ) (words others : List ℕ) (at to n : ℕ) : Type 0 where
  pub was : object_at words at ≡ Some n
  pub is : object_at others to ≡ Some n
  pub birth : birth_at others to ≡ birth_at words at
  pub fields : (i : ℕ) → i < n → slice_index others (field_at to i) ≡ follow (slice_index words (field_at at i))

-- A graph stands in the completed words when these writes are taken back, as a transaction that has made that many objects sees it.
abbrev pub StandsCompleted : ℕ → ℕ → Places → Places → Graph → List UndoEntry → List ℕ → State → Type 0
StandsCompleted t made places remaining g us words s =
    Stands t made (places ++ future s words remaining) g (taken_back us (completed s places remaining words)) s.base (s.used + owed s)
