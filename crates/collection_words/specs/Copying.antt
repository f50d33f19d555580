-- The copy of an object of the from-space into the next words of the current space.
use Rattle.std.specs.Prelude.{ℕ, ◌+◌, List, [], ◌∷◌, ◌++◌, slice_index}
use Rattle.graph_model.specs.declared.id.Id.{Id}
use Rattle.log_records.specs.declared.copies.ObjectCopy.{ObjectCopy}
use Rattle.object_layout.specs.Layout.{birth_at, field_words}
use Rattle.log_machine.specs.Machine.{State, put_all, writes_of}
use Rattle.graph_words.specs.Places.{Places}

-- the words of the object at an address
abbrev pub words_to_copy : List ℕ → ℕ → List ℕ
words_to_copy words at = slice_index words at ∷ birth_at words at ∷ field_words words at

-- its copy, in the next words that are not used
abbrev pub next_copy : State → List ℕ → ℕ → ObjectCopy
next_copy s words from = record { from = from; to = s.base + s.used; words = words_to_copy words from }

-- the words after it
abbrev pub words_after_copy : State → List ℕ → ℕ → List ℕ
words_after_copy s words from = put_all words (writes_of (next_copy s words from))

-- the current places with that of an object's copy after them
abbrev pub with_place : State → Places → Id → Places
with_place s places id = places ++ (id, s.base + s.used) ∷ []
