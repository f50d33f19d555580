-- The record of a flip: the copies of objects, each with its words as they stand.
use Rattle.std.specs.Prelude.{ℕ, ◌+◌, ◌==◌, List, [], ◌∷◌, length, slice_index, Option, None, Some, if◌then◌else◌}
use Rattle.heap_spaces.specs.Spaces.{SpacesState, flipped}
pub use Rattle.log_machine.specs.Copied.{moved_object, moved_objects}
pub use Rattle.log_records.specs.Copied.{copies_in, copied_size}
use Rattle.log_records.specs.Copied.{copied_words}
use Rattle.log_records.specs.declared.copies.ObjectCopy.{ObjectCopy}
use Rattle.log_records.specs.declared.Record.{Record}
use Rattle.log_records.specs.declared.Record.TheVariants.{Flip}
use Rattle.object_layout.specs.Layout.{object_at}

-- the words of the object at an address, if one of some length stands there
abbrev pub object_words_of : List ℕ → ℕ → Option ℕ → List ℕ
object_words_of words at None = []
object_words_of words at (Some n) = copied_words words at (slice_index words at)

-- the words of the object that stands at an address, its header and its birth first; none if there is no object
abbrev pub object_words_at : List ℕ → ℕ → List ℕ
object_words_at words at = object_words_of words at (object_at words at)

-- the copies of the objects at these addresses, end to end from an address on
abbrev pub copies_from : List ℕ → ℕ → List ℕ → List ObjectCopy
copies_from words to [] = []
copies_from words to (at ∷ ats) =
    record { from = at; to = to; words = object_words_at words at } ∷ copies_from words (to + length (object_words_at words at)) ats

-- the addresses of the roots, that of the root object first
abbrev pub with_base : ℕ → List ℕ → List ℕ
with_base base [] = base ∷ []
with_base base (root ∷ roots) = if root == base then root ∷ roots else base ∷ root ∷ roots

-- the copies of the root object and the other roots, end to end from the first word of the space that becomes current
abbrev pub root_copies : SpacesState → List ℕ → List ℕ → List ObjectCopy
root_copies spaces words roots = copies_from words (flipped spaces).base (with_base spaces.base roots)

-- the record of a flip
abbrev pub flip_record : SpacesState → List ℕ → List ℕ → Record
flip_record spaces words roots = Flip (root_copies spaces words roots)
