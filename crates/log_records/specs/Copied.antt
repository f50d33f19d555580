-- The copies that a record lists: the one list by which the rows of the record machine, addresses, places and bytes go.
use Rattle.std.specs.Prelude.{ℕ, ◌+◌, List, [], ◌∷◌, length, take, drop, slice_index, sum_by}
use Rattle.heap_words.specs.Size.{object_size}
use Rattle.log_records.specs.declared.copies.ObjectCopy.{ObjectCopy}
use Rattle.log_records.specs.declared.Record.{Record}
use Rattle.log_records.specs.declared.Record.TheVariants.{Copy, Flip}

-- the copies of a record, in their order
abbrev pub copies_in : Record → List ObjectCopy
copies_in (Copy from to words) = record { from = from; to = to; words = words } ∷ []
copies_in (Flip copies) = copies
copies_in rec = []

-- the header of a copy
abbrev pub copy_header : ObjectCopy → ℕ
copy_header copy = slice_index copy.words 0

-- how many words it takes, and its object took
abbrev pub copy_size : ObjectCopy → ℕ
copy_size copy = length copy.words

-- how many words the copies take
abbrev pub copied_size : List ObjectCopy → ℕ
copied_size copies = sum_by copy_size copies

-- the words of a copy of the object at an address, from the words before it: those of an object with this header
abbrev pub copied_words : List ℕ → ℕ → ℕ → List ℕ
copied_words now from header = take (object_size header) (header ∷ drop (from + 1) now)
