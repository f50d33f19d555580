-- Where a record writes, as ranges of words: each is an address and how many words from it on. No word is in them.
use Rattle.std.specs.Prelude.{ℕ, zero, suc, ◌+◌, ◌-◌, List, [], ◌∷◌, length, map}
use Rattle.std.specs.List.{flat_map}
use Rattle.heap_spaces.specs.Collection.{page_of}
use Rattle.log_records.specs.Copied.{copies_in, copy_size}
use Rattle.log_records.specs.declared.copies.ObjectCopy.{ObjectCopy}
use Rattle.log_records.specs.declared.Record.{Record}
use Rattle.log_records.specs.declared.Record.TheVariants.{Update, Base, Fix, Undo, Scan}
use Rattle.log_machine.specs.Machine.{field_at}

-- those of a copy: where it stands, and the one word that leads to it where the object stood
abbrev pub copy_ranges : ObjectCopy → List (ℕ × ℕ)
copy_ranges copy = (copy.to, copy_size copy) ∷ (copy.from, 1) ∷ []

-- those of a record
abbrev pub ranges : Record → List (ℕ × ℕ)
ranges (Update t object field was word) = (field_at object field, 1) ∷ []
ranges (Base t address words) = (address, length words) ∷ []
ranges (Fix t object field word) = (field_at object field, 1) ∷ []
ranges (Undo t object field word) = (field_at object field, 1) ∷ []
ranges (Scan page writes) = map (λ write. (write.0, 1)) writes
ranges rec = flat_map copy_ranges (copies_in rec)

-- so many pages from one on
abbrev pub pages_from : ℕ → ℕ → List ℕ
pages_from first zero = []
pages_from first (suc more) = first ∷ pages_from (first + 1) more

-- the pages in which so many words from an address on lie
abbrev pub pages_at : ℕ → ℕ → List ℕ
pages_at address zero = []
pages_at address (suc more) = pages_from (page_of address) (page_of (address + more) + 1 - page_of address)

-- the pages of a range
abbrev pub range_pages : ℕ × ℕ → List ℕ
range_pages range = pages_at range.0 range.1
