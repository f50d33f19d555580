-- The runs of words that a record writes: each is an address and the words from it on.
use Rattle.std.specs.Prelude.{ℕ, List, [], ◌∷◌, map}
use Rattle.std.specs.List.{flat_map}
use Rattle.log_records.specs.Copied.{copies_in}
use Rattle.log_records.specs.declared.copies.ObjectCopy.{ObjectCopy}
use Rattle.log_records.specs.declared.Record.{Record}
use Rattle.log_records.specs.declared.Record.TheVariants.{Update, Base, Fix, Undo, Scan}
use Rattle.heap_words.specs.declared.Header.TheVariants.{Forward}
use Rattle.heap_words.specs.Header.{header_bits}
use Rattle.log_machine.specs.Machine.{field_at}

-- those of a copy of an object: its words, and the word that leads to them where the object stood
abbrev pub copy_runs : ℕ → ℕ → List ℕ → List (ℕ × List ℕ)
copy_runs from to words = (to, words) ∷ (from, header_bits (Forward to) ∷ []) ∷ []

-- those of these copies
abbrev pub copies_runs : List ObjectCopy → List (ℕ × List ℕ)
copies_runs copies = flat_map (λ k. copy_runs k.from k.to k.words) copies

-- those of these writes: each is one of its own
abbrev pub write_runs : List (ℕ × ℕ) → List (ℕ × List ℕ)
write_runs writes = map (λ w. (w.0, w.1 ∷ [])) writes

-- those of a record: one that neither writes fields nor makes an object stable writes what it copies
abbrev pub runs : Record → List (ℕ × List ℕ)
runs (Update t object field was word) = (field_at object field, word ∷ []) ∷ []
runs (Base t address words) = (address, words) ∷ []
runs (Fix t object field word) = (field_at object field, word ∷ []) ∷ []
runs (Undo t object field word) = (field_at object field, word ∷ []) ∷ []
runs (Scan page writes) = write_runs writes
runs rec = copies_runs (copies_in rec)
