-- The records of the log, and how they are spelled.
use Rattle.std.specs.Prelude.{◌≡◌, ℕ, ◌^◌, ◌<◌, List, [], ◌∷◌, ◌++◌, length}
use Rattle.std.specs.List.{flat_map, AllByRecursion}
use Rattle.std.specs.Int.{w16, w32, w64, to_le_bytes}
use Rattle.heap_words.specs.declared.Header.TheVariants.{Length}
use Rattle.heap_words.specs.Header.{header_bits}
use Rattle.heap_words.specs.Word.{IsFieldWord}
use Rattle.log_records.specs.declared.copies.ObjectCopy.{ObjectCopy}
use Rattle.log_records.specs.declared.Record.{Record}
use Rattle.log_records.specs.declared.Record.TheVariants.{Update, Base, Fix, Undo, Commit, End, Copy, Scan, Flip, Collected}
use Rattle.log_records.specs.Copies.{word_bytes, write_bytes, copy_bytes}

-- the bytes of a record: its kind and its fields, lowest bytes first
abbrev pub spelling : Record → List ℕ
spelling (Update t object field was word) =
    1 ∷ to_le_bytes w32 t ++ to_le_bytes w32 object ++ to_le_bytes w16 field ++ to_le_bytes w64 was ++ to_le_bytes w64 word
spelling (Base t address words) = 2 ∷ to_le_bytes w32 t ++ to_le_bytes w32 address ++ word_bytes words
spelling (Fix t object field word) = 3 ∷ to_le_bytes w32 t ++ to_le_bytes w32 object ++ to_le_bytes w16 field ++ to_le_bytes w64 word
spelling (Undo t object field word) = 4 ∷ to_le_bytes w32 t ++ to_le_bytes w32 object ++ to_le_bytes w16 field ++ to_le_bytes w64 word
spelling (Commit t) = 5 ∷ to_le_bytes w32 t
spelling (End t) = 6 ∷ to_le_bytes w32 t
spelling (Copy from to words) = 7 ∷ to_le_bytes w32 from ++ to_le_bytes w32 to ++ word_bytes words
spelling (Scan page writes) = 8 ∷ to_le_bytes w32 page ++ to_le_bytes w16 (length writes) ++ flat_map write_bytes writes
spelling (Flip copies) = 9 ∷ to_le_bytes w32 (length copies) ++ flat_map copy_bytes copies
spelling Collected = 10 ∷ []

abbrev pub spellings : List Record → List ℕ
spellings records = flat_map spelling records

-- the bytes are the spellings of so many records, one after another
abbrev pub AreSpelled : List ℕ → ℕ → Type 0
AreSpelled bytes count = (records : List Record) × (bytes ≡ spellings records) × (length records ≡ count)

-- the record of one copy
abbrev pub copy_record : ObjectCopy → Record
copy_record copy = Copy copy.from copy.to copy.words

-- the bytes begin with the record's spelling
abbrev pub Begins : List ℕ → Record → Type 0
Begins bytes rec = (rest : List ℕ) × (bytes ≡ spelling rec ++ rest)

-- an update that has a spelling
pub record IsUpdate (t object field was word : ℕ) : Type 0 where
  pub t_fits : t < 2 ^ 32
  pub object_fits : object < 2 ^ 32
  pub field_fits : field < 2 ^ 16
  pub was_word : IsFieldWord was
  pub new_word : IsFieldWord word

-- an object's words: the header says how many fields there are, and their words are those of fields
pub record IsObject (header birth : ℕ) (fields : List ℕ) : Type 0 where
  pub tells : header ≡ header_bits (Length (length fields))
  pub few : length fields < 511
  pub birth_fits : birth < 2 ^ 64
  pub field_words : AllByRecursion IsFieldWord fields

-- the words of an object: a header, a birth, and fields
abbrev pub IsObjectWords : List ℕ → Type 0
IsObjectWords [] = ⊥
IsObjectWords (header ∷ []) = ⊥
IsObjectWords (header ∷ birth ∷ fields) = IsObject header birth fields

-- a base that has a spelling
pub record IsBase (t address : ℕ) (words : List ℕ) : Type 0 where
  pub t_fits : t < 2 ^ 32
  pub address_fits : address < 2 ^ 32
  pub object : IsObjectWords words

-- a word put into a field, as an undo and a fix do it, that has a spelling
pub record IsPut (t object field word : ℕ) : Type 0 where
  pub t_fits : t < 2 ^ 32
  pub object_fits : object < 2 ^ 32
  pub field_fits : field < 2 ^ 16
  pub put_word : IsFieldWord word

-- a copy of an object that has a spelling
pub record IsCopy (from to : ℕ) (words : List ℕ) : Type 0 where
  pub from_fits : from < 2 ^ 32
  pub to_fits : to < 2 ^ 32
  pub object : IsObjectWords words

abbrev pub IsObjectCopy : ObjectCopy → Type 0
IsObjectCopy copy = IsCopy copy.from copy.to copy.words

-- a word put at an address that has a spelling
abbrev pub IsWrite : ℕ × ℕ → Type 0
IsWrite write = (write.0 < 2 ^ 32) × IsFieldWord write.1

-- a scan that has a spelling
pub record IsScan (page : ℕ) (writes : List (ℕ × ℕ)) : Type 0 where
  pub page_fits : page < 2 ^ 32
  pub few : length writes < 2 ^ 16
  pub each : AllByRecursion IsWrite writes

-- a flip that has a spelling
pub record IsFlip (copies : List ObjectCopy) : Type 0 where
  pub few : length copies < 2 ^ 32
  pub each : AllByRecursion IsObjectCopy copies

-- a record that has a spelling
abbrev pub IsRecord : Record → Type 0
IsRecord (Update t object field was word) = IsUpdate t object field was word
IsRecord (Base t address words) = IsBase t address words
IsRecord (Fix t object field word) = IsPut t object field word
IsRecord (Undo t object field word) = IsPut t object field word
IsRecord (Commit t) = t < 2 ^ 32
IsRecord (End t) = t < 2 ^ 32
IsRecord (Copy from to words) = IsCopy from to words
IsRecord (Scan page writes) = IsScan page writes
IsRecord (Flip copies) = IsFlip copies
IsRecord Collected = Unit {0}
