-- The bytes of what a record lists: words, writes, and copies of objects.
use Rattle.std.specs.Prelude.{ℕ, ◌^◌, ◌<◌, ◌≤◌, List, ◌++◌, length}
use Rattle.std.specs.List.{flat_map, AllByRecursion}
use Rattle.std.specs.Int.{w32, w64, to_le_bytes}
use Rattle.log_records.specs.declared.copies.ObjectCopy.{ObjectCopy}

-- the bytes of words, lowest bytes first
abbrev pub word_bytes : List ℕ → List ℕ
word_bytes words = flat_map (to_le_bytes w64) words

-- the bytes of a word put at an address
abbrev pub write_bytes : ℕ × ℕ → List ℕ
write_bytes write = to_le_bytes w32 write.0 ++ to_le_bytes w64 write.1

-- the bytes of a copy: where its object stood, where the copy stands, and its words
abbrev pub copy_bytes : ObjectCopy → List ℕ
copy_bytes copy = to_le_bytes w32 copy.from ++ to_le_bytes w32 copy.to ++ word_bytes copy.words

-- so few copies that their count has 32 bits, each with no more words than an object has
pub record AreFew (copies : List ObjectCopy) : Type 0 where
  pub count : length copies < 2 ^ 32
  pub words : AllByRecursion (λ (copy : ObjectCopy). length copy.words ≤ 512) copies
