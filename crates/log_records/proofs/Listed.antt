-- What the bytes of the spelling of a copy, a scan or a flip say of its fields.
use Rattle.std.proofs.Common.{◌≡◌, ℕ, ◌≤◌, List, ◌∷◌, ◌++◌, length, get_or, drop, refl, sym, ap, ◌∙◌, arith, length-drop}
use Rattle.std.proofs.lemmas.List.{drop-drop, take_rest}
use Rattle.std.specs.Int.{w16, w32, w64, to_le_bytes}
use Rattle.std.specs.List.{flat_map}
use Rattle.byteorder.specs.Endian.{little_number}
use Rattle.byteorder.specs.Numbers.{little_number-reads_back}
use Rattle.log_records.specs.declared.copies.ObjectCopy.{ObjectCopy}
use Rattle.log_records.specs.declared.Record.{Record}
use Rattle.log_records.specs.declared.Record.TheVariants.{Copy, Scan, Flip}
use Rattle.log_records.specs.Copies.{word_bytes, write_bytes, copy_bytes}
use Rattle.log_records.specs.Record.{spelling, IsObjectCopy, IsWrite, IsScan, IsFlip, IsRecord}
use Rattle.log_records.proofs.RecordLaws.{field_word_small}
use Rattle.log_records.proofs.Fields.{IsBytes, IsBytes-drop, spelled_2, spelled_4, spelled_8}
use Rattle.log_records.proofs.Spelled.{from_place}

-- a write that was read is spelled in front
pub write_read : (bytes : List ℕ) (address word : ℕ) → IsBytes bytes → 12 ≤ length bytes → address ≡ little_number 4 bytes → word ≡ little_number 8 (from_place 4 bytes) → bytes ≡ write_bytes (address, word) ++ drop 12 bytes
write_read bytes address word fits large address_read word_read =
    spelled_4 bytes address fits (omega (arith, large)) address_read
    ∙ ap (λ (l : List ℕ). to_le_bytes w32 address ++ l) (spelled_8 (drop 4 bytes) word (IsBytes-drop 4 bytes fits) (omega (arith, large, length-drop 4 bytes)) (word_read ∙ ap (little_number 8) (take_rest bytes 4))
    ∙ ap (λ (l : List ℕ). to_le_bytes w64 word ++ l) (drop-drop 8 4 bytes))

-- where a write is spelled its fields are read
pub has_write : (write : ℕ × ℕ) (bytes rest : List ℕ) → IsWrite write → bytes ≡ write_bytes write ++ rest → (little_number 4 bytes ≡ write.0) × (little_number 8 (from_place 4 bytes) ≡ write.1)
has_write write bytes rest good is = (
  ap (little_number 4) is ∙ little_number-reads_back 4 write.0 (to_le_bytes w64 write.1 ++ rest) good.0,
  ap (little_number 8) (take_rest bytes 4 ∙ ap (λ (l : List ℕ). drop 4 l) is) ∙ little_number-reads_back 8 write.1 rest (field_word_small write.1 good.1),
)

-- where a copy is spelled its fields are read, and its words are spelled after them
pub record HasCopy (bytes rest : List ℕ) (copy : ObjectCopy) : Type 0 where
  pub from_read : little_number 4 bytes ≡ copy.from
  pub to_read : little_number 4 (from_place 4 bytes) ≡ copy.to
  pub behind : drop 8 bytes ≡ word_bytes copy.words ++ rest

pub has_copy : (copy : ObjectCopy) (bytes rest : List ℕ) → IsObjectCopy copy → bytes ≡ copy_bytes copy ++ rest → HasCopy bytes rest copy
has_copy copy bytes rest good is = record {
  from_read = ap (little_number 4) is ∙ little_number-reads_back 4 copy.from (to_le_bytes w32 copy.to ++ (word_bytes copy.words ++ rest)) good.from_fits;
  to_read = ap (little_number 4) (take_rest bytes 4 ∙ ap (λ (l : List ℕ). drop 4 l) is) ∙ little_number-reads_back 4 copy.to (word_bytes copy.words ++ rest) good.to_fits;
  behind = ap (λ (l : List ℕ). drop 8 l) is;
}

-- a record that begins with the kind of a copy
pub record IsCopyRecord (bytes rest : List ℕ) (rec : Record) : Type 0 where
  pub copy : ObjectCopy
  pub is : rec ≡ Copy copy.from copy.to copy.words
  pub good : IsObjectCopy copy
  pub here : bytes ≡ copy_bytes copy ++ rest

pub copy_record : (rec : Record) (bytes rest : List ℕ) → IsRecord rec → 7 ∷ bytes ≡ spelling rec ++ rest → IsCopyRecord bytes rest rec
copy_record (Copy from to words) bytes rest good e = record { copy = record { from = from; to = to; words = words }; is = refl; good = good; here = ap (λ (l : List ℕ). drop 1 l) e }
copy_record rec bytes rest good e = absurd (omega (arith, ap (λ (l : List ℕ). get_or l 0 0) e))

-- a record that begins with the kind of a scan: its fields are read, and its writes are spelled after them
pub record IsScanRecord (bytes rest : List ℕ) (rec : Record) : Type 0 where
  pub page : ℕ
  pub writes : List (ℕ × ℕ)
  pub is : rec ≡ Scan page writes
  pub good : IsScan page writes
  pub large : 6 ≤ length bytes
  pub page_read : little_number 4 bytes ≡ page
  pub count_read : little_number 2 (from_place 4 bytes) ≡ length writes
  pub behind : drop 6 bytes ≡ flat_map write_bytes writes ++ rest

pub scan_record : (rec : Record) (bytes rest : List ℕ) → IsRecord rec → 8 ∷ bytes ≡ spelling rec ++ rest → IsScanRecord bytes rest rec
scan_record (Scan page writes) bytes rest good e =
    let same : bytes ≡ to_le_bytes w32 page ++ (to_le_bytes w16 (length writes) ++ (flat_map write_bytes writes ++ rest)) = ap (λ (l : List ℕ). drop 1 l) e in
    record {
      page = page;
      writes = writes;
      is = refl;
      good = good;
      large = omega (arith, ap length same);
      page_read = ap (little_number 4) same ∙ little_number-reads_back 4 page (to_le_bytes w16 (length writes) ++ (flat_map write_bytes writes ++ rest)) good.page_fits;
      count_read = ap (little_number 2) (take_rest bytes 4 ∙ ap (λ (l : List ℕ). drop 4 l) same) ∙ little_number-reads_back 2 (length writes) (flat_map write_bytes writes ++ rest) good.few;
      behind = ap (λ (l : List ℕ). drop 6 l) same;
    }
scan_record rec bytes rest good e = absurd (omega (arith, ap (λ (l : List ℕ). get_or l 0 0) e))

-- a scan that was read is spelled in front
pub scan_read : (bytes rest : List ℕ) (page count : ℕ) (writes : List (ℕ × ℕ)) → IsBytes bytes → 6 ≤ length bytes → page ≡ little_number 4 bytes → count ≡ little_number 2 (from_place 4 bytes) → count ≡ length writes → drop 6 bytes ≡ flat_map write_bytes writes ++ rest
    → bytes ≡ to_le_bytes w32 page ++ (to_le_bytes w16 (length writes) ++ (flat_map write_bytes writes ++ rest))
scan_read bytes rest page count writes fits large page_read count_read size behind =
    spelled_4 bytes page fits (omega (arith, large)) page_read
    ∙ ap (λ (l : List ℕ). to_le_bytes w32 page ++ l) (spelled_2 (drop 4 bytes) (length writes) (IsBytes-drop 4 bytes fits) (omega (arith, large, length-drop 4 bytes)) (sym size ∙ count_read ∙ ap (little_number 2) (take_rest bytes 4))
    ∙ ap (λ (l : List ℕ). to_le_bytes w16 (length writes) ++ l) (drop-drop 2 4 bytes ∙ behind))

-- a record that begins with the kind of a flip: its count is read, and its copies are spelled after it
pub record IsFlipRecord (bytes rest : List ℕ) (rec : Record) : Type 0 where
  pub copies : List ObjectCopy
  pub is : rec ≡ Flip copies
  pub good : IsFlip copies
  pub large : 4 ≤ length bytes
  pub count_read : little_number 4 bytes ≡ length copies
  pub behind : drop 4 bytes ≡ flat_map copy_bytes copies ++ rest

pub flip_record : (rec : Record) (bytes rest : List ℕ) → IsRecord rec → 9 ∷ bytes ≡ spelling rec ++ rest → IsFlipRecord bytes rest rec
flip_record (Flip copies) bytes rest good e =
    let same : bytes ≡ to_le_bytes w32 (length copies) ++ (flat_map copy_bytes copies ++ rest) = ap (λ (l : List ℕ). drop 1 l) e in
    record {
      copies = copies;
      is = refl;
      good = good;
      large = omega (arith, ap length same);
      count_read = ap (little_number 4) same ∙ little_number-reads_back 4 (length copies) (flat_map copy_bytes copies ++ rest) good.few;
      behind = ap (λ (l : List ℕ). drop 4 l) same;
    }
flip_record rec bytes rest good e = absurd (omega (arith, ap (λ (l : List ℕ). get_or l 0 0) e))

-- a flip that was read is spelled in front
pub flip_read : (bytes rest : List ℕ) (count : ℕ) (copies : List ObjectCopy) → IsBytes bytes → 4 ≤ length bytes → count ≡ little_number 4 bytes → count ≡ length copies → drop 4 bytes ≡ flat_map copy_bytes copies ++ rest
    → bytes ≡ to_le_bytes w32 (length copies) ++ (flat_map copy_bytes copies ++ rest)
flip_read bytes rest count copies fits large count_read size behind =
    spelled_4 bytes (length copies) fits (omega (arith, large)) (sym size ∙ count_read)
    ∙ ap (λ (l : List ℕ). to_le_bytes w32 (length copies) ++ l) behind
