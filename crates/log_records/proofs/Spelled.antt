-- What the bytes of the spelling of an update, a fix or an undo say of its fields.
use Rattle.std.proofs.Common.{◌≡◌, ℕ, ◌+◌, ◌-◌, ◌<◌, ◌≤◌, ◌^◌, List, ◌∷◌, ◌++◌, length, get_or, take, drop, refl, ap, ◌∙◌, arith, length-drop}
use Rattle.std.proofs.lemmas.List.{drop-drop, drop_at, take_rest}
use Rattle.std.specs.Int.{w16, w32, w64, to_le_bytes, bytes_low_first}
use Rattle.byteorder.specs.Endian.{little_number}
use Rattle.byteorder.specs.Numbers.{little_number-reads_back}
use Rattle.heap_words.specs.Word.{IsFieldWord}
use Rattle.log_records.specs.declared.Record.{Record}
use Rattle.log_records.specs.declared.Record.TheVariants.{Update, Fix, Undo}
use Rattle.log_records.proofs.RecordLaws.{field_word_small}
use Rattle.log_records.specs.Record.{Begins, IsUpdate, IsPut, IsRecord}
use Rattle.log_records.proofs.Fields.{IsBytes, IsBytes-drop, spelled_2, spelled_4, spelled_8}

-- the bytes from a place on, as the code names its slices
abbrev pub from_place : ℕ → List ℕ → List ℕ
from_place at bytes = take (length bytes - at) (drop at bytes)

-- the numbers that are read where the fields of an update, of a fix and of an undo stand
pub record ReadsFields (bytes : List ℕ) (t object field : ℕ) : Type 0 where
  pub fits : IsBytes bytes
  pub t_read : t ≡ little_number 4 bytes
  pub object_read : object ≡ little_number 4 (from_place 4 bytes)
  pub field_read : field ≡ little_number 2 (from_place 8 bytes)

module _ (bytes : List ℕ) (t object field : ℕ) (reads : ReadsFields bytes t object field) where
  behind : (at n : ℕ) → at + n ≤ length bytes → n ≤ length (drop at bytes)
  behind at n fits = omega (arith, length-drop at bytes, fits)

  more : (at n m : ℕ) → at + n ≡ m → drop n (drop at bytes) ≡ drop m bytes
  more at n m is = drop-drop n at bytes ∙ ap (λ (k : ℕ). drop k bytes) is

  front : 10 ≤ length bytes → bytes ≡ to_le_bytes w32 t ++ (to_le_bytes w32 object ++ (to_le_bytes w16 field ++ drop 10 bytes))
  front large =
      spelled_4 bytes t reads.fits (omega (arith, large)) reads.t_read
      ∙ ap (λ (l : List ℕ). to_le_bytes w32 t ++ l) (spelled_4 (drop 4 bytes) object (IsBytes-drop 4 bytes reads.fits) (behind 4 4 (omega (arith, large))) (reads.object_read ∙ ap (little_number 4) (take_rest bytes 4))
      ∙ ap (λ (l : List ℕ). to_le_bytes w32 object ++ l) (more 4 4 8 refl
      ∙ spelled_2 (drop 8 bytes) field (IsBytes-drop 8 bytes reads.fits) (behind 8 2 (omega (arith, large))) (reads.field_read ∙ ap (little_number 2) (take_rest bytes 8))
      ∙ ap (λ (l : List ℕ). to_le_bytes w16 field ++ l) (more 8 2 10 refl)))

  word_at : (at w : ℕ) → at + 8 ≤ length bytes → w ≡ little_number 8 (from_place at bytes) → drop at bytes ≡ to_le_bytes w64 w ++ drop (at + 8) bytes
  word_at at w large read =
      spelled_8 (drop at bytes) w (IsBytes-drop at bytes reads.fits) (behind at 8 large) (read ∙ ap (little_number 8) (take_rest bytes at))
      ∙ ap (λ (l : List ℕ). to_le_bytes w64 w ++ l) (more at 8 (at + 8) refl)

  pub found_update : (was word : ℕ) → 26 ≤ length bytes → was ≡ little_number 8 (from_place 10 bytes) → word ≡ little_number 8 (from_place 18 bytes) → Begins (1 ∷ bytes) (Update t object field was word)
  found_update was word large was_read word_read = (
    drop 26 bytes,
    ap (λ (l : List ℕ). 1 ∷ l) (front (omega (arith, large)) ∙ ap (λ (l : List ℕ). to_le_bytes w32 t ++ (to_le_bytes w32 object ++ (to_le_bytes w16 field ++ l)))
        (word_at 10 was (omega (arith, large)) was_read ∙ ap (λ (l : List ℕ). to_le_bytes w64 was ++ l) (word_at 18 word large word_read))),
  )

  found_put : (word : ℕ) → 18 ≤ length bytes → word ≡ little_number 8 (from_place 10 bytes) → bytes ≡ to_le_bytes w32 t ++ (to_le_bytes w32 object ++ (to_le_bytes w16 field ++ (to_le_bytes w64 word ++ drop 18 bytes)))
  found_put word large read = front (omega (arith, large)) ∙ ap (λ (l : List ℕ). to_le_bytes w32 t ++ (to_le_bytes w32 object ++ (to_le_bytes w16 field ++ l))) (word_at 10 word large read)

  pub found_fix : (word : ℕ) → 18 ≤ length bytes → word ≡ little_number 8 (from_place 10 bytes) → Begins (3 ∷ bytes) (Fix t object field word)
  found_fix word large read = (drop 18 bytes, ap (λ (l : List ℕ). 3 ∷ l) (found_put word large read))

  pub found_undo : (word : ℕ) → 18 ≤ length bytes → word ≡ little_number 8 (from_place 10 bytes) → Begins (4 ∷ bytes) (Undo t object field word)
  found_undo word large read = (drop 18 bytes, ap (λ (l : List ℕ). 4 ∷ l) (found_put word large read))

-- the word that was read has a meaning
pub is_word : (read w : ℕ) → read ≡ w → IsFieldWord w → IsFieldWord read
is_word read w same (word, good, is) = (word, good, same ∙ is)

-- where an update is spelled its fields are read
pub record HasUpdate (bytes : List ℕ) (rec : Record) : Type 0 where
  pub t : ℕ
  pub object : ℕ
  pub field : ℕ
  pub was : ℕ
  pub word : ℕ
  pub is : rec ≡ Update t object field was word
  pub good : IsUpdate t object field was word
  pub large : 26 ≤ length bytes
  pub t_read : little_number 4 bytes ≡ t
  pub object_read : little_number 4 (from_place 4 bytes) ≡ object
  pub field_read : little_number 2 (from_place 8 bytes) ≡ field
  pub was_read : little_number 8 (from_place 10 bytes) ≡ was
  pub word_read : little_number 8 (from_place 18 bytes) ≡ word

-- a number stands at a place after what has that many bytes
number_at : (at n x : ℕ) (bytes front rest : List ℕ) → length front ≡ at → x < 256 ^ n → bytes ≡ front ++ (bytes_low_first 0 n x ++ rest) → little_number n (from_place at bytes) ≡ x
number_at at n x bytes front rest size small is =
    ap (little_number n) (take_rest bytes at ∙ ap (λ (l : List ℕ). drop at l) is ∙ drop_at front (bytes_low_first 0 n x ++ rest) at size) ∙ little_number-reads_back n x rest small

pub has_update : (rec : Record) (bytes : List ℕ) → IsRecord rec → Begins (1 ∷ bytes) rec → HasUpdate bytes rec
has_update (Update t object field was word) bytes good (rest, e) =
    let same : bytes ≡ to_le_bytes w32 t ++ (to_le_bytes w32 object ++ (to_le_bytes w16 field ++ (to_le_bytes w64 was ++ (to_le_bytes w64 word ++ rest)))) = ap (λ (l : List ℕ). drop 1 l) e in
    record {
      t = t;
      object = object;
      field = field;
      was = was;
      word = word;
      is = refl;
      good = good;
      large = omega (arith, ap length same);
      t_read = ap (little_number 4) same ∙ little_number-reads_back 4 t (to_le_bytes w32 object ++ (to_le_bytes w16 field ++ (to_le_bytes w64 was ++ (to_le_bytes w64 word ++ rest)))) good.t_fits;
      object_read = number_at 4 4 object bytes (to_le_bytes w32 t) _ refl good.object_fits same;
      field_read = number_at 8 2 field bytes (to_le_bytes w32 t ++ to_le_bytes w32 object) _ refl good.field_fits same;
      was_read = number_at 10 8 was bytes (to_le_bytes w32 t ++ to_le_bytes w32 object ++ to_le_bytes w16 field) _ refl (field_word_small was good.was_word) same;
      word_read = number_at 18 8 word bytes (to_le_bytes w32 t ++ to_le_bytes w32 object ++ to_le_bytes w16 field ++ to_le_bytes w64 was) _ refl (field_word_small word good.new_word) same;
    }
has_update rec bytes good (rest, e) = absurd (omega (arith, ap (λ (l : List ℕ). get_or l 0 0) e))

-- where a fix or an undo is spelled its fields are read
pub record HasPut (bytes : List ℕ) (t object field word : ℕ) : Type 0 where
  pub good : IsPut t object field word
  pub large : 18 ≤ length bytes
  pub t_read : little_number 4 bytes ≡ t
  pub object_read : little_number 4 (from_place 4 bytes) ≡ object
  pub field_read : little_number 2 (from_place 8 bytes) ≡ field
  pub word_read : little_number 8 (from_place 10 bytes) ≡ word

has_put : (t object field word : ℕ) (bytes rest : List ℕ) → IsPut t object field word → bytes ≡ to_le_bytes w32 t ++ (to_le_bytes w32 object ++ (to_le_bytes w16 field ++ (to_le_bytes w64 word ++ rest))) → HasPut bytes t object field word
has_put t object field word bytes rest good same = record {
  good = good;
  large = omega (arith, ap length same);
  t_read = ap (little_number 4) same ∙ little_number-reads_back 4 t (to_le_bytes w32 object ++ (to_le_bytes w16 field ++ (to_le_bytes w64 word ++ rest))) good.t_fits;
  object_read = number_at 4 4 object bytes (to_le_bytes w32 t) _ refl good.object_fits same;
  field_read = number_at 8 2 field bytes (to_le_bytes w32 t ++ to_le_bytes w32 object) _ refl good.field_fits same;
  word_read = number_at 10 8 word bytes (to_le_bytes w32 t ++ to_le_bytes w32 object ++ to_le_bytes w16 field) _ refl (field_word_small word good.put_word) same;
}

-- a record of the one kind or the other whose fields are read
pub record HasFix (bytes : List ℕ) (rec : Record) : Type 0 where
  pub t : ℕ
  pub object : ℕ
  pub field : ℕ
  pub word : ℕ
  pub is : rec ≡ Fix t object field word
  pub put : HasPut bytes t object field word

pub record HasUndo (bytes : List ℕ) (rec : Record) : Type 0 where
  pub t : ℕ
  pub object : ℕ
  pub field : ℕ
  pub word : ℕ
  pub is : rec ≡ Undo t object field word
  pub put : HasPut bytes t object field word

pub has_fix : (rec : Record) (bytes : List ℕ) → IsRecord rec → Begins (3 ∷ bytes) rec → HasFix bytes rec
has_fix (Fix t object field word) bytes good (rest, e) =
    record { t = t; object = object; field = field; word = word; is = refl; put = has_put t object field word bytes rest good (ap (λ (l : List ℕ). drop 1 l) e) }
has_fix rec bytes good (rest, e) = absurd (omega (arith, ap (λ (l : List ℕ). get_or l 0 0) e))

pub has_undo : (rec : Record) (bytes : List ℕ) → IsRecord rec → Begins (4 ∷ bytes) rec → HasUndo bytes rec
has_undo (Undo t object field word) bytes good (rest, e) =
    record { t = t; object = object; field = field; word = word; is = refl; put = has_put t object field word bytes rest good (ap (λ (l : List ℕ). drop 1 l) e) }
has_undo rec bytes good (rest, e) = absurd (omega (arith, ap (λ (l : List ℕ). get_or l 0 0) e))
