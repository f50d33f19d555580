-- Bytes begin with numbers, an object, a write or a copy, or they do not.
use Rattle.std.proofs.Common.{◌≡◌, inl, inr, ℕ, ◌<◌, List, [], ◌∷◌, ◌++◌, length, append_assoc, Option, None, Some, refl, sym, ap, ◌∙◌, subst, arith}
use Rattle.std.specs.Int.{w16, w32, w64, to_le_bytes}
use Rattle.std.specs.List.{flat_map}
use Rattle.heap_words.specs.declared.Header.{Header}
use Rattle.heap_words.specs.declared.Header.TheVariants.{Length, Forward}
use Rattle.heap_words.specs.Header.{header, header_bits}
use Rattle.heap_words.specs.Word.{IsFieldWord}
use Rattle.heap_words.proofs.HeaderLaws.{header-header_bits, bits-header}
use Rattle.log_records.specs.declared.copies.ObjectCopy.{ObjectCopy}
use Rattle.log_records.specs.Copies.{word_bytes, write_bytes, copy_bytes}
use Rattle.log_records.specs.Record.{IsObjectWords, IsObjectCopy, IsWrite}
use Rattle.log_records.proofs.RecordLaws.{one_number, one_object, field_word_small}
use Rattle.image_laws.proofs.Bytes.{IsBytes, Test, Begins, BeginsThen, IsReadable, begins_then, Fits16, Fits32, Fits64, readable_16, readable_32, readable_64, readable_word, AreGood, many_or_not}

-- Numbers and words, and what follows them.

abbrev pub After16 : (ℕ → List ℕ → Type 0) → List ℕ → Type 0
After16 More bytes = BeginsThen (to_le_bytes w16) Fits16 More bytes

abbrev pub After32 : (ℕ → List ℕ → Type 0) → List ℕ → Type 0
After32 More bytes = BeginsThen (to_le_bytes w32) Fits32 More bytes

abbrev After64 : (ℕ → List ℕ → Type 0) → List ℕ → Type 0
After64 More bytes = BeginsThen (to_le_bytes w64) Fits64 More bytes

abbrev pub AfterWord : (ℕ → List ℕ → Type 0) → List ℕ → Type 0
AfterWord More bytes = BeginsThen (to_le_bytes w64) IsFieldWord More bytes

module _ (More : ℕ → List ℕ → Type 0) (test : (n : ℕ) (rest : List ℕ) → IsBytes rest → Test (More n rest)) (bytes : List ℕ) (fits : IsBytes bytes) where
  pub after_16 : Test (After16 More bytes)
  after_16 = begins_then (to_le_bytes w16) Fits16 More readable_16 bytes fits (λ n rest here good. test n rest good)

  pub after_32 : Test (After32 More bytes)
  after_32 = begins_then (to_le_bytes w32) Fits32 More readable_32 bytes fits (λ n rest here good. test n rest good)

  after_64 : Test (After64 More bytes)
  after_64 = begins_then (to_le_bytes w64) Fits64 More readable_64 bytes fits (λ n rest here good. test n rest good)

  pub after_word : Test (AfterWord More bytes)
  after_word = begins_then (to_le_bytes w64) IsFieldWord More readable_word bytes fits (λ n rest here good. test n rest good)

-- a word of a field stands in front
abbrev pub AWord : List ℕ → Type 0
AWord bytes = Begins (to_le_bytes w64) IsFieldWord bytes

pub word_or_not : (bytes : List ℕ) → IsBytes bytes → Test (AWord bytes)
word_or_not bytes fits = readable_word.read bytes fits

-- a number of four bytes stands in front
abbrev pub ANumber : List ℕ → Type 0
ANumber bytes = Begins (to_le_bytes w32) Fits32 bytes

pub number_or_not : (bytes : List ℕ) → IsBytes bytes → Test (ANumber bytes)
number_or_not bytes fits = readable_32.read bytes fits

-- The words of an object.

-- a birth, and that many words of fields
abbrev Fields : ℕ → List ℕ → Type 0
Fields n bytes = After64 (λ birth rest. Begins (flat_map (to_le_bytes w64)) (AreGood (to_le_bytes w64) IsFieldWord n) rest) bytes

fields_or_not : (n : ℕ) (bytes : List ℕ) → IsBytes bytes → Test (Fields n bytes)
fields_or_not n = after_64 (λ birth rest. Begins (flat_map (to_le_bytes w64)) (AreGood (to_le_bytes w64) IsFieldWord n) rest) (λ birth rest fits. many_or_not (to_le_bytes w64) IsFieldWord readable_word n rest fits)

-- a header of some number of fields, and these
record IsHeaded (h : ℕ) (rest : List ℕ) : Type 0 where
  n : ℕ
  few : n < 511
  is : h ≡ header_bits (Length n)
  fields : Fields n rest

headed_by : (h : ℕ) (rest : List ℕ) → IsBytes rest → (found : Option Header) → header h ≡ found → Test (IsHeaded h rest)
headed_by h rest fits None none = inr (λ k. let never : None ≡ Some (Length k.n) = sym none ∙ ap header k.is ∙ header-header_bits (Length k.n) k.few in cc never)
headed_by h rest fits (Some (Forward to)) other = inr (λ k. let never : Some (Forward to) ≡ Some (Length k.n) = sym other ∙ ap header k.is ∙ header-header_bits (Length k.n) k.few in cc never)
headed_by h rest fits (Some (Length n)) is =
    let one = bits-header h (Length n) is in
    elim (fields_or_not n rest fits) [
      | inl fields ↦ inl (record { n = n; few = one.0; is = one.1; fields = fields })
      | inr none ↦ inr (λ k. let same : k.n ≡ n = omega (arith, k.is, one.1) in none (subst (λ m. Fields m rest) same k.fields))
    ]

-- an object's words stand in front
abbrev pub AnObject : List ℕ → Type 0
AnObject bytes = Begins word_bytes IsObjectWords bytes

object_behind : (bytes : List ℕ) (words rest : List ℕ) → IsObjectWords words → bytes ≡ word_bytes words ++ rest → After64 IsHeaded bytes
object_behind bytes [] rest good here = absurd good
object_behind bytes (h ∷ []) rest good here = absurd good
object_behind bytes (h ∷ birth ∷ fields) rest good here = record {
  what = h;
  rest = word_bytes (birth ∷ fields) ++ rest;
  good = omega (arith, good.tells, good.few);
  here = here ∙ append_assoc (to_le_bytes w64 h) (word_bytes (birth ∷ fields)) rest;
  more = record {
    n = length fields;
    few = good.few;
    is = good.tells;
    fields = record {
      what = birth;
      rest = word_bytes fields ++ rest;
      good = good.birth_fits;
      here = append_assoc (to_le_bytes w64 birth) (word_bytes fields) rest;
      more = record { what = fields; rest = rest; good = (refl, good.field_words); here = refl };
    };
  };
}

object_front : (bytes : List ℕ) → After64 IsHeaded bytes → AnObject bytes
object_front bytes b =
    let birth = b.more.fields.what in
    let fields = b.more.fields.more.what in
    let rest = b.more.fields.more.rest in
    record {
      what = b.what ∷ birth ∷ fields;
      rest = rest;
      good = record {
        tells = b.more.is ∙ ap (λ (n : ℕ). header_bits (Length n)) (sym b.more.fields.more.good.0);
        few = omega (arith, b.more.few, b.more.fields.more.good.0);
        birth_fits = b.more.fields.good;
        field_words = b.more.fields.more.good.1;
      };
      here = b.here
          ∙ ap (λ (l : List ℕ). to_le_bytes w64 b.what ++ l) (b.more.fields.here ∙ ap (λ (l : List ℕ). to_le_bytes w64 birth ++ l) b.more.fields.more.here ∙ sym (append_assoc (to_le_bytes w64 birth) (word_bytes fields) rest))
          ∙ sym (append_assoc (to_le_bytes w64 b.what) (word_bytes (birth ∷ fields)) rest);
    }

object_or_not : (bytes : List ℕ) → IsBytes bytes → Test (AnObject bytes)
object_or_not bytes fits = elim (after_64 IsHeaded (λ h rest good. headed_by h rest good (header h) refl) bytes fits) [
  | inl b ↦ inl (object_front bytes b)
  | inr none ↦ inr (λ b. none (object_behind bytes b.what b.rest b.good b.here))
]

-- Writes and copies.

one_write : (a b : ℕ × ℕ) (more rest : List ℕ) → IsWrite a → IsWrite b → write_bytes a ++ more ≡ write_bytes b ++ rest → (a ≡ b) × (more ≡ rest)
one_write a b more rest good good' same =
    let at = one_number 4 a.0 b.0 (to_le_bytes w64 a.1 ++ more) (to_le_bytes w64 b.1 ++ rest) good.0 good'.0 same in
    let word = one_number 8 a.1 b.1 more rest (field_word_small a.1 good.1) (field_word_small b.1 good'.1) at.1 in
    (λ i. (at.0 i, word.0 i), word.1)

pub readable_write : IsReadable write_bytes IsWrite
readable_write = record {
  one = one_write;
  read = λ bytes fits. elim (after_32 (λ at rest. AWord rest) (λ at rest good. word_or_not rest good) bytes fits) [
    | inl b ↦ inl (record { what = (b.what, b.more.what); rest = b.more.rest; good = (b.good, b.more.good); here = b.here ∙ ap (λ (l : List ℕ). to_le_bytes w32 b.what ++ l) b.more.here })
    | inr none ↦ inr (λ b. none (record { what = b.what.0; rest = to_le_bytes w64 b.what.1 ++ b.rest; good = b.good.0; here = b.here; more = record { what = b.what.1; rest = b.rest; good = b.good.1; here = refl } }))
  ];
}

one_copy : (a b : ObjectCopy) (more rest : List ℕ) → IsObjectCopy a → IsObjectCopy b → copy_bytes a ++ more ≡ copy_bytes b ++ rest → (a ≡ b) × (more ≡ rest)
one_copy a b more rest good good' same =
    let from = one_number 4 a.from b.from (to_le_bytes w32 a.to ++ (word_bytes a.words ++ more)) (to_le_bytes w32 b.to ++ (word_bytes b.words ++ rest)) good.from_fits good'.from_fits same in
    let to = one_number 4 a.to b.to (word_bytes a.words ++ more) (word_bytes b.words ++ rest) good.to_fits good'.to_fits from.1 in
    let words = one_object a.words b.words more rest good.object good'.object to.1 in
    (λ i. record { from = from.0 i; to = to.0 i; words = words.0 i }, words.1)

-- where it stood, where it goes, and its words
abbrev pub ACopy : List ℕ → Type 0
ACopy bytes = After32 (λ from rest. After32 (λ to behind. AnObject behind) rest) bytes

pub copy_shape_or_not : (bytes : List ℕ) → IsBytes bytes → Test (ACopy bytes)
copy_shape_or_not = after_32 (λ from rest. After32 (λ to behind. AnObject behind) rest) (λ from. after_32 (λ to behind. AnObject behind) (λ to. object_or_not))

pub readable_copy : IsReadable copy_bytes IsObjectCopy
readable_copy = record {
  one = one_copy;
  read = λ bytes fits. elim (copy_shape_or_not bytes fits) [
    | inl b ↦ inl (record {
      what = record { from = b.what; to = b.more.what; words = b.more.more.what };
      rest = b.more.more.rest;
      good = record { from_fits = b.good; to_fits = b.more.good; object = b.more.more.good };
      here = b.here ∙ ap (λ (l : List ℕ). to_le_bytes w32 b.what ++ l) (b.more.here ∙ ap (λ (l : List ℕ). to_le_bytes w32 b.more.what ++ l) b.more.more.here);
    })
    | inr none ↦ inr (λ b. none (record {
      what = b.what.from;
      rest = to_le_bytes w32 b.what.to ++ (word_bytes b.what.words ++ b.rest);
      good = b.good.from_fits;
      here = b.here;
      more = record {
        what = b.what.to;
        rest = word_bytes b.what.words ++ b.rest;
        good = b.good.to_fits;
        here = refl;
        more = record { what = b.what.words; rest = b.rest; good = b.good.object; here = refl };
      };
    }))
  ];
}
