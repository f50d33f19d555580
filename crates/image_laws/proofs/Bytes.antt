-- Bytes begin with the spelling of a number, a word, or a list, or they do not.
use Rattle.std.proofs.Common.{◌≡◌, ◌⊎◌, inl, inr, ℕ, zero, suc, ◌+◌, ◌≤◌, ◌<◌, ◌^◌, List, [], ◌∷◌, ◌++◌, length, append_assoc, get_or, take, drop, None, Some, refl, sym, ap, ◌∙◌, subst, arith}
use Rattle.std.proofs.lemmas.Bool.{cases_lt}
use Rattle.std.proofs.lemmas.List.{take-append-drop, length-take, length-take-le, get_or-take, get_or_past, get_or-drop}
use Rattle.std.proofs.lemmas.Nat.{le_bytes_2, le_bytes_4, le_bytes_8}
use Rattle.std.specs.Int.{w16, w32, w64, to_le_bytes}
use Rattle.std.specs.List.{AllByRecursion, flat_map}
use Rattle.byteorder.specs.Endian.{little_number}
use Rattle.heap_words.specs.Word.{IsFieldWord, meaning}
use Rattle.heap_words.proofs.WordLaws.{meaning-bits, bits-meaning}
use Rattle.log_records.proofs.RecordLaws.{one_number, field_word_small}
use Rattle.image_laws.proofs.Walk.{some_or_none}

-- each is a byte
abbrev pub IsBytes : List ℕ → Type 0
IsBytes bytes = (i : ℕ) → get_or bytes i 0 < 256

pub behind_bytes : (front rest : List ℕ) → IsBytes (front ++ rest) → IsBytes rest
behind_bytes [] rest fits = fits
behind_bytes (x ∷ xs) rest fits = behind_bytes xs rest (λ i. fits (suc i))

pub from_bytes : (from : ℕ) (bytes : List ℕ) → IsBytes bytes → IsBytes (drop from bytes)
from_bytes from bytes fits i = rw (get_or-drop from bytes i 0) (fits (from + i))

pub front_bytes : (size : ℕ) (bytes : List ℕ) → IsBytes bytes → IsBytes (take size bytes)
front_bytes size bytes fits i = elim (cases_lt i size) [
  | inl less ↦ rw (get_or-take size bytes i 0 less) (fits i)
  | inr past ↦ rw (get_or_past (take size bytes) i 0 (omega (arith, length-take size bytes))) (omega arith)
]

-- it is so, or not
abbrev pub Test : Type 0 → Type 0
Test P = P ⊎ (P → ⊥)

-- Bytes begin with the spelling of something good.
pub record Begins {A : Type 0} (spell : A → List ℕ) (Good : A → Type 0) (bytes : List ℕ) : Type 0 where
  pub what : A
  pub rest : List ℕ
  pub good : Good what
  pub here : bytes ≡ spell what ++ rest

-- And more is so of what it is, and of the rest.
pub record BeginsThen {A : Type 0} (spell : A → List ℕ) (Good : A → Type 0) (More : A → List ℕ → Type 0) (bytes : List ℕ) : Type 0 where
  pub what : A
  pub rest : List ℕ
  pub good : Good what
  pub here : bytes ≡ spell what ++ rest
  pub more : More what rest

-- No spelling of something good is a prefix of another one, and it can be decided whether bytes begin with one.
pub record IsReadable {A : Type 0} (spell : A → List ℕ) (Good : A → Type 0) : Type 0 where
  pub one : (a b : A) (more rest : List ℕ) → Good a → Good b → spell a ++ more ≡ spell b ++ rest → (a ≡ b) × (more ≡ rest)
  pub read : (bytes : List ℕ) → IsBytes bytes → Test (Begins spell Good bytes)

-- so it can be decided whether more is so
pub begins_then : {A : Type 0} (spell : A → List ℕ) (Good : A → Type 0) (More : A → List ℕ → Type 0) → IsReadable spell Good
    → (bytes : List ℕ) → IsBytes bytes → ((a : A) (rest : List ℕ) → bytes ≡ spell a ++ rest → IsBytes rest → Test (More a rest)) → Test (BeginsThen spell Good More bytes)
begins_then spell Good More readable bytes fits test = elim (readable.read bytes fits) [
  | inr none ↦ inr (λ b. none (record { what = b.what; rest = b.rest; good = b.good; here = b.here }))
  | inl b ↦ elim (test b.what b.rest b.here (behind_bytes (spell b.what) b.rest (subst IsBytes b.here fits))) [
    | inl more ↦ inl (record { what = b.what; rest = b.rest; good = b.good; here = b.here; more = more })
    | inr none ↦ inr (λ c.
        let one = readable.one c.what b.what c.rest b.rest c.good b.good (sym c.here ∙ b.here) in
        none (subst (λ r. More b.what r) one.1 (subst (λ a. More a c.rest) one.0 c.more)))
  ]
]

-- Numbers.

module _ (bytes : List ℕ) (fits : IsBytes bytes) where
  byte : (size i : ℕ) → i < size → get_or (take size bytes) i 0 ≡ get_or bytes i 0
  byte size i less = get_or-take size bytes i 0 less

  spelled : (size : ℕ) (spelling : List ℕ) → spelling ≡ take size bytes → bytes ≡ spelling ++ drop size bytes
  spelled size spelling is = rw is (sym (take-append-drop size bytes))

  number_2 : 2 ≤ length bytes → (little_number 2 bytes < 2 ^ 16) × (bytes ≡ to_le_bytes w16 (little_number 2 bytes) ++ drop 2 bytes)
  number_2 large = (
    omega (arith, fits 0, fits 1),
    spelled 2 _ (le_bytes_2 (take 2 bytes) (little_number 2 bytes) (length-take-le 2 bytes large) (front_bytes 2 bytes fits) (omega (arith, byte 2 0 (omega arith), byte 2 1 (omega arith)))),
  )

  number_4 : 4 ≤ length bytes → (little_number 4 bytes < 2 ^ 32) × (bytes ≡ to_le_bytes w32 (little_number 4 bytes) ++ drop 4 bytes)
  number_4 large = (
    omega (arith, fits 0, fits 1, fits 2, fits 3),
    spelled 4 _ (le_bytes_4 (take 4 bytes) (little_number 4 bytes) (length-take-le 4 bytes large) (front_bytes 4 bytes fits)
        (omega (arith, byte 4 0 (omega arith), byte 4 1 (omega arith), byte 4 2 (omega arith), byte 4 3 (omega arith)))),
  )

  pub number_8 : 8 ≤ length bytes → (little_number 8 bytes < 2 ^ 64) × (bytes ≡ to_le_bytes w64 (little_number 8 bytes) ++ drop 8 bytes)
  number_8 large = (
    omega (arith, fits 0, fits 1, fits 2, fits 3, fits 4, fits 5, fits 6, fits 7),
    spelled 8 _ (le_bytes_8 (take 8 bytes) (little_number 8 bytes) (length-take-le 8 bytes large) (front_bytes 8 bytes fits)
        (omega (arith, byte 8 0 (omega arith), byte 8 1 (omega arith), byte 8 2 (omega arith), byte 8 3 (omega arith), byte 8 4 (omega arith), byte 8 5 (omega arith), byte 8 6 (omega arith), byte 8 7 (omega arith)))),
  )

-- a number of two bytes
abbrev pub Fits16 : ℕ → Type 0
Fits16 n = n < 2 ^ 16

-- of four
abbrev pub Fits32 : ℕ → Type 0
Fits32 n = n < 2 ^ 32

-- of eight
abbrev pub Fits64 : ℕ → Type 0
Fits64 n = n < 2 ^ 64

pub readable_16 : IsReadable (to_le_bytes w16) Fits16
readable_16 = record {
  one = λ a b more rest good good' same. one_number 2 a b more rest good good' same;
  read = λ bytes fits. elim (cases_lt (length bytes) 2) [
    | inl short ↦ inr (λ b. let sizes = ap (λ (l : List ℕ). length l) b.here in omega arith)
    | inr large ↦ let number = number_2 bytes fits large in inl (record { what = little_number 2 bytes; rest = drop 2 bytes; good = number.0; here = number.1 })
  ];
}

pub readable_32 : IsReadable (to_le_bytes w32) Fits32
readable_32 = record {
  one = λ a b more rest good good' same. one_number 4 a b more rest good good' same;
  read = λ bytes fits. elim (cases_lt (length bytes) 4) [
    | inl short ↦ inr (λ b. let sizes = ap (λ (l : List ℕ). length l) b.here in omega arith)
    | inr large ↦ let number = number_4 bytes fits large in inl (record { what = little_number 4 bytes; rest = drop 4 bytes; good = number.0; here = number.1 })
  ];
}

pub readable_64 : IsReadable (to_le_bytes w64) Fits64
readable_64 = record {
  one = λ a b more rest good good' same. one_number 8 a b more rest good good' same;
  read = λ bytes fits. elim (cases_lt (length bytes) 8) [
    | inl short ↦ inr (λ b. let sizes = ap (λ (l : List ℕ). length l) b.here in omega arith)
    | inr large ↦ let number = number_8 bytes fits large in inl (record { what = little_number 8 bytes; rest = drop 8 bytes; good = number.0; here = number.1 })
  ];
}

-- Words of fields.

-- a word is a field's, or not
field_word_or_not : (w : ℕ) → Test (IsFieldWord w)
field_word_or_not w = elim (some_or_none (meaning w)) [
  | inl (word, is) ↦ let one = bits-meaning w word is in inl (word, one.0, one.1)
  | inr none ↦ inr (λ (word, good, is). let never : None ≡ Some word = sym none ∙ ap meaning is ∙ meaning-bits word good in cc never)
]

pub readable_word : IsReadable (to_le_bytes w64) IsFieldWord
readable_word = record {
  one = λ a b more rest good good' same. one_number 8 a b more rest (field_word_small a good) (field_word_small b good') same;
  read = λ bytes fits.
      let More : ℕ → List ℕ → Type 0 = λ w rest. IsFieldWord w in
      elim (begins_then (to_le_bytes w64) Fits64 More readable_64 bytes fits (λ w rest here good. field_word_or_not w)) [
        | inl b ↦ inl (record { what = b.what; rest = b.rest; good = b.more; here = b.here })
        | inr none ↦ inr (λ b. none (record { what = b.what; rest = b.rest; good = field_word_small b.what b.good; here = b.here; more = b.good }))
      ];
}

-- Lists of a given length.

module _ {A : Type 0} (spell : A → List ℕ) (Good : A → Type 0) where
  -- that many, each of them good
  abbrev pub AreGood : ℕ → List A → Type 0
  AreGood n xs = (length xs ≡ n) × AllByRecursion Good xs

  first_of : (n : ℕ) (bytes : List ℕ) (xs : List A) (rest : List ℕ) → AreGood (suc n) xs → bytes ≡ flat_map spell xs ++ rest
      → BeginsThen spell Good (λ x behind. Begins (flat_map spell) (AreGood n) behind) bytes
  first_of n bytes [] rest good here = absurd (omega (arith, good.0))
  first_of n bytes (x ∷ xs) rest good here = record {
    what = x;
    rest = flat_map spell xs ++ rest;
    good = good.1.0;
    here = here ∙ append_assoc (spell x) (flat_map spell xs) rest;
    more = record { what = xs; rest = rest; good = (omega (arith, good.0), good.1.1); here = refl };
  }

  pub many_or_not : IsReadable spell Good → (n : ℕ) (bytes : List ℕ) → IsBytes bytes → Test (Begins (flat_map spell) (AreGood n) bytes)
  many_or_not readable zero bytes fits = inl (record { what = []; rest = bytes; good = (refl, tt); here = refl })
  many_or_not readable (suc n) bytes fits =
      elim (begins_then spell Good (λ x behind. Begins (flat_map spell) (AreGood n) behind) readable bytes fits (λ x behind here good. many_or_not readable n behind good)) [
        | inl b ↦ inl (record {
          what = b.what ∷ b.more.what;
          rest = b.more.rest;
          good = (omega (arith, b.more.good.0), (b.good, b.more.good.1));
          here = b.here ∙ ap (λ (l : List ℕ). spell b.what ++ l) b.more.here ∙ sym (append_assoc (spell b.what) (flat_map spell b.more.what) b.more.rest);
        })
        | inr none ↦ inr (λ b. none (first_of n bytes b.what b.rest b.good b.here))
      ]
