-- The walk of a space: its used words are objects end to end, and their fields lead only to these objects.
use Rattle.std.specs.Prelude.{◌≡◌, ℕ, ◌+◌, ◌^◌, ◌≤◌, ◌<◌, ◌⊎◌, List, [], ◌∷◌, length, take, slice_get, slice_index, Option, None, Some, Contains}
use Rattle.heap_words.specs.declared.Word.{Word}
use Rattle.heap_words.specs.declared.Word.TheVariants.{Null, Int, Stable}
use Rattle.heap_words.specs.Header.{birth_bits}
use Rattle.heap_words.specs.Word.{meaning}
use Rattle.object_layout.specs.Layout.{object_at, field_words, birth_at}

-- the words before the end of a space's used words
abbrev pub used_words : List ℕ → ℕ → ℕ → List ℕ
used_words words base used = take (base + used) words

-- objects stand end to end from one address to another: these are their addresses
abbrev pub AreEndToEnd : List ℕ → ℕ → List ℕ → ℕ → Type 0
AreEndToEnd words from [] end = from ≡ end
AreEndToEnd words from (at ∷ rest) end = (n : ℕ) × (at ≡ from) × (object_at words at ≡ Some n) × AreEndToEnd words (at + 2 + n) rest end

-- the root object stands at an address: four fields, and the birth of what no transaction made
pub record IsRootAt (words : List ℕ) (at : ℕ) : Type 0 where
  pub length : object_at words at ≡ Some 4
  pub birth : birth_at words at ≡ 0

-- a field that is null, a number, or a reference to the start of one of these objects
abbrev pub IsInside : List ℕ → Option Word → Type 0
IsInside starts (Some Null) = Unit {0}
IsInside starts (Some (Int n)) = Unit {0}
IsInside starts (Some (Stable b)) = Contains starts b
IsInside starts meant = ⊥

-- each field of the object at an address is so
abbrev pub KeepsInside : List ℕ → List ℕ → ℕ → Type 0
KeepsInside words starts at = (i w : ℕ) → slice_get (field_words words at) i ≡ Some w → IsInside starts (meaning w)

-- The used words of a space are objects end to end, the root first.
pub record IsFilled (words : List ℕ) (base used : ℕ) (starts : List ℕ) : Type 0 where
  pub root : IsRootAt (used_words words base used) base
  pub objects : AreEndToEnd (used_words words base used) base starts (base + used)

-- The walk of a space passes: it is filled by objects, and their fields lead to these objects alone.
pub record IsWalked (words : List ℕ) (base used : ℕ) : Type 0 where
  pub starts : List ℕ
  pub filled : IsFilled words base used starts
  pub inside : (at : ℕ) → Contains starts at → KeepsInside words starts at

-- What stands end to end from the base on breaks off at an address: no object stands there that ends within the used words, or at the
-- base one other than the root.
pub data BreaksAt (words : List ℕ) (base used : ℕ) : ℕ → Type 0 where
  at_root : (IsRootAt (used_words words base used) base → ⊥) → BreaksAt words base used base
  behind : {at : ℕ} (starts : List ℕ) → IsRootAt (used_words words base used) base
      → AreEndToEnd (used_words words base used) base starts at → at < base + used → object_at (used_words words base used) at ≡ None → BreaksAt words base used at

-- Where the walk fails first: where the objects break off; otherwise at the first object with a field that leads elsewhere.
pub data IsWalkFault (words : List ℕ) (base used : ℕ) : ℕ → Type 0 where
  breaks : {at : ℕ} → BreaksAt words base used at → IsWalkFault words base used at
  leads_out : {at : ℕ} (starts : List ℕ) → IsFilled words base used starts → Contains starts at → (KeepsInside words starts at → ⊥)
      → ((before : ℕ) → Contains starts before → before < at → KeepsInside words starts before) → IsWalkFault words base used at

-- no two of these objects have one birth
abbrev pub HaveOwnBirths : List ℕ → List ℕ → Type 0
HaveOwnBirths words starts = (a b : ℕ) → Contains starts a → Contains starts b → birth_at words a ≡ birth_at words b → a ≡ b

-- a birth that was given by a transaction below the next one
abbrev pub IsBornBefore : ℕ → ℕ → Type 0
IsBornBefore next birth = (t : ℕ) × (k : ℕ) × (birth ≡ birth_bits t k) × (1 ≤ k) × (k < 2 ^ 32) × (t < next)

-- each of these objects but the root at the base has such a birth
abbrev pub AreBornBefore : ℕ → List ℕ → ℕ → List ℕ → Type 0
AreBornBefore next words base starts = (at : ℕ) → Contains starts at → (at ≡ base) ⊎ IsBornBefore next (birth_at words at)

-- these words are fields that lead only to these objects
abbrev pub AreInside : List ℕ → List ℕ → Type 0
AreInside starts ws = (i w : ℕ) → slice_get ws i ≡ Some w → IsInside starts (meaning w)

-- addresses in ascending order
abbrev pub AreAscending : List ℕ → Type 0
AreAscending starts = (i j : ℕ) → i ≤ j → j < length starts → slice_index starts i ≤ slice_index starts j
