-- The objects of the from-space, each with its number of words.
use Rattle.std.proofs.Common.{◌≡◌, ℕ, suc, ◌+◌, ◌<◌, inl, inr, Bool, true, false, not, List, [], ◌∷◌, length, get_or, Some, refl, sym, ap, ◌∙◌, subst, arith}
use Rattle.std.specs.Prelude.{Contains, slice_index, filter, unwrap_or, if◌then◌else◌}
use Rattle.std.specs.List.{AllByRecursion}
use Rattle.std.specs.FinSet.{contains}
use Rattle.std.proofs.lemmas.List.Sums.{sum_by-cons}
use Rattle.heap_spaces.specs.Collection.{Collection}
use Rattle.object_layout.specs.Layout.{field_words, object_at}
use Rattle.object_layout.proofs.LayoutLaws.{length-field_words}
use Rattle.object_layout.proofs.WalkLaws.{Contains-cases, Contains-head, Contains-none, Contains-rest}
use Rattle.log_machine.specs.Machine.{field_at}
use Rattle.graph_words.proofs.Stands.Objects.{word_at_field}
use Rattle.collection_words.specs.Completed.{taken_by}
use Rattle.collection_words.specs.LaidOut.{AreOldEndToEnd, old_length}
use Rattle.collection_words.proofs.Laid.Old.{old_length-object}
use Rattle.collection_words.proofs.Moves.Ends.{taken_object}
use Rattle.page_scanner.specs.Heap.{AreFilling, moved_words}

-- Fields.

all_gets : (P : ℕ → Type 0) (xs : List ℕ) → ((i : ℕ) → i < length xs → P (get_or xs i 0)) → AllByRecursion P xs
all_gets P [] each = tt
all_gets P (x ∷ xs) each = (each 0 (omega arith), all_gets P xs (λ i below. each (suc i) (omega arith)))

-- what holds of the word at each field's address holds of all words of the fields
pub all_fields : (P : ℕ → Type 0) (words : List ℕ) (at n : ℕ) → object_at words at ≡ Some n → ((i : ℕ) → i < n → P (slice_index words (field_at at i))) → AllByRecursion P (field_words words at)
all_fields P words at n is each =
    all_gets P (field_words words at) (λ i below.
    let inside : i < n = omega (arith, below, length-field_words words at n is) in subst P (word_at_field words at n i is inside) (each i inside))

-- Sizes.

-- how many words the object at an address of the from-space has, forwarded or not
abbrev pub old_size : List ℕ → ℕ → ℕ
old_size words at = 2 + unwrap_or (old_length words at) 0

-- the objects at these addresses, each with its size
abbrev pub olds_of : List ℕ → List ℕ → List (ℕ × ℕ)
olds_of words [] = []
olds_of words (at ∷ rest) = (at, old_size words at) ∷ olds_of words rest

old_size_is : (words : List ℕ) (at n : ℕ) → old_length words at ≡ Some n → old_size words at ≡ 2 + n
old_size_is words at n is = ap (λ o. 2 + unwrap_or o 0) is

-- that of one that is not forwarded
pub old_size_object : (words : List ℕ) (at n : ℕ) → object_at words at ≡ Some n → old_size words at ≡ 2 + n
old_size_object words at n is = old_size_is words at n (old_length-object words at n is)

-- they fill the from-space
pub olds_fill : (words : List ℕ) (from : ℕ) (starts : List ℕ) (end : ℕ) → AreOldEndToEnd words from starts end → AreFilling from (olds_of words starts) end
olds_fill words from [] end same = same
olds_fill words from (at ∷ rest) end (n, same, long, more) =
    let size = old_size_is words at n long in
    let next : at + 2 + n ≡ from + old_size words at = omega (arith, size, same) in
    (same, omega (arith, size), subst (λ (x : ℕ). AreFilling x (olds_of words rest) end) next (olds_fill words (at + 2 + n) rest end more))

-- each start has its object among them
pub olds_has : (words starts : List ℕ) (at : ℕ) → Contains starts at → Contains (olds_of words starts) (at, old_size words at)
olds_has words [] at has = absurd (Contains-none at has)
olds_has words (a ∷ rest) at has = elim (Contains-cases a rest at has) [
  | inl here ↦ subst (λ (x : ℕ). Contains (olds_of words (a ∷ rest)) (x, old_size words x)) here (Contains-head (a, old_size words a) (olds_of words rest))
  | inr later ↦ Contains-rest (a, old_size words a) (olds_of words rest) (at, old_size words at) (olds_has words rest at later)
]

-- and the other way round
pub olds_start : (words starts : List ℕ) (b size : ℕ) → Contains (olds_of words starts) (b, size) → Contains starts b × (size ≡ old_size words b)
olds_start words [] b size has = absurd (Contains-none (b, size) has)
olds_start words (a ∷ rest) b size has = elim (Contains-cases (a, old_size words a) (olds_of words rest) (b, size) has) [
  | inl here ↦
      let at : a ≡ b = ap (λ (x : ℕ × ℕ). x.0) here in
      let sized : old_size words a ≡ size = ap (λ (x : ℕ × ℕ). x.1) here in
      (subst (λ (x : ℕ). Contains (a ∷ rest) x) at (Contains-head a rest), sym sized ∙ ap (old_size words) at)
  | inr later ↦ let more = olds_start words rest b size later in (Contains-rest a rest b more.0, more.1)
]

-- Sums.

-- an object of the from-space is left to be copied
abbrev pub is_unmoved : Collection → ℕ → Bool
is_unmoved k at = not (contains k.moved at)

-- each object that is not copied stands there
abbrev pub UnmovedStand : Collection → List ℕ → List ℕ → Type 0
UnmovedStand k words starts = (at : ℕ) → Contains starts at → contains k.moved at ≡ false → (n : ℕ) × (object_at words at ≡ Some n)

count_one : (k : Collection) (words : List ℕ) (at : ℕ) (kept : List ℕ) (t : Bool) → contains k.moved at ≡ t → (t ≡ false → (n : ℕ) × (object_at words at ≡ Some n))
    → (if t then old_size words at else 0) + taken_by words (if not t then at ∷ kept else kept) ≡ old_size words at + taken_by words kept
count_one k words at kept true is stands = refl
count_one k words at kept false is stands =
    let one = stands refl in
    let taken = taken_object words at one.0 one.1 in
    let size = old_size_object words at one.0 one.1 in omega (arith, taken, size)

-- the copied ones and those that are left have as many words as all
pub olds_counted : (k : Collection) (words : List ℕ) (from : ℕ) (starts : List ℕ) (end : ℕ) → AreOldEndToEnd words from starts end → UnmovedStand k words starts
    → from + moved_words k (olds_of words starts) + taken_by words (filter (is_unmoved k) starts) ≡ end
olds_counted k words from [] end same stand = omega (arith, same)
olds_counted k words from (at ∷ rest) end (n, same, long, more) stand =
    let size = old_size_is words at n long in
    let sum = sum_by-cons (λ (o : ℕ × ℕ). if contains k.moved o.0 then o.1 else 0) (at, old_size words at) (olds_of words rest) in
    let one = count_one k words at (filter (is_unmoved k) rest) (contains k.moved at) refl (stand at (Contains-head at rest)) in
    let later = olds_counted k words (at + 2 + n) rest end more (λ other has. stand other (Contains-rest at rest other has)) in
    omega (arith, size, sum, one, later, same)
