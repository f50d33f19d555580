-- The words of an object, and the objects that roots name.
use Rattle.std.proofs.Common.{◌≡◌, ◌≢◌, ℕ, zero, suc, ◌+◌, ◌==◌, ◌<◌, ◌≤◌, inl, inr, Bool, true, false, List, [], ◌∷◌, length, take, drop, get_or, Option, None, Some, refl, sym, ap, ◌∙◌, subst, arith}
use Rattle.std.specs.Prelude.{Contains, slice_index, if◌then◌else◌}
use Rattle.std.specs.List.Sorted.{IsStrictlyIncreasing}
use Rattle.std.proofs.lemmas.Bool.{eq-eqb, eqb-true}
use Rattle.std.proofs.lemmas.List.{length-take, length-drop, get_or-drop, drop_more}
use Rattle.heap_words.specs.Size.{payload_of}
use Rattle.std.proofs.lemmas.List.Kept.{AllPairs-from_increasing}
use Rattle.heap_spaces.specs.Spaces.{SpacesState}
use Rattle.object_layout.specs.Layout.{object_at}
use Rattle.object_layout.specs.Walk.{IsFilled}
use Rattle.object_layout.proofs.LayoutLaws.{object_header}
use Rattle.object_layout.proofs.ObjectLaws.{end_to_end_begins, end_to_end_apart}
use Rattle.object_layout.proofs.WalkLaws.{Contains-head, Contains-rest, Contains-cases, Contains-none, object_take_end}
use Rattle.object_layout.proofs.WalkedLaws.{end_to_end_object}
use Rattle.flip_copy.specs.Copied.{object_words_of, object_words_at, with_base}
use Rattle.flip_copy.specs.Plan.{AreRootsIn}

-- the words of an object are those from its address on
pub object_words : (words : List ℕ) (at n : ℕ) → object_at words at ≡ Some n → object_words_at words at ≡ take (2 + n) (drop at words)
object_words words at n is =
    let head = object_header words at n is in
    let within = head.1 in
    ap (object_words_of words at) is
    ∙ ap (λ (m : ℕ). take (2 + m) (slice_index words at ∷ drop (at + 1) words)) (ap payload_of head.0)
    ∙ ap (take (2 + n)) (sym (drop_more words at 0 (omega arith)))

-- as many as its header says
pub object_words-length : (words : List ℕ) (at n : ℕ) → object_at words at ≡ Some n → length (object_words_at words at) ≡ 2 + n
object_words-length words at n is =
    let within = (object_header words at n is).1 in
    ap length (object_words words at n is) ∙ omega (arith, length-take (2 + n) (drop at words), length-drop at words)

sized_object : (words : List ℕ) (at : ℕ) (found : Option ℕ) → object_at words at ≡ found → 2 ≤ length (object_words_of words at found) → (n : ℕ) × (object_at words at ≡ Some n)
sized_object words at None is some = absurd (omega arith)
sized_object words at (Some n) is some = (n, is)

-- if there are words of an object, one stands there
pub words_object : (words : List ℕ) (at : ℕ) → 2 ≤ length (object_words_at words at) → (n : ℕ) × (object_at words at ≡ Some n)
words_object words at some = sized_object words at (object_at words at) refl some

-- what follows a place of an ascending list is greater
pub ascending_behind : (xs : List ℕ) (i x : ℕ) → IsStrictlyIncreasing xs → i < length xs → Contains (drop (i + 1) xs) x → get_or xs i 0 < x
ascending_behind xs i x up within (k, below, is) =
    let far : i + 1 + k < length xs = omega (arith, length-drop (i + 1) xs) in
    let less = AllPairs-from_increasing xs up i (i + 1 + k) x (omega arith) far in
    let here : get_or xs (i + 1 + k) x ≡ x = sym (get_or-drop (i + 1) xs k x) ∙ is in
    let same : get_or xs i x ≡ get_or xs i 0 = get_or_any xs i x within in
    omega arith
  where
    get_or_any : (ys : List ℕ) (j d : ℕ) → j < length ys → get_or ys j d ≡ get_or ys j 0
    get_or_any [] j d lt = absurd (omega arith)
    get_or_any (y ∷ ys) zero d lt = refl
    get_or_any (y ∷ ys) (suc j) d lt = get_or_any ys j d (omega arith)

-- what is in a tail of a list is in the list
pub Contains-drop : (xs : List ℕ) (i x : ℕ) → Contains (drop i xs) x → Contains xs x
Contains-drop xs i x (k, below, is) = (i + k, omega (arith, length-drop i xs), sym (get_or-drop i xs k x) ∙ is)

-- each root is an object that ends within the used words
pub root_object : (words : List ℕ) (spaces : SpacesState) (roots : List ℕ) (at : ℕ) → AreRootsIn words spaces roots → Contains roots at
    → (n : ℕ) × (object_at (take (spaces.base + spaces.used) words) at ≡ Some n)
root_object words spaces roots at are has =
    end_to_end_object (take (spaces.base + spaces.used) words) spaces.base are.starts (spaces.base + spaces.used) at are.filled.objects (are.among at has)

-- none stands before the first word of the space
pub root_begins : (words : List ℕ) (spaces : SpacesState) (roots : List ℕ) (at : ℕ) → AreRootsIn words spaces roots → Contains roots at → spaces.base ≤ at
root_begins words spaces roots at are has =
    end_to_end_begins (take (spaces.base + spaces.used) words) spaces.base are.starts (spaces.base + spaces.used) at are.filled.objects (are.among at has)

-- the next root stands after the words of one
pub root_behind : (words : List ℕ) (spaces : SpacesState) (roots : List ℕ) (i n at : ℕ) → AreRootsIn words spaces roots → i < length roots
    → object_at (take (spaces.base + spaces.used) words) (get_or roots i 0) ≡ Some n → Contains (drop (i + 1) roots) at → get_or roots i 0 + (2 + n) ≤ at
root_behind words spaces roots i n at are within object has =
    let front = take (spaces.base + spaces.used) words in
    let here : Contains roots (get_or roots i 0) = (i, within, get_or_same roots i within) in
    let there = Contains-drop roots (i + 1) at has in
    let other = root_object words spaces roots at are there in
    let less = ascending_behind roots i at are.ascending within has in
    elim (end_to_end_apart front spaces.base are.starts (spaces.base + spaces.used) (get_or roots i 0) n at other.0 are.filled.objects (are.among (get_or roots i 0) here) object (are.among at there) other.1) [
      | inl same ↦ absurd (omega arith)
      | inr (inl before) ↦ omega arith
      | inr (inr after) ↦ absurd (omega arith)
    ]
  where
    get_or_same : (ys : List ℕ) (j : ℕ) → j < length ys → get_or ys j (get_or ys j 0) ≡ get_or ys j 0
    get_or_same [] j lt = absurd (omega arith)
    get_or_same (y ∷ ys) zero lt = refl
    get_or_same (y ∷ ys) (suc j) lt = get_or_same ys j (omega arith)

-- what stands at a place of a list is in its tail from there on
pub Contains-tail : (xs : List ℕ) (i : ℕ) → i < length xs → Contains (drop i xs) (get_or xs i 0)
Contains-tail [] i within = absurd (omega arith)
Contains-tail (x ∷ xs) zero within = Contains-head x xs
Contains-tail (x ∷ xs) (suc i) within = Contains-tail xs i (omega arith)

-- the root object is the first of the objects that fill a space
filled_base : (words : List ℕ) (base used : ℕ) (starts : List ℕ) → IsFilled words base used starts → Contains starts base
filled_base words base used [] filled =
    let end = object_take_end words (base + used) base 4 filled.root.length in
    let same = filled.objects in
    absurd (omega arith)
filled_base words base used (a ∷ rest) filled = subst (λ (x : ℕ). Contains (a ∷ rest) x) filled.objects.1 (Contains-head a rest)

ascending_first : (base root : ℕ) (roots : List ℕ) → base < root → IsStrictlyIncreasing (root ∷ roots) → IsStrictlyIncreasing (base ∷ root ∷ roots)
ascending_first base root roots less up zero within = less
ascending_first base root roots less up (suc k) within =
    let next : suc (k + 1) ≡ suc k + 1 = omega arith in
    subst (λ (j : ℕ). get_or (base ∷ root ∷ roots) (suc k) 0 < get_or (base ∷ root ∷ roots) j 0) next (up k (omega arith))

-- roots with the root object put first are roots
pub with_base_roots : (words : List ℕ) (spaces : SpacesState) (roots : List ℕ) → AreRootsIn words spaces roots → AreRootsIn words spaces (with_base spaces.base roots)
with_base_roots words spaces [] are = record {
  starts = are.starts;
  filled = are.filled;
  ascending = λ k within. absurd (omega arith);
  among = λ at has. elim (Contains-cases spaces.base [] at has) [
    | inl same ↦ subst (λ (x : ℕ). Contains are.starts x) same (filled_base words spaces.base spaces.used are.starts are.filled)
    | inr none ↦ absurd (Contains-none at none)
  ];
}
with_base_roots words spaces (root ∷ roots) are = choose (root == spaces.base) refl
  where
    choose : (b : Bool) → (root == spaces.base) ≡ b → AreRootsIn words spaces (if b then root ∷ roots else spaces.base ∷ root ∷ roots)
    choose true is = are
    choose false is =
        let above = root_begins words spaces (root ∷ roots) root are (Contains-head root roots) in
        let other : root ≢ spaces.base = λ same. let clash = sym is ∙ eq-eqb root spaces.base same in cc clash in
        record {
          starts = are.starts;
          filled = are.filled;
          ascending = ascending_first spaces.base root roots (omega arith) are.ascending;
          among = λ at has. elim (Contains-cases spaces.base (root ∷ roots) at has) [
            | inl same ↦ subst (λ (x : ℕ). Contains are.starts x) same (filled_base words spaces.base spaces.used are.starts are.filled)
            | inr behind ↦ are.among at behind
          ];
        }

-- each root is one of them
pub Contains-with_base : (base : ℕ) (roots : List ℕ) (at : ℕ) → Contains roots at → Contains (with_base base roots) at
Contains-with_base base [] at has = absurd (Contains-none at has)
Contains-with_base base (root ∷ roots) at has = choose (root == base)
  where
    choose : (b : Bool) → Contains (if b then root ∷ roots else base ∷ root ∷ roots) at
    choose true = has
    choose false = Contains-rest base (root ∷ roots) at has

-- and so is the root object
pub with_base-first : (base : ℕ) (roots : List ℕ) → Contains (with_base base roots) base
with_base-first base [] = Contains-head base []
with_base-first base (root ∷ roots) = choose (root == base) refl
  where
    choose : (b : Bool) → (root == base) ≡ b → Contains (if b then root ∷ roots else base ∷ root ∷ roots) base
    choose true is = subst (λ (x : ℕ). Contains (root ∷ roots) x) (eqb-true root base is) (Contains-head root roots)
    choose false is = Contains-head base (root ∷ roots)
