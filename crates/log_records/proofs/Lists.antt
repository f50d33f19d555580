-- Items spelled one after another, where no item's spelling is a prefix of another's.
use Rattle.std.proofs.Common.{◌≡◌, ℕ, ◌+◌, ◌<◌, ◌≤◌, List, [], ◌∷◌, ◌++◌, length, get_or, take, drop, refl, suc, zero, sym, ap, ◌∙◌, arith, append_assoc, length-append}
use Rattle.std.proofs.lemmas.List.{append-nil, take_at, take_more, take-append-drop}
use Rattle.std.proofs.lemmas.Grind.{flat_map-append}
use Rattle.std.specs.List.{AllByRecursion, flat_map}

module _ {A : Type 0} (IsGood : A → Type 0) where
  -- one more item is good
  pub all_push : (xs : List A) (x : A) → AllByRecursion IsGood xs → IsGood x → AllByRecursion IsGood (xs ++ x ∷ [])
  all_push [] x good one = (one, tt)
  all_push (y ∷ ys) x good one = (good.0, all_push ys x good.1 one)

  -- the item at a place is good
  pub all_at : (xs : List A) (i : ℕ) (d : A) → i < length xs → AllByRecursion IsGood xs → IsGood (get_or xs i d)
  all_at [] i d lt good = absurd (omega (arith, lt))
  all_at (x ∷ xs) zero d lt good = good.0
  all_at (x ∷ xs) (suc i) d lt good = all_at xs i d (omega (arith, lt)) good.1

-- one more item is spelled after those before it
pub spelled_push : {A : Type 0} (spelled : A → List ℕ) (xs : List A) (x : A) → flat_map spelled (xs ++ x ∷ []) ≡ flat_map spelled xs ++ spelled x
spelled_push spelled xs x = flat_map-append spelled xs (x ∷ []) ∙ ap (λ (l : List ℕ). flat_map spelled xs ++ l) (append-nil (spelled x))

-- one more of a list's first items
pub spelled_item : {A : Type 0} (spelled : A → List ℕ) (xs : List A) (i : ℕ) (d : A) → i < length xs → flat_map spelled (take (i + 1) xs) ≡ flat_map spelled (take i xs) ++ spelled (get_or xs i d)
spelled_item spelled xs i d lt = ap (flat_map spelled) (take_more xs i d lt) ∙ spelled_push spelled (take i xs) (get_or xs i d)

-- how many bytes the first items take, with one more
pub length_more : {A : Type 0} (spelled : A → List ℕ) (xs : List A) (i : ℕ) (x : A) → i < length xs → x ≡ get_or xs i x → length (flat_map spelled (take (i + 1) xs)) ≡ length (flat_map spelled (take i xs)) + length (spelled x)
length_more spelled xs i x lt is =
    ap (λ (l : List ℕ). length l) (spelled_item spelled xs i x lt ∙ ap (λ y. flat_map spelled (take i xs) ++ spelled y) (sym is)) ∙ length-append (flat_map spelled (take i xs)) (spelled x)

-- and not more than all items take
pub length_first : {A : Type 0} (spelled : A → List ℕ) (xs : List A) (i : ℕ) → length (flat_map spelled (take i xs)) ≤ length (flat_map spelled xs)
length_first spelled xs i =
    let parts = ap (flat_map spelled) (sym (take-append-drop i xs)) ∙ flat_map-append spelled (take i xs) (drop i xs) in
    omega (arith, ap (λ (l : List ℕ). length l) parts, length-append (flat_map spelled (take i xs)) (flat_map spelled (drop i xs)))

-- one more item is read
pub read_on : {A : Type 0} (spelled : A → List ℕ) (xs : List A) (x : A) (bytes behind rest : List ℕ) → bytes ≡ flat_map spelled xs ++ behind → behind ≡ spelled x ++ rest → bytes ≡ flat_map spelled (xs ++ x ∷ []) ++ rest
read_on spelled xs x bytes behind rest so_far next =
    so_far
    ∙ ap (λ (l : List ℕ). flat_map spelled xs ++ l) next
    ∙ sym (append_assoc (flat_map spelled xs) (spelled x) rest)
    ∙ ap (λ (l : List ℕ). l ++ rest) (sym (spelled_push spelled xs x))

-- what follows a kind in front, and how long it is
pub in_front : (kind n : ℕ) (bytes part rest : List ℕ) → n ≡ 1 + length part → bytes ≡ part ++ rest → (take n (kind ∷ bytes) ≡ kind ∷ part) × (n ≡ length (kind ∷ part))
in_front kind n bytes part rest size is =
    let long : n ≡ length (kind ∷ part) = omega (arith, size) in
    (ap (λ (l : List ℕ). take n (kind ∷ l)) is ∙ take_at (kind ∷ part) rest n (sym long), long)

module _
    {A : Type 0} (spelled : A → List ℕ) (IsGood : A → Type 0)
    (one : (a b : A) (more rest : List ℕ) → IsGood a → IsGood b → spelled a ++ more ≡ spelled b ++ rest → (a ≡ b) × (more ≡ rest))
  where
    -- bytes begin with one list of that many items
    pub one_list_of : (xs ys : List A) (more rest : List ℕ) → length xs ≡ length ys → AllByRecursion IsGood xs → AllByRecursion IsGood ys → flat_map spelled xs ++ more ≡ flat_map spelled ys ++ rest → (xs ≡ ys) × (more ≡ rest)
    one_list_of [] [] more rest size good good' same = (refl, same)
    one_list_of [] (y ∷ ys) more rest size good good' same = absurd (omega (arith, size))
    one_list_of (x ∷ xs) [] more rest size good good' same = absurd (omega (arith, size))
    one_list_of (x ∷ xs) (y ∷ ys) more rest size good good' same =
        let left = append_assoc (spelled x) (flat_map spelled xs) more in
        let right = append_assoc (spelled y) (flat_map spelled ys) rest in
        let first = one x y (flat_map spelled xs ++ more) (flat_map spelled ys ++ rest) good.0 good'.0 (sym left ∙ same ∙ right) in
        let others = one_list_of xs ys more rest (omega (arith, size)) good.1 good'.1 first.1 in
        (λ i. first.0 i ∷ others.0 i, others.1)

    -- if the list has more items than were read, the next one follows those
    pub next_item : (xs ys : List A) (more rest : List ℕ) → length xs < length ys → AllByRecursion IsGood xs → AllByRecursion IsGood ys → flat_map spelled xs ++ more ≡ flat_map spelled ys ++ rest
        → (z : A) × (behind : List ℕ) × IsGood z × (more ≡ spelled z ++ behind)
    next_item xs [] more rest lt good good' same = absurd (omega (arith, lt))
    next_item [] (y ∷ ys) more rest lt good good' same = (y, flat_map spelled ys ++ rest, good'.0, same ∙ append_assoc (spelled y) (flat_map spelled ys) rest)
    next_item (x ∷ xs) (y ∷ ys) more rest lt good good' same =
        let left = append_assoc (spelled x) (flat_map spelled xs) more in
        let right = append_assoc (spelled y) (flat_map spelled ys) rest in
        let first = one x y (flat_map spelled xs ++ more) (flat_map spelled ys ++ rest) good.0 good'.0 (sym left ∙ same ∙ right) in
        next_item xs ys more rest (omega (arith, lt)) good.1 good'.1 first.1
