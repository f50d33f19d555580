-- Elements of lists that were mapped, filtered or found.
use Rattle.std.proofs.Common.{◌≡◌, ℕ, zero, suc, ◌+◌, ◌<◌, ◌≤◌, inl, inr, true, false, Bool, List, [], ◌∷◌, map, None, Some, refl, sym, ap, ◌∙◌, subst, arith}
use Rattle.std.specs.Prelude.{Contains, filter, ◌||◌, if◌then◌else◌}
use Rattle.std.specs.List.{list_any, range_with_len}
use Rattle.graph_model.specs.declared.id.Id.{Id}
use Rattle.graph_model.specs.Graph.{is_same_id}
use Rattle.graph_model.proofs.Whole.Graph.{same_id}
use Rattle.object_layout.proofs.WalkLaws.{Contains-cases, Contains-head, Contains-none, Contains-rest}
use Rattle.graph_words.specs.Places.{Places, address_of, addresses}
use Rattle.graph_words.proofs.Places.Addresses.{address_of-head}
use Rattle.collection_words.specs.Placed.{HaveOwnNames}

-- either of two tests
pub one_of : (b d : Bool) (P : Type 0) → (b || d) ≡ true → (b ≡ true → P) → (d ≡ true → P) → P
one_of true d P is first second = first refl
one_of false d P is first second = second is

-- what is in a mapped list comes from an element
pub of_map : {X Y : Type 0} (f : X → Y) (xs : List X) (y : Y) → Contains (map f xs) y → (x : X) × Contains xs x × (f x ≡ y)
of_map f [] y has = absurd (Contains-none y has)
of_map f (x ∷ xs) y has = elim (Contains-cases (f x) (map f xs) y has) [
  | inl here ↦ (x, Contains-head x xs, here)
  | inr later ↦ let found = of_map f xs y later in (found.0, Contains-rest x xs found.0 found.1, found.2)
]

pub to_map : {X Y : Type 0} (f : X → Y) (xs : List X) (x : X) → Contains xs x → Contains (map f xs) (f x)
to_map f [] x has = absurd (Contains-none x has)
to_map f (y ∷ ys) x has = elim (Contains-cases y ys x has) [
  | inl here ↦ subst (λ z. Contains (map f (y ∷ ys)) (f z)) here (Contains-head (f y) (map f ys))
  | inr later ↦ Contains-rest (f y) (map f ys) (f x) (to_map f ys x later)
]

-- a test that an element passes
pub any_found : {X : Type 0} (f : X → Bool) (xs : List X) → list_any f xs ≡ true → (x : X) × Contains xs x × (f x ≡ true)
any_found {X} f [] is = absurd (cc is)
any_found {X} f (x ∷ xs) is =
    one_of (f x) (list_any f xs) ((y : X) × Contains (x ∷ xs) y × (f y ≡ true)) is
    (λ here. (x, Contains-head x xs, here))
    (λ later. let found = any_found f xs later in (found.0, Contains-rest x xs found.0 found.1, found.2))

-- or a number of a range
pub range_found : (f : ℕ → Bool) (from n : ℕ) → list_any f (range_with_len from n) ≡ true → (k : ℕ) × (from ≤ k) × (k < from + n) × (f k ≡ true)
range_found f from zero is = absurd (cc is)
range_found f from (suc n) is =
    one_of (f from) (list_any f (range_with_len (from + 1) n)) ((k : ℕ) × (from ≤ k) × (k < from + suc n) × (f k ≡ true)) is
    (λ here. (from, omega arith, omega arith, here))
    (λ later. let found = range_found f (from + 1) n later in (found.0, omega (arith, found.1), omega (arith, found.2), found.3))

-- A place of an object of that name passes a test.
abbrev pub IsPassing : (Id × ℕ → Bool) → Places → ℕ → Type 0
IsPassing f ps at = (id : Id) × (address_of ps id ≡ Some at) × (f (id, at) ≡ true)

behind_first : (p : Id × ℕ) (ps : Places) (id : Id) (at : ℕ) (b : Bool) → is_same_id p.0 id ≡ b → address_of ps p.0 ≡ None → address_of ps id ≡ Some at → (if b then Some p.1 else address_of ps id) ≡ Some at
behind_first p ps id at false e none is = is
behind_first p ps id at true e none is = let clash = sym none ∙ ap (address_of ps) (same_id p.0 id e) ∙ is in absurd (cc clash)

rest_passing : (f : Id × ℕ → Bool) (p : Id × ℕ) (ps : Places) (at : ℕ) → address_of ps p.0 ≡ None → IsPassing f ps at → IsPassing f (p ∷ ps) at
rest_passing f p ps at none found = (found.0, behind_first p ps found.0 at (is_same_id p.0 found.0) refl none found.1, found.2)

first_or_rest : (f : Id × ℕ → Bool) (p : Id × ℕ) (ps : Places) (at : ℕ) (b : Bool) → f p ≡ b → address_of ps p.0 ≡ None → (Contains (addresses (filter f ps)) at → IsPassing f ps at)
    → Contains (addresses (if b then p ∷ filter f ps else filter f ps)) at → IsPassing f (p ∷ ps) at
first_or_rest f p ps at false e none rest within = rest_passing f p ps at none (rest within)
first_or_rest f p ps at true e none rest within = elim (Contains-cases p.1 (addresses (filter f ps)) at within) [
  | inl here ↦ (p.0, address_of-head p ps ∙ ap (λ (x : ℕ). Some x) here, ap (λ (x : ℕ). f (p.0, x)) (sym here) ∙ e)
  | inr later ↦ rest_passing f p ps at none (rest later)
]

-- places that pass are those of objects, where no two have one name
pub passing_named : (f : Id × ℕ → Bool) (ps : Places) (at : ℕ) → HaveOwnNames ps → Contains (addresses (filter f ps)) at → IsPassing f ps at
passing_named f [] at own has = absurd (Contains-none at has)
passing_named f (p ∷ ps) at own has = first_or_rest f p ps at (f p) refl own.0 (passing_named f ps at own.1) has
