-- The least of some addresses.
use Rattle.std.proofs.Common.{◌≡◌, ◌⊎◌, inl, inr, ℕ, ◌≤◌, min, true, false, Bool, List, [], ◌∷◌, refl, sym, ◌∙◌, arith}
use Rattle.std.specs.Prelude.{fold, ◌||◌}
use Rattle.std.specs.Cmp.{unsigned_tied}
use Rattle.std.specs.List.{list_any}
use Rattle.std.specs.Ordering.{eq_by_cmp, nat_cmp}
use Rattle.std.proofs.lemmas.Bool.{cases_lt, eq-eqb, eqb-true}

-- an address is among these
abbrev pub IsAmong : ℕ → List ℕ → Type 0
IsAmong q xs = list_any (eq_by_cmp nat_cmp q) xs ≡ true

pub tied : (q x : ℕ) → q ≡ x → eq_by_cmp nat_cmp q x ≡ true
tied q x same = unsigned_tied q x ∙ eq-eqb q x same

pub either : (b d : Bool) (P : Type 0) → (b || d) ≡ true → (b ≡ true → P) → (d ≡ true → P) → P
either true d P is first second = first refl
either false d P is first second = second is

pub or_second : (b d : Bool) → d ≡ true → (b || d) ≡ true
or_second true d is = refl
or_second false d is = is

pub or_first : (b d : Bool) → b ≡ true → (b || d) ≡ true
or_first true d is = refl
or_first false d is = absurd (cc is)

-- the least is no greater than each
pub least_first : (x : ℕ) (xs : List ℕ) → fold min x xs ≤ x
least_first x [] = omega arith
least_first x (y ∷ ys) = let more = least_first (min x y) ys in omega (arith, more)

pub least_below : (x : ℕ) (xs : List ℕ) (q : ℕ) → IsAmong q xs → fold min x xs ≤ q
least_below x [] q among = absurd (cc among)
least_below x (y ∷ ys) q among =
    either (eq_by_cmp nat_cmp q y) (list_any (eq_by_cmp nat_cmp q) ys) (fold min x (y ∷ ys) ≤ q) among
    (λ tie. let same = eqb-true q y (sym (unsigned_tied q y) ∙ tie) in let more = least_first (min x y) ys in omega (arith, same, more))
    (λ later. least_below (min x y) ys q later)

-- and is one of them
pub least_among : (x : ℕ) (xs : List ℕ) (q : ℕ) → fold min x xs ≡ q → (q ≡ x) ⊎ IsAmong q xs
least_among x [] q is = inl (sym is)
least_among x (y ∷ ys) q is = elim (least_among (min x y) ys q is) [
  | inl first ↦ elim (cases_lt y x) [
    | inl less ↦ inr (or_first (eq_by_cmp nat_cmp q y) (list_any (eq_by_cmp nat_cmp q) ys) (tied q y (omega (arith, first, less))))
    | inr most ↦ inl (omega (arith, first, most))
  ]
  | inr later ↦ inr (or_second (eq_by_cmp nat_cmp q y) (list_any (eq_by_cmp nat_cmp q) ys) later)
]
