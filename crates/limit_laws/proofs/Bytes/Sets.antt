-- How many addresses a set has.
use Rattle.std.proofs.Common.{◌≡◌, inl, inr, ℕ, zero, suc, ◌+◌, ◌-◌, ◌≤◌, Bool, true, false, cond, List, [], ◌∷◌, refl, sym, ap, ◌∙◌, arith}
use Rattle.std.specs.Prelude.{◌||◌, ◌&&◌, not}
use Rattle.std.specs.List.{list_any}
use Rattle.std.specs.Cmp.{nat_cmp_total}
use Rattle.std.specs.Ordering.{eq_by_cmp, nat_cmp}
use Rattle.std.specs.FinSet.{FinSet, contains, contains-empty, contains-items, contains-remove, empty, insert, items, len, len-empty, len-insert, len-remove, nat_cmp-IsAntisymmetric, remove, same_set}
use Rattle.std.proofs.lemmas.Bool.{cases_eq}
use Rattle.heap_spaces.proofs.AddressLaws.{fewer, removed_other}
use Rattle.core_laws.proofs.Collecting.Least.{tied}

-- a set with one more address has one more at most
pub len_more : (s : FinSet nat_cmp) (q : ℕ) → len (insert s q) ≤ len s + 1
len_more s q = by (contains s q) (len-insert nat_cmp_total s q)
  where
    by : (b : Bool) → len (insert s q) ≡ cond b (len s) (len s + 1) → len (insert s q) ≤ len s + 1
    by true is = omega arith
    by false is = omega arith

len_less : (s : FinSet nat_cmp) (q : ℕ) → contains s q ≡ true → len (remove s q) ≡ len s - 1
len_less s q is = len-remove nat_cmp_total s q ∙ ap (λ b. cond b (len s - 1) (len s)) is

-- A set has no address, or one.
data HasOne (s : FinSet nat_cmp) : Type 0 where
  none : len s ≡ 0 → HasOne s
  one : (q : ℕ) → contains s q ≡ true → HasOne s

has_one : (s : FinSet nat_cmp) → HasOne s
has_one s = by (items s) refl
  where
    by : (xs : List ℕ) → items s ≡ xs → HasOne s
    by [] all =
        let nothing : s ≡ empty = same_set nat_cmp_total nat_cmp-IsAntisymmetric s empty (λ q.
        contains-items s q ∙ ap (list_any (eq_by_cmp nat_cmp q)) all ∙ sym (contains-empty nat_cmp q)) in
        none (ap len nothing ∙ len-empty nat_cmp)
    by (x ∷ xs) all = one x (contains-items s x ∙ ap (list_any (eq_by_cmp nat_cmp x)) all ∙ ap (λ b. b || list_any (eq_by_cmp nat_cmp x) xs) (tied x x refl))

-- what is taken out is not there
gone : (s : FinSet nat_cmp) (q : ℕ) → contains (remove s q) q ≡ false
gone s q = contains-remove nat_cmp_total s q q ∙ ap (λ b. not b && contains s q) (tied q q refl)

rest_of : (t u : FinSet nat_cmp) (q : ℕ) → ((p : ℕ) → contains t p ≡ true → contains u p ≡ true) → (p : ℕ) → contains (remove t q) p ≡ true → contains (remove u q) p ≡ true
rest_of t u q all p has = elim (cases_eq p q) [
  | inl same ↦ absurd (not_both (contains (remove t q) p) (ap (contains (remove t q)) same ∙ gone t q) has)
  | inr other ↦ removed_other u q p other ∙ all p (sym (removed_other t q p other) ∙ has)
]
  where
    not_both : (b : Bool) → b ≡ false → b ≡ true → ⊥
    not_both b off on = cc (off, on)

-- fewer addresses, no more of them
subset_len : (m : ℕ) (t u : FinSet nat_cmp) → len t ≡ m → ((q : ℕ) → contains t q ≡ true → contains u q ≡ true) → m ≤ len u
subset_len zero t u is all = omega arith
subset_len (suc m) t u is all = step m t u is all (has_one t) (λ q has. subset_len m (remove t q) (remove u q) (let less = len_less t q has in omega arith) (rest_of t u q all))
  where
    step : (m : ℕ) (t u : FinSet nat_cmp) → len t ≡ suc m → ((q : ℕ) → contains t q ≡ true → contains u q ≡ true) → HasOne t → ((q : ℕ) → contains t q ≡ true → m ≤ len (remove u q)) → suc m ≤ len u
    step m t u is all (none empty) more = absurd (omega arith)
    step m t u is all (one q has) more = let less = fewer u q (all q has) in let rest = more q has in omega arith

-- without one of them, and perhaps more, there are fewer
pub subset_less : (t u : FinSet nat_cmp) (g : ℕ) → ((q : ℕ) → contains t q ≡ true → contains u q ≡ true) → contains t g ≡ false → contains u g ≡ true → len t + 1 ≤ len u
subset_less t u g all off on =
    let less = fewer u g on in
    let rest = subset_len (len t) t (remove u g) refl (λ q has. elim (cases_eq q g) [
      | inl same ↦ absurd (cc (sym off ∙ ap (contains t) (sym same) ∙ has))
      | inr other ↦ removed_other u g q other ∙ all q has
    ]) in
    omega arith
