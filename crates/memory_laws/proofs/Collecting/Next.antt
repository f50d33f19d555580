-- The page that memory scans next is the core's: the least in which a gray object starts.
use Rattle.std.proofs.Common.{◌≡◌, ◌⊎◌, inl, inr, ℕ, ◌≤◌, min, true, false, Bool, List, [], ◌∷◌, Option, None, Some, refl, sym, ap, ◌∙◌, subst, arith}
use Rattle.std.specs.Prelude.{fold, ◌||◌}
use Rattle.std.specs.Cmp.{unsigned_tied}
use Rattle.std.specs.FinSet.{FinSet, contains, contains-empty, contains-items, items}
use Rattle.std.specs.List.{list_any}
use Rattle.std.specs.Option.{option_map}
use Rattle.std.specs.Ordering.{eq_by_cmp, nat_cmp}
use Rattle.std.proofs.lemmas.Bool.{eqb-true}
use Rattle.heap_spaces.specs.Collection.{Collection, page_of}
use Rattle.heap_model.specs.Collecting.{least_of, next_page}
use Rattle.heap_memory.specs.Collecting.{IsNextPage}
use Rattle.core_laws.proofs.Collecting.Least.{IsAmong, either, least_among, least_below, least_first, or_first, or_second, tied}

-- a page in which the least address of a list lies
page_least : (gray : FinSet nat_cmp) (at : ℕ) → contains gray at ≡ true → ((other : ℕ) → contains gray other ≡ true → page_of at ≤ page_of other) → (xs : List ℕ) → items gray ≡ xs
    → Some (page_of at) ≡ option_map page_of (least_of xs)
page_least gray at is least [] all = let never = sym is ∙ contains-items gray at ∙ ap (list_any (eq_by_cmp nat_cmp at)) all in absurd (cc never)
page_least gray at is least (x ∷ xs) all =
    let q = fold min x xs in
    let known : (r : ℕ) → IsAmong r (x ∷ xs) → contains gray r ≡ true = λ r among. contains-items gray r ∙ ap (list_any (eq_by_cmp nat_cmp r)) all ∙ among in
    let first : IsAmong q (x ∷ xs) = elim (least_among x xs q refl) [
      | inl same ↦ or_first (eq_by_cmp nat_cmp q x) (list_any (eq_by_cmp nat_cmp q) xs) (tied q x same)
      | inr later ↦ or_second (eq_by_cmp nat_cmp q x) (list_any (eq_by_cmp nat_cmp q) xs) later
    ] in
    let low = least q (known q first) in
    let among : IsAmong at (x ∷ xs) = sym (ap (list_any (eq_by_cmp nat_cmp at)) all) ∙ sym (contains-items gray at) ∙ is in
    let below : q ≤ at = either (eq_by_cmp nat_cmp at x) (list_any (eq_by_cmp nat_cmp at) xs) (q ≤ at) among
    (λ tie. let same = eqb-true at x (sym (unsigned_tied at x) ∙ tie) in let less = least_first x xs in omega (arith, same, less))
    (λ later. least_below x xs at later) in
    let same : page_of at ≡ page_of q = omega (arith, low, below) in
    ap (λ (n : ℕ). Some n) same

none_least : (xs : List ℕ) → ((q : ℕ) → list_any (eq_by_cmp nat_cmp q) xs ≡ false) → None ≡ option_map page_of (least_of xs)
none_least [] none = refl
none_least (x ∷ xs) none =
    let never = sym (or_first (eq_by_cmp nat_cmp x x) (list_any (eq_by_cmp nat_cmp x) xs) (tied x x refl)) ∙ none x in
    absurd (cc never)

-- what is next in memory is next
pub next_is : (o : Option Collection) (next : Option ℕ) → IsNextPage o next → next ≡ next_page o
next_is None next is = is
next_is (Some k) None is = none_least (items k.gray) (λ q. sym (contains-items k.gray q) ∙ ap (λ set. contains set q) is ∙ contains-empty nat_cmp q)
next_is (Some k) (Some page) is =
    ap (λ (n : ℕ). Some n) (sym is.here)
    ∙ page_least k.gray is.at is.gray (λ other gray. subst (λ (n : ℕ). n ≤ page_of other) (sym is.here) (is.least other gray)) (items k.gray) refl
