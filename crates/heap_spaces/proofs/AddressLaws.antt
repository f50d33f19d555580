-- Sets of addresses.
use Rattle.std.proofs.Common.{◌≡◌, ◌≢◌, ℕ, zero, suc, ◌-◌, ◌<◌, ◌==◌, ◌||◌, ◌&&◌, Bool, true, false, not, cond, Option, None, Some, IfNone, Result, Ok, Err, OnErr, List, [], ◌∷◌, ◌++◌, refl, sym, ap, ◌∙◌, arith}
use Rattle.std.proofs.lemmas.Bool.{false≢true}
use Rattle.std.proofs.lemmas.List.Folds.{list_any-append}
use Rattle.std.specs.List.{list_any}
use Rattle.std.proofs.lemmas.Map.Views.{exact_unsigned_eq}
use Rattle.std.specs.Cmp.{nat_cmp_total, unsigned_tied, nat_eq_equiv}
use Rattle.std.specs.Ordering.{nat_cmp, eq_by_cmp}
use Rattle.std.specs.FinSet.{FinSet, contains, insert, remove, len, empty_of_len, len-remove, contains-empty, contains-insert, contains-remove, contains-retain, same_set, nat_cmp-IsAntisymmetric}
use Rattle.heap_spaces.specs.Collection.{page_of}
use Rattle.heap_spaces.specs.Addresses.{with_all, without_page}

-- what holds in any case holds in one
pub if_none : {A : Type 0} (o : Option A) (P : Type 0) → P → IfNone o P
if_none None P p = p
if_none (Some x) P p = tt

pub on_err : {T E : Type 0} (r : Result T E) (P : Type 0) → P → OnErr r P
on_err (Ok x) P p = tt
on_err (Err e) P p = p

-- two sets with the same addresses are equal
pub same_addresses : (s t : FinSet nat_cmp) → ((q : ℕ) → contains s q ≡ contains t q) → s ≡ t
same_addresses s t each = same_set nat_cmp_total nat_cmp-IsAntisymmetric s t each

-- a test of two, of which the second fails
pub or-false : (b : Bool) → (b || false) ≡ b
or-false true = refl
or-false false = refl

pub none_waiting : (b none : Bool) → none ≡ false → (b || none) ≡ b
none_waiting b none e = ap (λ v. b || v) e ∙ or-false b

-- a test of a list with one more item
pub any_push : {X : Type 0} (p : X → Bool) (xs : List X) (x : X) → list_any p (xs ++ x ∷ []) ≡ (list_any p xs || p x)
any_push p xs x = list_any-append p xs (x ∷ []) ∙ ap (λ b. list_any p xs || b) (or-false (p x))

with_all-push : (s : FinSet nat_cmp) (xs : List ℕ) (x : ℕ) → with_all s (xs ++ x ∷ []) ≡ insert (with_all s xs) x
with_all-push s [] x = refl
with_all-push s (y ∷ ys) x = with_all-push (insert s y) ys x

-- one more address
pub with_all-more : (s : FinSet nat_cmp) (xs : List ℕ) (x q : ℕ) → (q == x || contains (with_all s xs) q) ≡ contains (with_all s (xs ++ x ∷ [])) q
with_all-more s xs x q =
    sym (ap (λ (t : FinSet nat_cmp). contains t q) (with_all-push s xs x)
    ∙ contains-insert nat_cmp_total (with_all s xs) x q
    ∙ ap (λ b. b || contains (with_all s xs) q) (unsigned_tied q x))

none_left : (x any : Bool) → (x && not (any || true)) ≡ false
none_left true true = refl
none_left true false = refl
none_left false any = refl

without_more : (a b any : Bool) → (not a && (b && not any)) ≡ (b && not (any || a))
without_more true true true = refl
without_more true true false = refl
without_more true false any = refl
without_more false true true = refl
without_more false true false = refl
without_more false false any = refl

-- one more address is taken out
pub removed_more : (s : FinSet nat_cmp) (b any : Bool) (at q : ℕ) → contains s q ≡ (b && not any) → contains (remove s at) q ≡ (b && not (any || (at == q)))
removed_more s b any at q is =
    contains-remove nat_cmp_total s at q
    ∙ (λ i. not ((unsigned_tied q at ∙ nat_eq_equiv.symm q at) i) && is i)
    ∙ without_more (at == q) b any

-- the set without a page is what keeps the other addresses and has none of the page
pub page_removed : (s n : FinSet nat_cmp) (page : ℕ) → ((q : ℕ) → page_of q ≢ page → contains n q ≡ contains s q) → ((q : ℕ) → page_of q ≡ page → contains n q ≡ false) → n ≡ without_page s page
page_removed s n page others none = same_addresses _ _ each
  where
    in_page : (q : ℕ) (b : Bool) → (page_of q == page) ≡ b → contains n q ≡ (contains s q && not b)
    in_page q true e = none q (exact_unsigned_eq (page_of q) page e) ∙ sym (none_left (contains s q) false)
    in_page q false e =
        let apart : page_of q ≢ page = λ same. false≢true (sym e ∙ ap (λ p. page_of q == p) (sym same) ∙ nat_eq_equiv.refl (page_of q)) in
        others q apart ∙ kept (contains s q)
      where
        kept : (b : Bool) → b ≡ (b && not false)
        kept true = refl
        kept false = refl

    each : (q : ℕ) → contains n q ≡ contains (without_page s page) q
    each q =
        in_page q (page_of q == page) refl
        ∙ sym (contains-retain s (λ at. not (page_of at == page)) q (λ x tie. ap (λ y. not (page_of y == page)) (sym (nat_cmp-IsAntisymmetric q x tie))))

-- another address stays
pub removed_other : (s : FinSet nat_cmp) (at q : ℕ) → q ≢ at → contains (remove s at) q ≡ contains s q
removed_other s at q apart =
    contains-remove nat_cmp_total s at q
    ∙ elim (eq_by_cmp nat_cmp q at) as (λ b. eq_by_cmp nat_cmp q at ≡ b → (not b && contains s q) ≡ contains s q) [
      | true ↦ λ e. absurd (apart (exact_unsigned_eq q at (sym (unsigned_tied q at) ∙ e)))
      | false ↦ λ e. refl
    ] refl

-- and the one that is taken out leaves fewer
pub fewer : (s : FinSet nat_cmp) (at : ℕ) → contains s at ≡ true → len (remove s at) < len s
fewer s at here =
    elim (len s) as (λ n. len s ≡ n → len (remove s at) < n) [
      | zero ↦ λ e. absurd (false≢true (sym (ap (λ (t : FinSet nat_cmp). contains t at) (empty_of_len s e) ∙ contains-empty nat_cmp at) ∙ here))
      | suc n ↦ λ e. omega (arith, len-remove nat_cmp_total s at ∙ ap (λ b. cond b (len s - 1) (len s)) here, e)
    ] refl
