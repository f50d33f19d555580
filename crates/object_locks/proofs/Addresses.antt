-- The addresses of the holdings of a tree, and what is left of them without repeats.
use Rattle.std.proofs.Common.{◌≡◌, ℕ, zero, suc, ◌+◌, ◌<◌, ◌≤◌, eqb, true, false, List, [], ◌∷◌, length, map, get_or, refl, sym, ap, ◌∙◌, subst, arith, eq-eqb}
use Rattle.std.specs.Prelude.{Contains}
use Rattle.std.specs.List.{dedup, list_any}
use Rattle.std.specs.List.Sorted.{IsSorted, IsStrictlySortedBy}
use Rattle.std.specs.Ordering.{nat_cmp, is_lt, is_gt, eq_by_cmp}
use Rattle.std.specs.FinSet as set
use Rattle.std.proofs.lemmas.Cmp.{ranked, by_ranked}
use Rattle.std.proofs.lemmas.Bool.{eqb-true}
use Rattle.std.proofs.lemmas.List.Kept.{Contains-dedup_nat, Contains-from_dedup}
use Rattle.std.proofs.lemmas.Map.Keys.{IsStrictlyIncreasing-dedup}
use Rattle.object_locks.specs.declared.holding.Holding.{Holding}
use Rattle.object_locks.specs.Holdings.{Holdings, holding_cmp, AreLocked}
use Rattle.object_locks.proofs.Orders.{holding_total, holding_exact, upto_number}
use Rattle.object_locks.proofs.Sets.{any_witness, equal_if, one_of, or_left, or_right}

abbrev pub address_of : Holding → ℕ
address_of h = h.key.address

not_less : (a b : ℕ) → a ≤ b → is_lt (nat_cmp b a) ≡ false
not_less a b le =
    by_ranked (b < a) (b ≡ a) (a < b) (nat_cmp b a) (ranked b a _ refl) (λ is lt. absurd (omega arith)) (λ is same. ap is_lt is) (λ is gt. ap is_lt is)

in_order : (hs : List Holding) → IsStrictlySortedBy holding_cmp hs → (k d : ℕ) → k + 1 < length (map address_of hs) → is_lt (nat_cmp (get_or (map address_of hs) (k + 1) d) (get_or (map address_of hs) k d)) ≡ false
unfolding IsStrictlySortedBy
in_order [] sorted k d within = absurd (omega arith)
in_order (x ∷ []) sorted k d within = absurd (omega arith)
in_order (x ∷ y ∷ hs) sorted zero d within = not_less (address_of x) (address_of y) (upto_number (address_of x) (address_of y) _ (ap is_gt sorted.0.0))
in_order (x ∷ y ∷ hs) sorted (suc k) d within =
    let next : suc k + 1 ≡ suc (k + 1) = omega arith in
    let Falls : ℕ → Type 0 = λ j. is_lt (nat_cmp (get_or (map address_of (x ∷ y ∷ hs)) j d) (get_or (map address_of (y ∷ hs)) k d)) ≡ false in
    subst Falls (sym next) (in_order (y ∷ hs) sorted.1 k d (omega arith))

-- the addresses of holdings that ascend do not fall
pub addresses_sorted : (hs : List Holding) → IsStrictlySortedBy holding_cmp hs → IsSorted nat_cmp (map address_of hs)
addresses_sorted hs sorted k d low within = in_order hs sorted k d within

at_place : (hs : List Holding) (a i : ℕ) → i < length (map address_of hs) → get_or (map address_of hs) i a ≡ a → list_any (λ h. eqb (address_of h) a) hs ≡ true
at_place [] a i within is = absurd (omega arith)
at_place (h ∷ hs) a zero within is = or_left (eqb (address_of h) a) _ (eq-eqb (address_of h) a is)
at_place (h ∷ hs) a (suc i) within is = or_right (eqb (address_of h) a) _ (at_place hs a i (omega arith) is)

-- one of the holdings is of the object
has_holding : (hs : List Holding) (a : ℕ) → Contains (map address_of hs) a → list_any (λ h. eqb (address_of h) a) hs ≡ true
has_holding hs a has = at_place hs a has.0 has.1 has.2

-- the address of a holding is among the addresses
has_address : (hs : List Holding) (h : Holding) → list_any (eq_by_cmp holding_cmp h) hs ≡ true → Contains (map address_of hs) (address_of h)
has_address [] h e = cc
has_address (x ∷ hs) h e =
    one_of (eq_by_cmp holding_cmp h x) _ (Contains (map address_of (x ∷ hs)) (address_of h)) e (λ tie. (0, omega arith, ap address_of (sym (holding_exact h x (equal_if _ tie)))))
    (λ rest. let w = has_address hs h rest in (suc w.0, omega (arith, w.1), w.2))

-- without repeats they are the addresses of what is locked
pub are_locked : (hs : List Holding) (held : Holdings) → set.from_list hs ≡ held → IsStrictlySortedBy holding_cmp hs → AreLocked held (dedup eqb (map address_of hs))
are_locked hs held is sorted = record {
  ascending = IsStrictlyIncreasing-dedup (map address_of hs) (addresses_sorted hs sorted);
  each = λ a. (
    λ has.
        let w = any_witness holding_total holding_exact (λ h. eqb (address_of h) a) hs (has_holding hs a (Contains-from_dedup eqb (map address_of hs) a has)) in
        (w.0, sees w.0 ∙ w.1, eqb-true (address_of w.0) a w.2),
    λ locked.
        Contains-dedup_nat (map address_of hs) a (subst (Contains (map address_of hs)) locked.2 (has_address hs locked.0 (sym (sees locked.0) ∙ locked.1))),
  );
}
  where
    sees : (h : Holding) → set.contains held h ≡ list_any (eq_by_cmp holding_cmp h) hs
    sees h = ap (λ s. set.contains s h) (sym is) ∙ set.contains-from_list holding_total hs h
