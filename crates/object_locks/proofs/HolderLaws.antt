-- The transaction that a refused lock is answered with is that of the relations: the least in conflict with it.
use Rattle.std.proofs.Common.{◌≡◌, inl, inr, ℕ, ◌≤◌, Bool, true, false, List, [], ◌∷◌, Option, None, Some, Less, Equal, Greater, refl, sym, ap, ◌∙◌, subst, arith}
use Rattle.std.specs.Prelude.{◌||◌, cond, MatchOption}
use Rattle.std.specs.FinSet as set
use Rattle.std.specs.List.{list_any}
use Rattle.std.specs.Ordering.{eq_by_cmp, is_eq}
use Rattle.std.specs.declared.cmp.Ordering.{Ordering}
use Rattle.std.proofs.lemmas.Bool.{true≢false, cases_lt}
use Rattle.std.proofs.lemmas.Cmp.{tied_itself}
use Rattle.object_locks.specs.declared.holding.Holding.{Holding}
use Rattle.object_locks.specs.Conflict.{conflicts}
use Rattle.object_locks.specs.Holder.{lesser, least_in_conflict, holder_of}
use Rattle.object_locks.specs.Holdings.{Holdings, holding_cmp, MayHold, IsLeastInConflict}
use Rattle.object_locks.proofs.HoldingOrder.{holding_total, holding_exact}

-- whether one of these holdings is this
abbrev has : List Holding → Holding → Bool
has hs h = list_any (eq_by_cmp holding_cmp h) hs

equal_if : (r : Ordering) → is_eq r ≡ true → r ≡ Equal
equal_if Less e = cc
equal_if Equal e = refl
equal_if Greater e = cc

same : (x y : Holding) → eq_by_cmp holding_cmp x y ≡ true → x ≡ y
same x y e = holding_exact x y (equal_if (holding_cmp x y) e)

one_of : (a b : Bool) (P : Type 0) → (a || b) ≡ true → (a ≡ true → P) → (b ≡ true → P) → P
one_of true b P e f g = f refl
one_of false b P e f g = g e

or_right : (a b : Bool) → b ≡ true → (a || b) ≡ true
or_right true b e = refl
or_right false b e = e

-- the first of them is one of them
first : (h : Holding) (hs : List Holding) → has (h ∷ hs) h ≡ true
first h hs = ap (λ b. b || has hs h) (ap is_eq (tied_itself holding_total h))

later : (h : Holding) (hs : List Holding) (x : Holding) → has hs x ≡ true → has (h ∷ hs) x ≡ true
later h hs x there = or_right (eq_by_cmp holding_cmp x h) (has hs x) there

module _ (asked : Holding) where
  -- This transaction is the least of those of these holdings that are in conflict.
  record IsLeast (hs : List Holding) (t : ℕ) : Type 0 where
    holding : Holding
    there : has hs holding ≡ true
    conflict : conflicts holding asked ≡ true
    is : holding.transaction ≡ t
    below : (h : Holding) → has hs h ≡ true → conflicts h asked ≡ true → t ≤ h.transaction

  -- none of them is in conflict
  abbrev AreFree : List Holding → Type 0
  AreFree hs = (h : Holding) → has hs h ≡ true → conflicts h asked ≡ false

  none_more : (h : Holding) (hs : List Holding) → conflicts h asked ≡ false → AreFree hs → AreFree (h ∷ hs)
  none_more h hs apart free x there =
      one_of (eq_by_cmp holding_cmp x h) (has hs x) (conflicts x asked ≡ false) there (λ tie. ap (λ (y : Holding). conflicts y asked) (same x h tie) ∙ apart) (free x)

  one_more : (h : Holding) (hs : List Holding) (t : ℕ) → conflicts h asked ≡ false → IsLeast hs t → IsLeast (h ∷ hs) t
  one_more h hs t apart least = record {
    holding = least.holding;
    there = later h hs least.holding least.there;
    conflict = least.conflict;
    is = least.is;
    below = λ x there conflict.
        one_of (eq_by_cmp holding_cmp x h) (has hs x) (t ≤ x.transaction) there
        (λ tie. absurd (true≢false (sym conflict ∙ ap (λ (y : Holding). conflicts y asked) (same x h tie) ∙ apart))) (λ rest. least.below x rest conflict);
  }

  alone : (h : Holding) (hs : List Holding) → conflicts h asked ≡ true → AreFree hs → IsLeast (h ∷ hs) h.transaction
  alone h hs clash free = record {
    holding = h;
    there = first h hs;
    conflict = clash;
    is = refl;
    below = λ x there conflict.
        one_of (eq_by_cmp holding_cmp x h) (has hs x) (h.transaction ≤ x.transaction) there
        (λ tie. let at = ap (λ (y : Holding). y.transaction) (same x h tie) in omega arith) (λ rest. absurd (true≢false (sym conflict ∙ free x rest)));
  }

  lesser_of : (h : Holding) (hs : List Holding) (m t : ℕ) → conflicts h asked ≡ true → IsLeast hs m → lesser h.transaction (Some m) ≡ t → IsLeast (h ∷ hs) t
  lesser_of h hs m t clash least is =
      let below : (x : Holding) → has (h ∷ hs) x ≡ true → conflicts x asked ≡ true → t ≤ x.transaction = λ x there conflict.
      one_of (eq_by_cmp holding_cmp x h) (has hs x) (t ≤ x.transaction) there
      (λ tie. let at = ap (λ (y : Holding). y.transaction) (same x h tie) in omega arith) (λ rest. let low = least.below x rest conflict in omega arith) in
      elim (cases_lt h.transaction m) [
        | inl less ↦ record { holding = h; there = first h hs; conflict = clash; is = omega arith; below = below }
        | inr not_less ↦ record { holding = least.holding; there = later h hs least.holding least.there; conflict = least.conflict; is = omega (arith, least.is); below = below }
      ]

  -- What is found among these holdings.
  abbrev Found : List Holding → Option ℕ → Type 0
  Found hs o = MatchOption o (AreFree hs) (IsLeast hs)

  found_with : (h : Holding) (hs : List Holding) (o : Option ℕ) (b : Bool) → conflicts h asked ≡ b → Found hs o → Found (h ∷ hs) (cond b (Some (lesser h.transaction o)) o)
  found_with h hs None true clash free = alone h hs clash free
  found_with h hs (Some m) true clash least = lesser_of h hs m (lesser h.transaction (Some m)) clash least refl
  found_with h hs None false apart free = none_more h hs apart free
  found_with h hs (Some m) false apart least = one_more h hs m apart least

  found : (hs : List Holding) → Found hs (least_in_conflict asked hs)
  found [] = λ h there. cc
  found (h ∷ hs) = found_with h hs (least_in_conflict asked hs) (conflicts h asked) refl (found hs)

-- The same among all that is held.

stands : (held : Holdings) (h : Holding) → set.contains held h ≡ has (set.items held) h
stands held h = set.contains-items held h

known : (held : Holdings) (asked : Holding) (o : Option ℕ) → Found asked (set.items held) o → MatchOption o (MayHold held asked) (IsLeastInConflict held asked)
known held asked None free = λ h there. free h (sym (stands held h) ∙ there)
known held asked (Some t) least = record {
  conflicts = (least.holding, stands held least.holding ∙ least.there, least.conflict, least.is);
  least = λ other holds.
      let low = least.below holds.0 (sym (stands held holds.0) ∙ holds.1) holds.2 in
      omega (arith, low, holds.3);
}

-- no transaction holds a conflicting lock, or this is the least that does
pub holder_is : (held : Holdings) (asked : Holding) → MatchOption (holder_of held asked) (MayHold held asked) (IsLeastInConflict held asked)
holder_is held asked = known held asked (holder_of held asked) (found asked (set.items held))

-- there is only one answer
only_answer : (held : Holdings) (asked : Holding) (o p : Option ℕ) → MatchOption o (MayHold held asked) (IsLeastInConflict held asked) → MatchOption p (MayHold held asked) (IsLeastInConflict held asked) → o ≡ p
only_answer held asked None None free also = refl
only_answer held asked None (Some u) free least = let c = least.conflicts in absurd (true≢false (sym c.2 ∙ free c.0 c.1))
only_answer held asked (Some t) None least free = let c = least.conflicts in absurd (true≢false (sym c.2 ∙ free c.0 c.1))
only_answer held asked (Some t) (Some u) first_is then_is =
    let le = first_is.least u then_is.conflicts in
    let ge = then_is.least t first_is.conflicts in
    let one : t ≡ u = omega arith in
    ap Some one

-- what a test for the lock finds
pub holder_found : (held : Holdings) (asked : Holding) (o : Option ℕ) → MatchOption o (MayHold held asked) (IsLeastInConflict held asked) → o ≡ holder_of held asked
holder_found held asked o is = only_answer held asked o (holder_of held asked) is (holder_is held asked)

pub find_free : (held : Holdings) (asked : Holding) → MayHold held asked → holder_of held asked ≡ None
find_free held asked free = sym (holder_found held asked None free)

pub find_least : (held : Holdings) (asked : Holding) (t : ℕ) → IsLeastInConflict held asked t → holder_of held asked ≡ Some t
find_least held asked t least = sym (holder_found held asked (Some t) least)

-- and conversely
pub free_found : (held : Holdings) (asked : Holding) → holder_of held asked ≡ None → MayHold held asked
free_found held asked is = subst (λ (o : Option ℕ). MatchOption o (MayHold held asked) (IsLeastInConflict held asked)) is (holder_is held asked)
