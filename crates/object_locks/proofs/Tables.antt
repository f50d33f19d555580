-- The two trees of a table after a change.
use Rattle.std.proofs.Common.{◌≡◌, ℕ, ◌<◌, ◌≤◌, ◌^◌, ◌==◌, Bool, Option, None, Some, List, [], ◌∷◌, arith, true, false, cond, Less, Equal, Greater, refl, sym, ap, ◌∙◌, subst}
use Rattle.std.specs.Prelude.{◌&&◌, not, slice_get, IfSome}
use Rattle.std.specs.List.{list_any, find}
use Rattle.std.specs.FinSet as set
use Rattle.std.proofs.lemmas.Bool.{true≢false, and_parts, eqb-true}
use Rattle.std.specs.Ordering.{nat_cmp, ordering_then, eq_by_cmp, is_eq, is_gt, is_le, is_lt, ordering_reverse}
use Rattle.std.specs.declared.cmp.Ordering.{Ordering}
use Rattle.std.specs.BTreeSet.{BTreeSet, Updates, contains, IsOrdered, IsKeyInRange, IsKeyRangeOf}
use Rattle.std.specs.declared.ops.Bound.TheVariants.{Included, Unbounded}
use Rattle.object_locks.specs.declared.holding.Mode.TheVariants.{Shared, Exclusive}
use Rattle.object_locks.specs.declared.holding.Holding.{Holding}
use Rattle.object_locks.specs.declared.lock_table.Owned.{Owned}
use Rattle.object_locks.specs.contracts.lock_table.OwnedOrd.TheImpl as owned_ord
use Rattle.object_locks.specs.Holdings.{Holdings, holding_cmp, MayHold, IsLeastInConflict}
use Rattle.object_locks.specs.Conflict.{conflicts}
use Rattle.object_locks.specs.Table.{owned_cmp, owned, of_object, on_object, IsTable, HasNone}
use Rattle.object_locks.proofs.Orders.{by_transaction_is, holding_total, holding_exact, first_on_object, last_on_object, least_on_object, first_of_transaction, upto_number}
use Rattle.object_locks.proofs.Sets.{equal_if, came_and_went, find-none, find-some}

swapped : (x y z : Ordering) → is_eq (ordering_then x (ordering_then y z)) ≡ is_eq (ordering_then y (ordering_then x z))
swapped Less Less z = refl
swapped Less Equal z = refl
swapped Less Greater z = refl
swapped Equal Less z = refl
swapped Equal Equal z = refl
swapped Equal Greater z = refl
swapped Greater Less z = refl
swapped Greater Equal z = refl
swapped Greater Greater z = refl

-- both orders tie the same holdings
pub tie_owned : (a b : Holding) → eq_by_cmp owned_cmp (owned a) (owned b) ≡ eq_by_cmp holding_cmp a b
tie_owned a b = swapped (nat_cmp a.transaction b.transaction) (nat_cmp a.key.address b.key.address) _

small_at : (h q : Holding) (b x : Bool) → eq_by_cmp holding_cmp h q ≡ b → h.transaction < 2 ^ 32 → (x ≡ true → q.transaction < 2 ^ 32) → cond b true x ≡ true → q.transaction < 2 ^ 32
small_at h q true x tie small rest e = let P : Holding → Type 0 = λ r. r.transaction < 2 ^ 32 in subst P (holding_exact h q (equal_if _ tie)) small
small_at h q false x tie small rest e = rest e

small_left : (b x : Bool) (P : Type 0) → (x ≡ true → P) → cond b false x ≡ true → P
small_left true x P rest e = cc
small_left false x P rest e = rest e

-- one more holding
pub table_insert : (s n : BTreeSet Holding) (t u : BTreeSet Owned) (h : Holding) → IsTable s t → Updates holding_cmp s n h true → Updates owned_cmp t u (owned h) true → h.transaction < 2 ^ 32 → IsTable n u
table_insert s n t u h table by_object by_transaction small = record {
  same = λ q.
      by_transaction.0 (owned q)
      ∙ ap (λ b. cond b true (contains owned_cmp t (owned q))) (tie_owned h q)
      ∙ ap (λ b. cond (eq_by_cmp holding_cmp h q) true b) (table.same q)
      ∙ sym (by_object.0 q);
  small = λ q there. small_at h q (eq_by_cmp holding_cmp h q) (contains holding_cmp s q) refl small (table.small q) (sym (by_object.0 q) ∙ there);
}

-- a holding less
pub table_remove : (s n : BTreeSet Holding) (t u : BTreeSet Owned) (h : Holding) → IsTable s t → Updates holding_cmp s n h false → Updates owned_cmp t u (owned h) false → IsTable n u
table_remove s n t u h table by_object by_transaction = record {
  same = λ q.
      by_transaction.0 (owned q)
      ∙ ap (λ b. cond b false (contains owned_cmp t (owned q))) (tie_owned h q)
      ∙ ap (λ b. cond (eq_by_cmp holding_cmp h q) false b) (table.same q)
      ∙ sym (by_object.0 q);
  small = λ q there. small_left (eq_by_cmp holding_cmp h q) (contains holding_cmp s q) (q.transaction < 2 ^ 32) (table.small q) (sym (by_object.0 q) ∙ there);
}

-- a holding whose insertion by its transaction fails is new
pub new_owned : (s : BTreeSet Holding) (t : BTreeSet Owned) (h : Holding) (k : Owned) → k ≡ owned h → IsTable s t → contains owned_ord.cmp-value.it t k ≡ false → contains holding_cmp s h ≡ false
new_owned s t h k is table absent =
    sym (table.same h)
    ∙ ap (λ (o : Owned). contains owned_cmp t o) (sym is)
    ∙ ap (λ (cmp : Owned → Owned → Ordering). contains cmp t k) (sym by_transaction_is)
    ∙ absent

-- a holding that is added and removed again
pub table_back : (s n m : BTreeSet Holding) (t u : BTreeSet Owned) (h : Holding) → IsTable s t → Updates holding_cmp s n h true → Updates holding_cmp n m h false → contains holding_cmp s h ≡ false → u.keys ≡ t.keys → IsTable m u
table_back s n m t u h table added taken new same_owned =
    let same_holdings : (q : Holding) → contains holding_cmp m q ≡ contains holding_cmp s q = λ q. came_and_went holding_total holding_exact s n m h added taken new q in
    record {
      same = λ q. ap (λ ks. list_any (eq_by_cmp owned_cmp (owned q)) ks) same_owned ∙ table.same q ∙ sym (same_holdings q);
      small = λ q there. table.small q (sym (same_holdings q) ∙ there);
    }

-- the keys of two holdings that conflict
conflict_key : (h asked : Holding) → conflicts h asked ≡ true → h.key.address ≡ asked.key.address
conflict_key h asked e =
    let same = h.key.address == asked.key.address in
    let other = not (h.transaction == asked.transaction) in
    eqb-true h.key.address asked.key.address (and_parts same other (and_parts (same && other) _ e).0).0

is_le_not_gt : (r : Ordering) → is_gt r ≡ false → is_le r ≡ true
is_le_not_gt Less e = refl
is_le_not_gt Equal e = refl
is_le_not_gt Greater e = cc

not_lt_turned : (r : Ordering) → is_gt r ≡ false → is_lt (ordering_reverse r) ≡ false
not_lt_turned Less e = refl
not_lt_turned Equal e = refl
not_lt_turned Greater e = cc

both_pass : (a b : Bool) → a ≡ true → b ≡ false → (a && not b) ≡ true
both_pass true false e f = refl
both_pass true true e f = cc
both_pass false b e f = cc

-- a holding in conflict stands among the holdings of the object
conflict_in_range : (h asked : Holding) → conflicts h asked ≡ true → h.transaction < 2 ^ 32 → of_object asked.key h ≡ true
conflict_in_range h asked e small =
    let same = conflict_key h asked e in
    both_pass _ _
    (is_le_not_gt _ (first_on_object asked.key h (sym same)))
    (ap is_lt (holding_total.antisymm (record { key = asked.key; transaction = 4294967295; mode = Exclusive }) h) ∙ not_lt_turned _ (last_on_object asked.key h (sym same) small))

not_true : (b : Bool) → (b ≡ true → ⊥) → b ≡ false
not_true true f = absurd (f refl)
not_true false f = refl

seen_holding : (s : BTreeSet Holding) (held : Holdings) (h : Holding) → set.from_list s.keys ≡ held → set.contains held h ≡ contains holding_cmp s h
seen_holding s held h is = ap (λ g. set.contains g h) (sym is) ∙ set.contains-from_list holding_total s.keys h

-- no conflict is found
pub free : (s : BTreeSet Holding) (t : BTreeSet Owned) (held : Holdings) (asked : Holding) → set.from_list s.keys ≡ held → IsTable s t → find (λ h. conflicts h asked) (on_object s asked.key) ≡ None → MayHold held asked
free s t held asked is table none h there =
    let stands = sym (seen_holding s held h is) ∙ there in
    not_true _ (λ e. true≢false (sym e ∙ find-none holding_total holding_exact (λ x. conflicts x asked) (of_object asked.key) s.keys none h stands (conflict_in_range h asked e (table.small h stands))))

-- the least one is found
pub least : (s : BTreeSet Holding) (t : BTreeSet Owned) (held : Holdings) (asked x : Holding) → set.from_list s.keys ≡ held → IsTable s t → IsOrdered holding_cmp s → find (λ h. conflicts h asked) (on_object s asked.key) ≡ Some x
    → IsLeastInConflict held asked x.transaction
least s t held asked x is table ordered found =
    let finds = find-some holding_total holding_exact (λ h. conflicts h asked) (of_object asked.key) s.keys x ordered found in
    record {
      conflicts = (x, seen_holding s held x is ∙ finds.there, finds.passes, refl);
      least = λ other in_conflict.
          let h = in_conflict.0 in
          let stands = sym (seen_holding s held h is) ∙ in_conflict.1 in
          let above = finds.least h stands (conflict_in_range h asked in_conflict.2 (table.small h stands)) in_conflict.2 in
          let le = least_on_object x h (conflict_key x asked finds.passes ∙ sym (conflict_key h asked in_conflict.2)) above in
          let P : ℕ → Type 0 = λ n. x.transaction ≤ n in
          subst P in_conflict.3 le;
    }

-- the part of the holdings by transactions that a range gives
abbrev pub IsFrom : BTreeSet Owned → ℕ → List Owned → Type 0
IsFrom t n part = IsKeyRangeOf owned_cmp (Included (record { transaction = n; key = record { address = 0 }; mode = Shared })) Unbounded t part

pub from_derived : (t : BTreeSet Owned) (n : ℕ) (part : List Owned) → IsKeyRangeOf owned_ord.cmp-value.it (Included (record { transaction = n; key = record { address = 0 }; mode = Shared })) Unbounded t part → IsFrom t n part
from_derived t n part = subst (λ (cmp : Owned → Owned → Ordering). IsKeyRangeOf cmp (Included (record { transaction = n; key = record { address = 0 }; mode = Shared })) Unbounded t part) by_transaction_is

-- a holding of a transaction that is seen stands among those by transactions
stands_owned : (s : BTreeSet Holding) (t : BTreeSet Owned) (held : Holdings) (h : Holding) → set.from_list s.keys ≡ held → IsTable s t → set.contains held h ≡ true → contains owned_cmp t (owned h) ≡ true
stands_owned s t held h is table there = table.same h ∙ sym (seen_holding s held h is) ∙ there

-- nothing is found from this transaction on
pub none_of : (s : BTreeSet Holding) (t : BTreeSet Owned) (held : Holdings) (n : ℕ) (part : List Owned) → set.from_list s.keys ≡ held → IsTable s t → IsFrom t n part → part ≡ [] → HasNone held n
none_of s t held n part is table range empty h of_n =
    true≢false (sym (stands_owned s t held h is table of_n.1) ∙ range.5 empty (owned h) (first_of_transaction n h of_n.0, tt))

first_in_range_of : (t : BTreeSet Owned) (n : ℕ) (o : Option Owned) → IfSome o (λ k. IsKeyInRange owned_cmp (Included (record { transaction = n; key = record { address = 0 }; mode = Shared })) Unbounded t k)
    → IfSome o (λ k. is_gt (owned_cmp (record { transaction = n; key = record { address = 0 }; mode = Shared }) k) ≡ false)
first_in_range_of t n None h = h
first_in_range_of t n (Some k) h = h.0.0

-- what is found is of a later transaction
pub none_before : (s : BTreeSet Holding) (t : BTreeSet Owned) (held : Holdings) (n : ℕ) (part rest : List Owned) (o : Owned) → set.from_list s.keys ≡ held → IsTable s t → IsFrom t n part → part ≡ o ∷ rest → (o.transaction ≡ n → ⊥)
    → HasNone held n
none_before s t held n part rest o is table range starts apart h of_n =
    let first : slice_get part 0 ≡ Some o = ap (λ ps. slice_get ps 0) starts in
    let P : Option Owned → Type 0 = λ x. IfSome x (λ k. is_gt (owned_cmp k (owned h)) ≡ false) in
    let below = subst P first (range.2 (owned h) (first_of_transaction n h of_n.0, tt) (stands_owned s t held h is table of_n.1)) in
    let Q : Option Owned → Type 0 = λ x. IfSome x (λ k. is_gt (owned_cmp (record { transaction = n; key = record { address = 0 }; mode = Shared }) k) ≡ false) in
    let above = subst Q first (first_in_range_of t n (slice_get part 0) range.1) in
    let le = upto_number o.transaction h.transaction _ below in
    let ge = upto_number n o.transaction _ above in
    let same = of_n.0 in
    apart (omega arith)

-- what is found of the transaction itself
pub one_of_it : (s : BTreeSet Holding) (t : BTreeSet Owned) (held : Holdings) (n : ℕ) (part rest : List Owned) (o : Owned) → set.from_list s.keys ≡ held → IsTable s t → IsFrom t n part → part ≡ o ∷ rest → o.transaction ≡ n
    → set.contains held (record { key = o.key; transaction = n; mode = o.mode }) ≡ true
one_of_it s t held n part rest o is table range starts same =
    let first : slice_get part 0 ≡ Some o = ap (λ ps. slice_get ps 0) starts in
    let P : Option Owned → Type 0 = λ x. IfSome x (λ k. IsKeyInRange owned_cmp (Included (record { transaction = n; key = record { address = 0 }; mode = Shared })) Unbounded t k) in
    let there = (subst P first range.1).1 in
    let h : Holding = record { key = o.key; transaction = n; mode = o.mode } in
    seen_holding s held h is ∙ sym (table.same h) ∙ ap (λ m. contains owned_cmp t (record { transaction = m; key = o.key; mode = o.mode })) (sym same) ∙ there
