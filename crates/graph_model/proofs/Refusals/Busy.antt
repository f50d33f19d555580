-- The holder that a `busy` reply names is the one of the relations: the least of the transactions with a conflicting lock.
use Rattle.std.proofs.Common.{◌≡◌, ◌≢◌, ◌⊎◌, inl, inr, ℕ, ◌-◌, ◌<◌, ◌≤◌, zero, suc, true, List, [], ◌∷◌, Option, Some, None, refl, sym, ap, ◌∙◌, subst, arith}
use Rattle.std.specs.Prelude.{◌==◌, not, filter_map}
use Rattle.std.specs.List.{Contains, cons_option, list_any}
use Rattle.std.proofs.lemmas.Bool.{cases_lt, and_parts, and_from, not-true, not_from_false, eqb-false, ne_eqb, cond-true}
use Rattle.std.proofs.lemmas.Option.{same_Some, cond_some}
use Rattle.std.proofs.lemmas.List.Folds.{Any-from_list_any, list_any-from_Any}
use Rattle.std.proofs.lemmas.List.FromFn.{length-range_with_len, get_or-range_with_len}
use Rattle.graph_model.specs.declared.id.Id.{Id}
use Rattle.graph_model.specs.Graph.{Graph, is_same_id}
use Rattle.graph_model.proofs.Whole.Graph.{same_id, itself}
use Rattle.graph_model.specs.Transaction.{Transaction, serial}
use Rattle.graph_model.specs.History.{Account, IsSession, AreInSessions, sessions}
use Rattle.graph_model.specs.Locking.{Mode, Lock, locks_of, modes_conflict, IsInTheWay, IsFree, IsBusy, locks_conflict, stands_in_the_way, holder_in_the_way, holders_in_the_way, lesser, least, busy_holder}

head_there : {X : Type 0} (x : X) (xs : List X) → Contains (x ∷ xs) x
head_there x xs = (0, omega arith, refl)

later_there : {X : Type 0} (x : X) (xs : List X) (y : X) → Contains xs y → Contains (x ∷ xs) y
later_there x xs y there = (suc there.0, omega (arith, there.1), there.2)

head_or_later : {X : Type 0} (x : X) (xs : List X) (y : X) → Contains (x ∷ xs) y → (x ≡ y) ⊎ Contains xs y
head_or_later x xs y (zero, lt, at) = inl at
head_or_later x xs y (suc k, lt, at) = inr (k, omega (arith, lt), at)

-- one that may come first does not take the others away
behind : {X : Type 0} (o : Option X) (xs : List X) (y : X) → Contains xs y → Contains (cons_option o xs) y
behind None xs y there = there
behind (Some x) xs y there = later_there x xs y there

-- what an element gives is among what all give
gives : {X Y : Type 0} (f : X → Option Y) (xs : List X) (x : X) (y : Y) → Contains xs x → f x ≡ Some y → Contains (filter_map f xs) y
gives f [] x y there is = absurd (omega (arith, there.1))
gives f (z ∷ zs) x y there is =
    elim (head_or_later z zs x there) [
      | inl here ↦ subst (λ o. Contains (cons_option o (filter_map f zs)) y) (sym (ap f here ∙ is)) (head_there y (filter_map f zs))
      | inr later ↦ behind (f z) (filter_map f zs) y (gives f zs x y later is)
    ]

-- an element that gives this
record Given {X Y : Type 0} (f : X → Option Y) (xs : List X) (y : Y) : Type 0 where
  of : X
  there : Contains xs of
  is : f of ≡ Some y

later_gives : {X Y : Type 0} (f : X → Option Y) (z : X) (zs : List X) (y : Y) → Given f zs y → Given f (z ∷ zs) y
later_gives f z zs y rest = record { of = rest.of; there = later_there z zs rest.of rest.there; is = rest.is }

first_or_later : {X Y : Type 0} (f : X → Option Y) (z : X) (zs : List X) (y : Y) (o : Option Y) → f z ≡ o → (Contains (filter_map f zs) y → Given f zs y) → Contains (cons_option o (filter_map f zs)) y → Given f (z ∷ zs) y
first_or_later f z zs y None is rest there = later_gives f z zs y (rest there)
first_or_later f z zs y (Some w) is rest there =
    elim (head_or_later w (filter_map f zs) y there) [
      | inl here ↦ record { of = z; there = head_there z zs; is = is ∙ ap Some here }
      | inr among ↦ later_gives f z zs y (rest among)
    ]

-- and what all give is given by one
given : {X Y : Type 0} (f : X → Option Y) (xs : List X) (y : Y) → Contains (filter_map f xs) y → Given f xs y
given f [] y there = absurd (omega (arith, there.1))
given f (z ∷ zs) y there = first_or_later f z zs y (f z) refl (given f zs y) there

-- This is the least of these numbers.
record IsLeast (ns : List ℕ) (m : ℕ) : Type 0 where
  there : Contains ns m
  below : (k : ℕ) → Contains ns k → m ≤ k

no_least : (ns : List ℕ) → least ns ≡ None → ns ≡ []
no_least [] is = refl
no_least (n ∷ ns) is = cc

lesser_is : (n m : ℕ) (ns : List ℕ) (o : Option ℕ) → least ns ≡ o → ((l : ℕ) → o ≡ Some l → IsLeast ns l) → lesser n o ≡ m → IsLeast (n ∷ ns) m
lesser_is n m ns None none rest is = record {
  there = (0, omega arith, is);
  below = λ k there. elim (head_or_later n ns k there) [
    | inl here ↦ omega arith
    | inr later ↦ let gone = subst (λ ks. Contains ks k) (no_least ns none) later in absurd (omega (arith, gone.1))
  ];
}
lesser_is n m ns (Some l) some rest is =
    let own = rest l refl in
    record {
      there = elim (cases_lt l n) [
        | inl less ↦ let same : l ≡ m = omega arith in subst (Contains (n ∷ ns)) same (later_there n ns l own.there)
        | inr not_less ↦ let same : n ≡ m = omega arith in (0, omega arith, same)
      ];
      below = λ k there. elim (head_or_later n ns k there) [
        | inl here ↦ omega arith
        | inr later ↦ let le : l ≤ k = own.below k later in omega arith
      ];
    }

least_is : (ns : List ℕ) (m : ℕ) → least ns ≡ Some m → IsLeast ns m
least_is [] m is = cc
least_is (n ∷ ns) m is = lesser_is n m ns (least ns) refl (least_is ns) (same_Some (lesser n (least ns)) m is)

least_none : (ns : List ℕ) → ((k : ℕ) → Contains ns k → ⊥) → least ns ≡ None
least_none [] none = refl
least_none (n ∷ ns) none = absurd (none n (head_there n ns))

least_some : (ns : List ℕ) (m : ℕ) → IsLeast ns m → least ns ≡ Some m
least_some ns m own = by_found (least ns) refl where
  by_found : (o : Option ℕ) → least ns ≡ o → least ns ≡ Some m
  by_found None none = let gone = subst (λ ks. Contains ks m) (no_least ns none) own.there in absurd (omega (arith, gone.1))
  by_found (Some l) some =
      let found = least_is ns l some in
      let le : l ≤ m = found.below m own.there in
      let ge : m ≤ l = own.below l found.there in
      let same : l ≡ m = omega arith in
      some ∙ ap Some same

-- the sessions are the numbers from 1 to 32
session_there : (s : ℕ) → IsSession s → Contains sessions s
unfolding sessions
session_there s is =
    let lt : s - 1 < 32 = omega arith in
    (s - 1, omega (arith, length-range_with_len 1 32), get_or-range_with_len 1 32 (s - 1) s lt ∙ omega arith)

module _ (g : Graph) (n : ℕ) (lock : Lock) where
  -- A transaction holds a conflicting lock.
  record HoldsConflict (t : Transaction) : Type 0 where
    differs : t.number ≢ n
    mode : Mode
    there : Contains (locks_of g t) (lock.0, mode)
    conflicts : modes_conflict mode lock.1 ≡ true

  conflict_of : (t : Transaction) → stands_in_the_way g n lock t ≡ true → HoldsConflict t
  conflict_of t is =
      let parts = and_parts (not (t.number == n)) (list_any (locks_conflict lock) (locks_of g t)) is in
      let any = Any-from_list_any (locks_conflict lock) (locks_of g t) parts.1 in
      let own : Lock = any.1 in
      let both = and_parts (is_same_id own.0 lock.0) (modes_conflict own.1 lock.1) any.4 in
      record {
        differs = eqb-false t.number n (not-true (t.number == n) parts.0);
        mode = own.1;
        there = subst (λ (id : Id). Contains (locks_of g t) (id, own.1)) (same_id own.0 lock.0 both.0) (any.0, any.2, any.3);
        conflicts = both.1;
      }

  stands : (t : Transaction) → HoldsConflict t → stands_in_the_way g n lock t ≡ true
  stands t h =
      let held : Lock = (lock.0, h.mode) in
      and_from (not (t.number == n)) (list_any (locks_conflict lock) (locks_of g t))
      (not_from_false (t.number == n) (ne_eqb t.number n h.differs))
      (list_any-from_Any (locks_conflict lock) (locks_of g t)
      (h.there.0, held, h.there.1, h.there.2, and_from (is_same_id lock.0 lock.0) (modes_conflict h.mode lock.1) (itself lock.0) h.conflicts))

  -- The one that is named is active and holds a conflicting lock.
  record Names (o : Option Transaction) (holder : ℕ) : Type 0 where
    transaction : Transaction
    active : o ≡ Some transaction
    number : transaction.number ≡ holder
    conflict : HoldsConflict transaction

  named : (o : Option Transaction) (holder : ℕ) → holder_in_the_way g n lock o ≡ Some holder → Names o holder
  named None holder is = cc
  named (Some t) holder is =
      let parts = cond_some (stands_in_the_way g n lock t) t.number holder is in
      record { transaction = t; active = refl; number = parts.1; conflict = conflict_of t parts.0 }

  names : (o : Option Transaction) (t : Transaction) → o ≡ Some t → HoldsConflict t → holder_in_the_way g n lock o ≡ Some t.number
  names o t is h = ap (holder_in_the_way g n lock) is ∙ cond-true (stands_in_the_way g n lock t) (Some t.number) None (stands t h)

module _ (g0 : Graph) (a : Account) (n : ℕ) (lock : Lock) where
  in_the_way_of : (holder : ℕ) → Contains (holders_in_the_way g0 a n lock) holder → IsInTheWay g0 a n lock holder
  in_the_way_of holder there =
      let g = serial g0 a.sealed in
      let from = given (λ s. holder_in_the_way g n lock (a.active s)) sessions holder there in
      let one = named g n lock (a.active from.of) holder from.is in
      record {
        differs = λ same. one.conflict.differs (one.number ∙ same);
        mode = one.conflict.mode;
        holds = record { session = from.of; transaction = one.transaction; active = one.active; number = one.number; lock = one.conflict.there };
        conflicts = one.conflict.conflicts;
      }

  is_counted : AreInSessions a → (holder : ℕ) → IsInTheWay g0 a n lock holder → Contains (holders_in_the_way g0 a n lock) holder
  is_counted within holder way =
      let g = serial g0 a.sealed in
      let holds = way.holds in
      let t = holds.transaction in
      let name = names g n lock (a.active holds.session) t holds.active (record {
        differs = λ same. way.differs (sym holds.number ∙ same);
        mode = way.mode;
        there = holds.lock;
        conflicts = way.conflicts;
      }) in
      gives (λ s. holder_in_the_way g n lock (a.active s)) sessions holds.session holder (session_there holds.session (within holds.session t holds.active))
      (name ∙ ap Some holds.number)

-- Where no holder is found, no other transaction has a conflicting lock.
pub free_law : (g0 : Graph) (a : Account) (n : ℕ) (lock : Option Lock) → AreInSessions a → busy_holder g0 a n lock ≡ None → IsFree g0 a n lock
free_law g0 a n None within none = tt
free_law g0 a n (Some lock) within none = λ other way.
    let gone = subst (λ ks. Contains ks other) (no_least (holders_in_the_way g0 a n lock) none) (is_counted g0 a n lock within other way) in
    absurd (omega (arith, gone.1))

-- Where one is found, it is the least that has one.
pub busy_law : (g0 : Graph) (a : Account) (n : ℕ) (lock : Lock) (holder : ℕ) → AreInSessions a → busy_holder g0 a n (Some lock) ≡ Some holder → IsBusy g0 a n lock holder
busy_law g0 a n lock holder within is =
    let own = least_is (holders_in_the_way g0 a n lock) holder is in
    record {
      in_the_way = in_the_way_of g0 a n lock holder own.there;
      least = λ other way. own.below other (is_counted g0 a n lock within other way);
    }

-- And where no other transaction has a conflicting lock, no holder is found;
pub free_found : (g0 : Graph) (a : Account) (n : ℕ) (lock : Option Lock) → IsFree g0 a n lock → busy_holder g0 a n lock ≡ None
free_found g0 a n None free = refl
free_found g0 a n (Some lock) free = least_none (holders_in_the_way g0 a n lock) (λ k there. free k (in_the_way_of g0 a n lock k there))

-- where one is the least that has one, it is found.
pub busy_found : (g0 : Graph) (a : Account) (n : ℕ) (lock : Lock) (holder : ℕ) → AreInSessions a → IsBusy g0 a n lock holder → busy_holder g0 a n (Some lock) ≡ Some holder
busy_found g0 a n lock holder within busy =
    least_some (holders_in_the_way g0 a n lock) holder (record {
      there = is_counted g0 a n lock within holder busy.in_the_way;
      below = λ k there. busy.least k (in_the_way_of g0 a n lock k there);
    })
