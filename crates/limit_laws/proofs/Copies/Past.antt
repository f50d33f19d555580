-- What a transaction came to at some time in an object that it has locked exclusively.
use Rattle.std.proofs.Common.{◌≡◌, ◌≢◌, inl, inr, ℕ, List, [], ◌∷◌, ◌++◌, Some, refl, sym, ap, ◌∙◌, subst, append_assoc, arith}
use Rattle.std.specs.Prelude.{Contains, slice_get}
use Rattle.std.specs.Option.{option_to_list}
use Rattle.std.proofs.lemmas.List.Elements.{Contains-append_cases, Contains-append_left, Contains-append_right}
use Rattle.graph_model.specs.ClosedGraph.{IsClosed, IsUnused}
use Rattle.graph_model.specs.declared.event.Event.{Event}
use Rattle.graph_model.specs.declared.id.Id.{Id}
use Rattle.graph_model.specs.declared.val.Val.{Val}
use Rattle.graph_model.specs.declared.val.Val.TheVariants.{Ref}
use Rattle.graph_model.specs.Graph.{Graph, fields, root}
use Rattle.graph_model.specs.Locking.{Exclusive, Lock, Mode, lock_of, locks_of, locks_of_calls}
use Rattle.graph_model.specs.Transaction.{Transaction, View, call, fresh_view, run}
use Rattle.graph_model.proofs.Whole.Closed.{fresh_view-SeesClosed, length-fields-run}
use Rattle.commit_order.proofs.CallLaws.{Contains-Some}
use Rattle.commit_order.proofs.LockingLaws.{AreApart, IsExclusive, calls_alike, fields-run, locks_of-other, locks_of_calls-append, runs_alike}
use Rattle.limit_laws.proofs.Copies.Within.{OwnOr, run_locks, run_within}

-- the transaction after its first calls
abbrev pub first_calls : Transaction → List Event → Transaction
first_calls t calls = record { number = t.number; calls = calls }

-- with one more call
abbrev pub with_one : Transaction → Event → Transaction
with_one t c = record { number = t.number; calls = t.calls ++ c ∷ [] }

-- After some of its calls a field of an object that the transaction has locked exclusively, then or later, referred to y.
pub record IsPast (g : Graph) (t : Transaction) (y : Id) : Type 0 where
  pub first : List Event
  pub rest : List Event
  pub calls : t.calls ≡ first ++ rest
  pub z : Id
  pub i : ℕ
  pub lock : Contains (locks_of g t) (z, Exclusive)
  pub refers : slice_get (fields (run g (record { number = t.number; calls = first })).graph z) i ≡ Some (Ref y)

-- it stays so with one more call
pub past_more : (g : Graph) (t : Transaction) (c : Event) (y : Id) → IsPast g t y → IsPast g (with_one t c) y
past_more g t c y past = record {
  first = past.first;
  rest = past.rest ++ c ∷ [];
  calls = ap (λ (cs : List Event). cs ++ c ∷ []) past.calls ∙ append_assoc past.first past.rest (c ∷ []);
  z = past.z;
  i = past.i;
  lock =
      subst (λ (ls : List Lock). Contains ls (past.z, Exclusive)) (sym (locks_of_calls-append (fresh_view g) t.number t.calls c))
      (Contains-append_left (locks_of g t) (option_to_list (lock_of (run g t).registers c)) (past.z, Exclusive) past.lock);
  refers = past.refers;
}

-- so is what the field referred to that a call locks exclusively
pub past_locked : (g : Graph) (t : Transaction) (c : Event) (z y : Id) (i : ℕ) → lock_of (run g t).registers c ≡ Some (z, Exclusive) → slice_get (fields (run g t).graph z) i ≡ Some (Ref y) → IsPast g (with_one t c) y
past_locked g t c z y i lock refers = record {
  first = t.calls;
  rest = c ∷ [];
  calls = refl;
  z = z;
  i = i;
  lock =
      subst (λ (ls : List Lock). Contains ls (z, Exclusive)) (sym (locks_of_calls-append (fresh_view g) t.number t.calls c))
      (Contains-append_right (locks_of g t) (option_to_list (lock_of (run g t).registers c)) (z, Exclusive) (Contains-Some (lock_of (run g t).registers c) (z, Exclusive) lock));
  refers = refers;
}

-- the locks of the first calls are among those of all
first_locks : (v : View) (t : ℕ) (cs more : List Event) (l : Lock) → Contains (locks_of_calls v t cs) l → Contains (locks_of_calls v t (cs ++ more)) l
first_locks v t [] more l there = absurd (omega (arith, there.1))
first_locks v t (c ∷ cs) more l there =
    let one = option_to_list (lock_of v.registers c) in
    elim (Contains-append_cases one (locks_of_calls (call v t c).view t cs) l there) [
      | inl here ↦ Contains-append_left one (locks_of_calls (call v t c).view t (cs ++ more)) l here
      | inr later ↦ Contains-append_right one (locks_of_calls (call v t c).view t (cs ++ more)) l (first_locks (call v t c).view t cs more l later)
    ]

-- it stays so when another transaction is sealed whose locks do not conflict
pub past_sealed : (g : Graph) (t u : Transaction) (y : Id) → IsClosed g → u.number ≢ t.number → IsUnused g t.number → AreApart (locks_of g t) (locks_of g u) → IsPast g u y → IsPast (run g t).graph u y
past_sealed g t u y closed other unused apart past =
    let mine = λ (id : Id) (mode : Mode) (there : Contains (locks_of_calls (fresh_view g) u.number past.first) (id, mode)).
    subst (λ (cs : List Event). Contains (locks_of_calls (fresh_view g) u.number cs) (id, mode)) (sym past.calls) (first_locks (fresh_view g) u.number past.first past.rest (id, mode) there) in
    let alike = calls_alike t.number (IsExclusive g t) (fresh_view g) (fresh_view (run g t).graph) u.number past.first other (fresh_view-SeesClosed g closed) unused
    (λ id mode there exclusive. apart id Exclusive mode exclusive (mine id mode there) refl)
    (record {
      registers = refl;
      made = refl;
      lengths = λ q not_its. sym (length-fields-run g t q not_its);
      objects = λ q not_its free. sym (fields-run g t q not_its free);
    }) in
    let others = locks_of-other g u t.number past.z Exclusive closed other unused past.lock in
    record {
      first = past.first;
      rest = past.rest;
      calls = past.calls;
      z = past.z;
      i = past.i;
      lock = subst (λ (ls : List Lock). Contains ls (past.z, Exclusive)) (runs_alike g t u closed other unused apart).locks past.lock;
      refers = ap (λ (vs : List Val). slice_get vs past.i) (sym (alike.views.objects past.z others (λ exclusive. apart past.z Exclusive Exclusive exclusive past.lock refl))) ∙ past.refers;
    }

-- It is the transaction's own, or within all to which references lead.
pub past_within : (K : Id → Type 0) (g : Graph) (t : Transaction) → K root → ((z y : Id) (i : ℕ) → K z → slice_get (fields g z) i ≡ Some (Ref y) → K y) → IsUnused g t.number → (y : Id) → IsPast g t y → OwnOr K t.number y
past_within K g t has_root closed unused y past =
    (run_within K g (first_calls t past.first) has_root closed unused).leads past.z y past.i (run_locks K g t has_root closed unused past.z Exclusive past.lock) past.refers
