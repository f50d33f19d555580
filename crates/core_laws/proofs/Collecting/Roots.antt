-- The roots of a flip: the current objects that active transactions name, in the order of their addresses.
use Rattle.std.proofs.Common.{◌≡◌, ◌⊎◌, ℕ, zero, suc, ◌+◌, ◌<◌, ◌≤◌, inl, inr, true, false, Bool, List, [], ◌∷◌, Option, Some, None, is_some, refl, sym, ap, ◌∙◌, subst, arith}
use Rattle.std.specs.Prelude.{Contains, filter, slice_index, ◌==◌, ◌||◌, if◌then◌else◌}
use Rattle.std.specs.List.{AllByRecursion, list_any, range_with_len}
use Rattle.std.specs.List.Sorted.{IsStrictlyIncreasing}
use Rattle.std.proofs.lemmas.Bool.{cases_order, eq-eqb}
use Rattle.graph_model.specs.declared.id.Id.{Id}
use Rattle.graph_model.specs.declared.val.Val.{Val}
use Rattle.graph_model.specs.declared.val.Val.TheVariants.{Null, Int, Ref}
use Rattle.graph_model.specs.Graph.{Graph, is_same_id}
use Rattle.graph_model.specs.Transaction.{Transaction, Registers, View, serial}
use Rattle.graph_model.specs.History.{Account, IsSession, sessions}
use Rattle.graph_model.specs.Locking.{Lock, locks_of}
use Rattle.graph_model.specs.Plain.{view}
use Rattle.graph_model.proofs.Whole.Graph.{itself}
use Rattle.heap_words.specs.declared.Word.TheVariants.{Stable}
use Rattle.heap_words.specs.Word.{meaning}
use Rattle.object_layout.proofs.WalkLaws.{Contains-cases, Contains-head, Contains-none, Contains-rest}
use Rattle.log_machine.specs.declared.UndoEntry.{UndoEntry}
use Rattle.graph_words.specs.Places.{Places, address_of, addresses}
use Rattle.graph_words.proofs.Places.Addresses.{address_of-cases}
use Rattle.collection_words.specs.Placed.{Ascend}
use Rattle.collection_words.proofs.Copy.Ascending.{ascend_from}
use Rattle.heap_model.specs.Collecting.{holds, is_entry_at, is_held, is_locked_by, is_named, is_reference_to, is_root, names_object, refers_at, refers_to}
use Rattle.core_laws.proofs.Collecting.Carried.{IsStillThere, StaysCurrent, StaysHeld}

-- Tests.

pub or_left : (b d : Bool) → b ≡ true → (b || d) ≡ true
or_left true d is = refl
or_left false d is = absurd (cc is)

pub or_right : (b d : Bool) → d ≡ true → (b || d) ≡ true
or_right true d is = refl
or_right false d is = is

-- an element passes a test
pub any_of : {X : Type 0} (f : X → Bool) (xs : List X) (x : X) → Contains xs x → f x ≡ true → list_any f xs ≡ true
any_of f [] x has is = absurd (Contains-none x has)
any_of f (y ∷ ys) x has is = elim (Contains-cases y ys x has) [
  | inl here ↦ or_left (f y) (list_any f ys) (ap f here ∙ is)
  | inr later ↦ or_right (f y) (list_any f ys) (any_of f ys x later is)
]

-- a number of a range does
pub any_in : (f : ℕ → Bool) (from n x : ℕ) → from ≤ x → x < from + n → f x ≡ true → list_any f (range_with_len from n) ≡ true
any_in f from zero x low high is = absurd (omega arith)
any_in f from (suc n) x low high is = elim (cases_order from x) [
  | inl same ↦ or_left (f from) (list_any f (range_with_len (from + 1) n)) (ap f same ∙ is)
  | inr (inl less) ↦ or_right (f from) (list_any f (range_with_len (from + 1) n)) (any_in f (from + 1) n x (omega (arith, less)) (omega (arith, high)) is)
  | inr (inr more) ↦ absurd (omega (arith, low, more))
]

-- Places that pass a test.

kept_ascend : (b : Bool) (low : ℕ) (p : Id × ℕ) (ps : Places) → low ≤ p.1 → Ascend (suc p.1) (addresses ps) → Ascend low (addresses (if b then p ∷ ps else ps))
kept_ascend true low p ps first up = (first, up)
kept_ascend false low p ps first up = ascend_from (suc p.1) low (addresses ps) (omega (arith, first)) up

-- they ascend where all do
pub passing_ascend : (f : Id × ℕ → Bool) (low : ℕ) (ps : Places) → Ascend low (addresses ps) → Ascend low (addresses (filter f ps))
passing_ascend f low [] up = tt
passing_ascend f low (p ∷ ps) up = kept_ascend (f p) low p (filter f ps) up.0 (passing_ascend f (suc p.1) ps up.1)

-- what ascends increases strictly
pub strictly : (low : ℕ) (xs : List ℕ) → Ascend low xs → IsStrictlyIncreasing xs
strictly low [] up k within = absurd (omega arith)
strictly low (x ∷ []) up k within = absurd (omega arith)
strictly low (x ∷ y ∷ ys) up zero within = let next = up.1.0 in omega arith
strictly low (x ∷ y ∷ ys) up (suc k) within =
    let next : suc k + 1 ≡ suc (k + 1) = omega arith in
    subst (λ (j : ℕ). slice_index (x ∷ y ∷ ys) (suc k) < slice_index (x ∷ y ∷ ys) j) (sym next) (strictly (suc x) (y ∷ ys) up.1 k (omega arith))

kept_among : (b : Bool) (p : Id × ℕ) (ps : Places) (at : ℕ) → Contains (addresses (if b then p ∷ ps else ps)) at → (p.1 ≡ at) ⊎ Contains (addresses ps) at
kept_among true p ps at has = Contains-cases p.1 (addresses ps) at has
kept_among false p ps at has = inr has

-- they are among all
pub passing_among : (f : Id × ℕ → Bool) (ps : Places) (at : ℕ) → Contains (addresses (filter f ps)) at → Contains (addresses ps) at
passing_among f [] at has = has
passing_among f (p ∷ ps) at has = elim (kept_among (f p) p (filter f ps) at has) [
  | inl here ↦ subst (λ (x : ℕ). Contains (addresses (p ∷ ps)) x) here (Contains-head p.1 (addresses ps))
  | inr later ↦ Contains-rest p.1 (addresses ps) at (passing_among f ps at later)
]

kept_first : (b : Bool) (p : Id × ℕ) (ps : Places) → b ≡ true → Contains (addresses (if b then p ∷ ps else ps)) p.1
kept_first true p ps is = Contains-head p.1 (addresses ps)
kept_first false p ps is = absurd (cc is)

kept_later : (b : Bool) (p : Id × ℕ) (ps : Places) (at : ℕ) → Contains (addresses ps) at → Contains (addresses (if b then p ∷ ps else ps)) at
kept_later true p ps at has = Contains-rest p.1 (addresses ps) at has
kept_later false p ps at has = has

-- the place of an object that passes is one of them
pub passing_has : (f : Id × ℕ → Bool) (ps : Places) (id : Id) (at : ℕ) → address_of ps id ≡ Some at → f (id, at) ≡ true → Contains (addresses (filter f ps)) at
passing_has f [] id at is passes = absurd (cc is)
passing_has f (p ∷ ps) id at is passes = elim (address_of-cases p ps id at is) [
  | inl here ↦
      let first : f p ≡ true = ap (λ (x : Id). f (x, p.1)) here.0 ∙ ap (λ (y : ℕ). f (id, y)) here.1 ∙ passes in
      subst (λ (x : ℕ). Contains (addresses (filter f (p ∷ ps))) x) here.1 (kept_first (f p) p (filter f ps) first)
  | inr later ↦ kept_later (f p) p (filter f ps) at (passing_has f ps id at later passes)
]

-- What an active transaction names.

module _ (undo : ℕ → List UndoEntry) (g0 : Graph) (a : Account) (s : ℕ) (t : Transaction) (active : a.active s ≡ Some t) (session : IsSession s) where
  abbrev v : View
  v = view g0 a t

  abbrev names : Id × ℕ → Bool
  names p = names_object v t.number (undo t.number) (locks_of (serial g0 a.sealed) t) p

  -- what it names is a root
  pub named_root : (p : Id × ℕ) → names p ≡ true → is_root undo g0 a p ≡ true
  unfolding sessions
  named_root p is =
      let low = session.0 in
      let high = session.1 in
      any_in (λ (r : ℕ). is_named undo g0 a (a.active r) p) 1 32 s low (omega (arith, high)) (ap (λ (o : Option Transaction). is_named undo g0 a o p) active ∙ is)

  -- its handles
  pub held_root : (p : Id × ℕ) → holds v.registers p.0 ≡ true → is_root undo g0 a p ≡ true
  held_root p is = named_root p (or_left (holds v.registers p.0) _ is)

  -- what its objects refer to
  pub referred_root : (p : Id × ℕ) → refers_to v t.number p.0 ≡ true → is_root undo g0 a p ≡ true
  referred_root p is = named_root p (or_right (holds v.registers p.0) _ (or_left (refers_to v t.number p.0) _ is))

  -- what it has locked
  pub locked_root : (p : Id × ℕ) → is_locked_by (locks_of (serial g0 a.sealed) t) p.0 ≡ true → is_root undo g0 a p ≡ true
  locked_root p is = named_root p (or_right (holds v.registers p.0) _ (or_right (refers_to v t.number p.0) _ (or_left (is_locked_by (locks_of (serial g0 a.sealed) t) p.0) _ is)))

  -- and what it wrote
  pub written_root : (p : Id × ℕ) (u : UndoEntry) → Contains (undo t.number) u → is_entry_at p.1 u ≡ true → is_root undo g0 a p ≡ true
  written_root p u has is =
      named_root p (or_right (holds v.registers p.0) _ (or_right (refers_to v t.number p.0) _ (or_right (is_locked_by (locks_of (serial g0 a.sealed) t) p.0) _ (any_of (is_entry_at p.1) (undo t.number) u has is))))

-- a write is of its object
pub entry_object : (u : UndoEntry) → is_entry_at u.object u ≡ true
entry_object u = or_left (u.object == u.object) _ (eq-eqb u.object u.object refl)

-- and has replaced its word
pub entry_was : (u : UndoEntry) (at : ℕ) → meaning u.was ≡ Some (Stable at) → is_entry_at at u ≡ true
entry_was u at is = or_right (u.object == at) _ (ap (refers_at at) is ∙ eq-eqb at at refl)

-- Values and handles.

-- values stay current whose objects do to which they refer
pub values_stay : (places currents : Places) (vs : List Val) → ((id : Id) → list_any (is_reference_to id) vs ≡ true → is_some (address_of places id) ≡ true → is_some (address_of currents id) ≡ true)
    → AllByRecursion (StaysCurrent places currents) vs
values_stay places currents [] each = tt
values_stay places currents (Null ∷ vs) each = (tt, values_stay places currents vs each)
values_stay places currents (Int n ∷ vs) each = (tt, values_stay places currents vs each)
values_stay places currents (Ref id ∷ vs) each = (
  each id (or_left (is_reference_to id (Ref id)) (list_any (is_reference_to id) vs) (itself id)),
  values_stay places currents vs (λ other is. each other (or_right (is_reference_to other (Ref id)) (list_any (is_reference_to other) vs) is)),
)

-- so do handles
pub handles_stay : (places currents : Places) (os : Registers) → ((id : Id) → holds os id ≡ true → is_some (address_of places id) ≡ true → is_some (address_of currents id) ≡ true)
    → AllByRecursion (StaysHeld places currents) os
handles_stay places currents [] each = tt
handles_stay places currents (None ∷ os) each = (tt, handles_stay places currents os each)
handles_stay places currents (Some id ∷ os) each = (
  each id (or_left (is_held id (Some id)) (holds os id) (itself id)),
  handles_stay places currents os (λ other is. each other (or_right (is_held other (Some id)) (holds os other) is)),
)

-- and locks
pub locks_stay : (places currents : Places) (locks : List Lock) → ((id : Id) → is_locked_by locks id ≡ true → is_some (address_of places id) ≡ true → is_some (address_of currents id) ≡ true)
    → AllByRecursion (λ (lock : Lock). IsStillThere places currents lock.0) locks
locks_stay places currents [] each = tt
locks_stay places currents (l ∷ ls) each = (
  each l.0 (or_left (is_same_id l.0 l.0) (is_locked_by ls l.0) (itself l.0)),
  locks_stay places currents ls (λ other is. each other (or_right (is_same_id l.0 other) (is_locked_by ls other) is)),
)
