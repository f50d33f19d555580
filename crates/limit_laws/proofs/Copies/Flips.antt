-- What a flip copies: the root, and what active transactions name. All of it is kept.
use Rattle.std.proofs.Common.{◌≡◌, ◌⊎◌, inl, inr, ℕ, zero, suc, Bool, true, false, List, [], ◌∷◌, ◌++◌, filter, Option, None, Some, is_some, refl, sym, ap, ◌∙◌, subst}
use Rattle.std.specs.Prelude.{not, ◌||◌, ◌==◌, Contains, slice_get, if◌then◌else◌}
use Rattle.std.specs.List.{AllByRecursion, list_any}
use Rattle.std.specs.FinSet.{contains}
use Rattle.std.proofs.lemmas.Bool.{eqb-true}
use Rattle.object_layout.proofs.WalkLaws.{Contains-cases, Contains-head, Contains-none, Contains-rest}
use Rattle.graph_model.specs.declared.event.Event.TheVariants.{Flip}
use Rattle.graph_model.specs.declared.id.Id.{Id}
use Rattle.graph_model.specs.declared.val.Val.{Val}
use Rattle.graph_model.specs.declared.val.Val.TheVariants.{Null, Int, Ref}
use Rattle.graph_model.specs.Graph.{fields, is_same_id, root}
use Rattle.graph_model.specs.History.{Account, account, sessions}
use Rattle.graph_model.specs.Locking.{Exclusive, Lock, Mode, locks_of}
use Rattle.graph_model.specs.Plain.{view}
use Rattle.graph_model.specs.Transaction.{Registers, Transaction, held, run}
use Rattle.graph_model.proofs.Whole.Graph.{same_id}
use Rattle.commit_order.specs.Heard.{heard_in}
use Rattle.commit_order.specs.SerialOrder.{numbers_begun}
use Rattle.commit_order.proofs.OrderLaws.{IsOrdered, two_phase_ordered}
use Rattle.heap_words.specs.declared.Word.{Word}
use Rattle.heap_words.specs.declared.Word.TheVariants as word
use Rattle.heap_words.specs.Word.{meaning}
use Rattle.log_machine.specs.declared.UndoEntry.{UndoEntry}
use Rattle.log_machine.specs.Machine.{State, undo_of}
use Rattle.flip_copy.specs.Copied.{with_base}
use Rattle.graph_words.specs.Places.{Places, address_of, made_by}
use Rattle.graph_words.proofs.Places.Addresses.{address_of-Contains, placed, placed_as, some_address}
use Rattle.collection_words.specs.Completed.{future}
use Rattle.collection_words.specs.Placing.{Placing, moved_by_all}
use Rattle.collection_words.proofs.Copy.Named.{own_front}
use Rattle.collection_words.proofs.Laid.Names.{names_own, own_names}
use Rattle.collection_words.proofs.Copy.Stands.{root_current}
use Rattle.flip_laws.specs.Flip.{collection_begun, root_places}
use Rattle.flip_laws.proofs.Roots.{roots_copied}
use Rattle.heap_model.specs.Collecting.{flip_records, flip_records_in, holds, is_entry_at, is_held, is_locked_by, is_named, is_reference_to, is_root, refers_at, refers_to, roots_of}
use Rattle.heap_model.specs.Core.{Core, all_words, own_records, placing, undo_with}
use Rattle.core_laws.proofs.Collecting.Entries.{all_at}
use Rattle.core_laws.proofs.Collecting.Flip as flip
use Rattle.core_laws.proofs.Step.Goes.{writing_of}
use Rattle.core_laws.specs.Valid.{IsLockedWrite, IsValid, RunsLocked}
use Rattle.limit_laws.specs.Copies.{sealed_graph}
use Rattle.limit_laws.proofs.Copies.Closed.{future_some}
use Rattle.limit_laws.proofs.Copies.Kept.{IsKept, of_field, of_overwritten, of_root}
use Rattle.limit_laws.proofs.Copies.Own.{stand_apart}
use Rattle.limit_laws.proofs.Copies.Scans.{AreKept}
use Rattle.limit_laws.proofs.Copies.Steps.{not_made}
use Rattle.limit_laws.proofs.Copies.Within.{IsWithin, OwnOr, run_locks, run_within}

-- Tests.

either : (x y : Bool) → (x || y) ≡ true → (x ≡ true) ⊎ (y ≡ true)
either true y is = inl refl
either false y is = inr is

-- an element passes the test that one of them passes
passes : {X : Type 0} (f : X → Bool) (xs : List X) → list_any f xs ≡ true → (x : X) × Contains xs x × (f x ≡ true)
passes f [] is = absurd (cc is)
passes f (x ∷ xs) is = elim (either (f x) (list_any f xs) is) [
  | inl here ↦ (x, Contains-head x xs, here)
  | inr later ↦ let more = passes f xs later in (more.0, Contains-rest x xs more.0 more.1, more.2)
]

-- a handle holds what handles hold
held_by : (registers : Registers) (id : Id) → holds registers id ≡ true → (h : ℕ) × (held registers h ≡ Some id)
held_by [] id is = absurd (cc is)
held_by (o ∷ os) id is = elim (either (is_held id o) (holds os id) is) [
  | inl here ↦ (zero, one o here)
  | inr later ↦ let more = held_by os id later in (suc more.0, more.1)
]
  where
    one : (o : Option Id) → is_held id o ≡ true → o ≡ Some id
    one None never = absurd (cc never)
    one (Some other) same = ap Some (same_id other id same)

-- a field refers to what fields refer to
referred_by : (vs : List Val) (id : Id) → list_any (is_reference_to id) vs ≡ true → (i : ℕ) × (slice_get vs i ≡ Some (Ref id))
referred_by [] id is = absurd (cc is)
referred_by (v ∷ vs) id is = elim (either (is_reference_to id v) (list_any (is_reference_to id) vs) is) [
  | inl here ↦ (zero, ap Some (one v here))
  | inr later ↦ let more = referred_by vs id later in (suc more.0, more.1)
]
  where
    one : (v : Val) → is_reference_to id v ≡ true → v ≡ Ref id
    one Null never = absurd (cc never)
    one (Int n) never = absurd (cc never)
    one (Ref target) same = ap Ref (same_id target id same)

refers_there : (at : ℕ) (meant : Option Word) → refers_at at meant ≡ true → meant ≡ Some (word.Stable at)
refers_there at None never = absurd (cc never)
refers_there at (Some word.Null) never = absurd (cc never)
refers_there at (Some (word.Int n)) never = absurd (cc never)
refers_there at (Some (word.Volatile index)) never = absurd (cc never)
refers_there at (Some (word.Stable address)) same = ap (λ (x : ℕ). Some (word.Stable x)) (eqb-true address at same)

-- Places.

with_base-cases : (base : ℕ) (roots : List ℕ) (at : ℕ) → Contains (with_base base roots) at → (base ≡ at) ⊎ Contains roots at
with_base-cases base [] at has = elim (Contains-cases base [] at has) [ inl here ↦ inl here | inr none ↦ absurd (Contains-none at none) ]
with_base-cases base (x ∷ roots) at has = by (x == base) has
  where
    by : (b : Bool) → Contains (if b then x ∷ roots else base ∷ x ∷ roots) at → (base ≡ at) ⊎ Contains (x ∷ roots) at
    by true there = inr there
    by false there = Contains-cases base (x ∷ roots) at there

-- what passes a test does so, and has what all have
passing : (Q : Id × ℕ → Type 0) (f : Id × ℕ → Bool) (ps : Places) → AllByRecursion Q ps → AllByRecursion (λ p. Q p × (f p ≡ true)) (filter f ps)
passing Q f [] all = tt
passing Q f (p ∷ ps) all = by (f p) refl (passing Q f ps all.1)
  where
    by : (b : Bool) → f p ≡ b → AllByRecursion (λ q. Q q × (f q ≡ true)) (filter f ps) → AllByRecursion (λ q. Q q × (f q ≡ true)) (if b then p ∷ filter f ps else filter f ps)
    by true is rest = ((all.0, is), rest)
    by false is rest = rest

-- The flip.

module _ (c : Core) (valid : IsValid c) (runs : RunsLocked c.g0 c.first c.history) (none : valid.behind.collection ≡ None) where
  abbrev a : Account
  a = account c.history

  ordered : IsOrdered c.g0 (numbers_begun c.history) (account c.history) (heard_in c.history)
  ordered = two_phase_ordered c.g0 c.history runs.plain runs.two_phase

  -- its record
  pub flip_is : own_records c Flip ≡ flip.rec (account c.history) c valid none ∷ []
  flip_is =
      ap (λ (o : Option State). flip_records o (all_words c) (roots_of c.places (undo_with o) c.g0 a)) valid.told.reached
      ∙ ap (flip_records_in valid.behind (all_words c) (flip.roots a c valid none)) none

  -- What transactions name.

  pub kept_closed : (z y : Id) (i : ℕ) → IsKept c z → slice_get (fields (sealed_graph c) z) i ≡ Some (Ref y) → IsKept c y
  kept_closed z y i kept refers = of_field i y kept refers

  -- what a transaction holds, and its fields refer to, is its own or kept
  pub seen_within : (r : ℕ) (t : Transaction) → (account c.history).active r ≡ Some t → IsWithin (OwnOr (IsKept c) t.number) (run (sealed_graph c) t)
  seen_within r t active = run_within (IsKept c) (sealed_graph c) t of_root kept_closed (ordered.unused r t active)

  locks_kept : (r : ℕ) (t : Transaction) → (account c.history).active r ≡ Some t → (z : Id) (m : Mode) → Contains (locks_of (sealed_graph c) t) (z, m) → OwnOr (IsKept c) t.number z
  locks_kept r t active = run_locks (IsKept c) (sealed_graph c) t of_root kept_closed (ordered.unused r t active)

  -- what stands in the current space is not its own
  current_kept : (r : ℕ) (t : Transaction) → (account c.history).active r ≡ Some t → (id : Id) (at : ℕ) → address_of c.places id ≡ Some at → OwnOr (IsKept c) t.number id → IsKept c id
  current_kept r t active id at there (inl own) = absurd (not_made t c.places id at (writing_of a c r t active valid).made.apart there own)
  current_kept r t active id at there (inr kept) = kept

  -- an object that a transaction wrote, or has overwritten a reference to
  entry_kept : (r : ℕ) (t : Transaction) → (account c.history).active r ≡ Some t → (id : Id) (at : ℕ) → address_of c.places id ≡ Some at → (u : UndoEntry) → Contains (undo_of valid.behind t.number) u → is_entry_at at u ≡ true → IsKept c id
  entry_kept r t active id at there u has names = elim (either (u.object == at) (refers_at at (meaning u.was)) names) [
    | inl object ↦
        let w = writing_of a c r t active valid in
        let lock = all_at (IsLockedWrite c.places (locks_of (sealed_graph c) t)) (undo_of valid.behind t.number) u w.locked has in
        let same = stand_apart a c valid lock.id id at (lock.object ∙ ap Some (eqb-true u.object at object)) there in
        current_kept r t active id at there (subst (λ (x : Id). OwnOr (IsKept c) t.number x) same (locks_kept r t active lock.id Exclusive lock.lock))
    | inr was ↦
        of_overwritten (record {
          session = r;
          transaction = t;
          active = active;
          entry = u;
          written = subst (λ (o : Option State). Contains (undo_with o t.number) u) (sym valid.told.reached) has;
          at = at;
          refers = refers_there at (meaning u.was) was;
          stands = there;
        })
  ]

  -- what a transaction names
  named_kept : (r : ℕ) (o : Option Transaction) → (account c.history).active r ≡ o → (id : Id) (at : ℕ) → address_of c.places id ≡ Some at → is_named (undo_of valid.behind) c.g0 (account c.history) o (id, at) ≡ true → IsKept c id
  named_kept r None active id at there names = absurd (cc names)
  named_kept r (Some t) active id at there names =
      let v = view c.g0 a t in
      let within = seen_within r t active in
      let locks = locks_of (sealed_graph c) t in
      elim (either (holds v.registers id) _ names) [
        | inl held ↦ let h = held_by v.registers id held in current_kept r t active id at there (within.handles h.0 id h.1)
        | inr more ↦ elim (either (refers_to v t.number id) _ more) [
          | inl refers ↦
              let own = passes (λ k. list_any (is_reference_to id) (fields v.graph (made_by t.number k))) _ refers in
              let field = referred_by (fields v.graph (made_by t.number own.0)) id own.2 in
              current_kept r t active id at there (within.leads (made_by t.number own.0) id field.0 (inl refl) field.1)
          | inr rest ↦ elim (either (is_locked_by locks id) _ rest) [
            | inl locked ↦
                let lock = passes (λ (l : Lock). is_same_id l.0 id) locks locked in
                current_kept r t active id at there (subst (OwnOr (IsKept c) t.number) (same_id lock.0.0 id lock.2) (locks_kept r t active lock.0.0 lock.0.1 lock.1))
            | inr wrote ↦ let u = passes (is_entry_at at) (undo_of valid.behind t.number) wrote in entry_kept r t active id at there u.0 u.1 u.2
          ]
        ]
      ]

  root_kept : (id : Id) (at : ℕ) → address_of c.places id ≡ Some at → is_root (undo_of valid.behind) c.g0 (account c.history) (id, at) ≡ true → IsKept c id
  root_kept id at there is =
      let session = passes (λ s. is_named (undo_of valid.behind) c.g0 a (a.active s) (id, at)) sessions is in
      named_kept session.0 (a.active session.0) refl id at there session.2

  -- What the flip copies.

  names : AllByRecursion (λ (p : Id × ℕ). address_of c.places p.0 ≡ Some p.1) c.places
  names =
      let P = c.places ++ future valid.behind (all_words c) c.remaining in
      names_own c.places (own_front c.places (future valid.behind (all_words c) c.remaining) (own_names P _ valid.behind.base P _ valid.told.stands.ends valid.told.stands.names))

  -- Where a copied object stood.
  record WasRoot (id : Id) : Type 0 where
    at : ℕ
    there : address_of c.places id ≡ Some at
    root : Contains (with_base valid.behind.base (flip.roots (account c.history) c valid none)) at

  was_root : (id : Id) (at : ℕ) → address_of (moved_by_all (placing c) (flip.rec (account c.history) c valid none ∷ [])).places id ≡ Some at → WasRoot id
  was_root id at there =
      let s = valid.behind in
      let roots = flip.roots a c valid none in
      let Q : Id × ℕ → Type 0 = λ p. address_of c.places p.0 ≡ Some p.1 in
      let from = root_places s (all_words c) roots c.places in
      let moves = λ (p : Id × ℕ). contains (collection_begun s (all_words c) roots).moved p.1 in
      let here = ap (λ (p : Placing). address_of p.places id) (sym (flip.placed a c valid none)) ∙ there in
      let was = some_address (address_of from id) (future_some (all_words c) from _ id (ap is_some here)) in
      let stood = placed_as (λ (p : Id × ℕ). Q p × (moves p ≡ true)) from id was.0 (passing Q moves c.places names) was.1 in
      record {
        at = was.0;
        there = stood.0;
        root = subst (λ (xs : List ℕ). Contains xs was.0) (roots_copied (flip.can a c valid none)) (address_of-Contains from id was.0 was.1);
      }

  -- in the current space
  pub copied_from : (id : Id) (at : ℕ) → address_of (moved_by_all (placing c) (flip.rec (account c.history) c valid none ∷ [])).places id ≡ Some at → (from : ℕ) × (address_of c.places id ≡ Some from)
  copied_from id at there = let was = was_root id at there in (was.at, was.there)

  -- so did what remains
  pub left_from : (id : Id) → is_some (address_of (moved_by_all (placing c) (flip.rec (account c.history) c valid none ∷ [])).remaining id) ≡ true → (from : ℕ) × (address_of c.places id ≡ Some from)
  left_from id left =
      let Q : Id × ℕ → Type 0 = λ p. address_of c.places p.0 ≡ Some p.1 in
      let stays = λ (p : Id × ℕ). not (contains (collection_begun valid.behind (all_words c) (flip.roots a c valid none)).moved p.1) in
      let here = ap (λ (p : Placing). is_some (address_of p.remaining id)) (sym (flip.placed a c valid none)) ∙ left in
      let was = some_address (address_of (filter stays c.places) id) here in
      (was.0, (placed_as (λ (p : Id × ℕ). Q p × (stays p ≡ true)) (filter stays c.places) id was.0 (passing Q stays c.places names) was.1).0)

  pub flip_kept : AreKept (IsKept c) (moved_by_all (placing c) (flip.rec (account c.history) c valid none ∷ [])).places
  flip_kept id at there =
      let s = valid.behind in
      let Q : Id × ℕ → Type 0 = λ p. address_of c.places p.0 ≡ Some p.1 in
      let was = was_root id at there in
      elim (with_base-cases s.base (flip.roots a c valid none) was.at was.root) [
        | inl base ↦ subst (IsKept c) (stand_apart a c valid root id was.at (root_current valid.told.heap.laid valid.told.stands.root_place ∙ ap Some base) was.there) of_root
        | inr named ↦
            let is = is_root (undo_of s) c.g0 a in
            let root = placed (λ (p : Id × ℕ). Q p × (is p ≡ true)) (filter is c.places) was.at (passing Q is c.places names) named in
            subst (IsKept c) (stand_apart a c valid root.0 id was.at root.1.0 was.there) (root_kept root.0 was.at root.1.0 root.1.1)
      ]
