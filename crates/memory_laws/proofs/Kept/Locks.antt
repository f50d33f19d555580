-- What the table of locks in memory says after an event is what the model says that transactions hold then.
use Rattle.std.proofs.Common.{◌≡◌, ◌≢◌, inl, inr, ℕ, Bool, true, Option, Some, None, refl, sym, ap, ◌∙◌, subst, false, List}
use Rattle.std.specs.Cmp.{Equal-is}
use Rattle.std.specs.FinSet as set
use Rattle.std.specs.FinSet.{contains-insert, contains-retain}
use Rattle.std.specs.Ordering.{eq_by_cmp, is_eq}
use Rattle.std.specs.Prelude.{◌&&◌, ◌||◌, not, ◌==◌}
use Rattle.std.proofs.lemmas.Bool.{and_parts, and_from, eqb-false, ne_eqb, not-true, not_from_false}
use Rattle.std.proofs.lemmas.Cmp.{tied_itself}
use Rattle.std.proofs.lemmas.Option.{same_Some}
use Rattle.graph_model.specs.declared.event.Event.TheVariants.{Begin, Seal, Abort}
use Rattle.graph_model.specs.declared.event.Event.{Event}
use Rattle.graph_model.specs.declared.id.Id.{Id}
use Rattle.graph_model.specs.declared.reply.Entry.{Entry}
use Rattle.graph_model.specs.declared.reply.Reply.TheVariants.{Begun, Aborted, Sealed}
use Rattle.graph_model.specs.declared.reply.Reply.{Reply}
use Rattle.graph_model.specs.Graph.{Graph}
use Rattle.graph_model.specs.History.{Account, makes_call, account, account_after}
use Rattle.graph_model.proofs.Runs.History.{account-append}
use Rattle.graph_model.specs.Locking.{HoldsLock, Lock, Mode, lock_of, in_mode}
use Rattle.graph_model.specs.Plain.{view}
use Rattle.graph_model.specs.Transaction.{serial, Transaction}
use Rattle.commit_order.proofs.HoldsLaws.{AddsLock, Releases, HoldAlike, same_holds, adds_lock, begin_holds, abort_holds, seal_holds}
use Rattle.commit_order.proofs.LockingLaws.{locks_of-other}
use Rattle.commit_order.proofs.OrderLaws.{two_phase_ordered}
use Rattle.commit_order.specs.SerialOrder.{IsTwoPhase, HasPlainReplies}
use Rattle.log_machine.specs.declared.UndoEntry.{UndoEntry}
use Rattle.object_locks.specs.declared.holding.Holding.{Holding}
use Rattle.object_locks.specs.declared.holding.Mode as table
use Rattle.object_locks.specs.declared.holding.Mode.TheVariants as locked
use Rattle.object_locks.proofs.HoldingOrder.{holding_total, holding_exact}
use Rattle.object_locks.specs.Holdings.{Holdings, without, holding_cmp}
use Rattle.txn_table.specs.Table.{TransactionState}
use Rattle.graph_words.specs.Places.{Places, address_of, index_of}
use Rattle.core_laws.proofs.Sessions.Actives.{called}
use Rattle.heap_memory.specs.Leaves.{with_lock}
use Rattle.heap_memory.specs.Refusals.{asked}
use Rattle.memory_laws.specs.CoreMemory.{IsHeld, AreHeld, mode_of, kept, place_in, standing_place}

-- A lock of the table is what the model calls one.

either : (a b : Bool) (P : Type 0) → (a || b) ≡ true → (a ≡ true → P) → (b ≡ true → P) → P
either true b P e f g = f refl
either false b P e f g = g e

or_left : (a b : Bool) → a ≡ true → (a || b) ≡ true
or_left true b e = refl
or_left false b e = cc

or_right : (a b : Bool) → b ≡ true → (a || b) ≡ true
or_right true b e = refl
or_right false b e = e

-- what is held so in the model
pub of_held : (places : Places) (g0 : Graph) (a : Account) (h : Holding) → (x : IsHeld places g0 a h) → HoldsLock g0 a h.transaction x.id (mode_of h.mode)
of_held places g0 a h x = record { session = x.session; transaction = x.transaction; active = x.active; number = x.number; lock = x.lock }

-- is so in the table where it has the address
pub as_held : (places : Places) (g0 : Graph) (a : Account) (h : Holding) (id : Id) → address_of places id ≡ Some h.key.address → HoldsLock g0 a h.transaction id (mode_of h.mode) → IsHeld places g0 a h
as_held places g0 a h id place holds = record {
  session = holds.session;
  transaction = holds.transaction;
  active = holds.active;
  number = holds.number;
  id = id;
  place = place;
  lock = holds.lock;
}

mode_same : (mode other : table.Mode) → mode_of mode ≡ mode_of other → mode ≡ other
mode_same locked.Shared locked.Shared e = refl
mode_same locked.Shared locked.Exclusive e = cc
mode_same locked.Exclusive locked.Shared e = cc
mode_same locked.Exclusive locked.Exclusive e = refl

pub same_key : (h k : Holding) → eq_by_cmp holding_cmp h k ≡ true → h ≡ k
same_key h k tie = holding_exact h k ((Equal-is (holding_cmp h k)).0 tie)

pub itself : (h : Holding) → eq_by_cmp holding_cmp h h ≡ true
itself h = ap is_eq (tied_itself holding_total h)

-- an object that is held in a mode of the table
abbrev pub lock_in : table.Mode → Id → Lock
lock_in mode id = (id, mode_of mode)

same_lock : (id q : Id) (mode other : table.Mode) → Some (lock_in mode id) ≡ Some (lock_in other q) → (id ≡ q) × (mode ≡ other)
same_lock id q mode other is =
    let both = same_Some (lock_in mode id) (lock_in other q) is in
    (ap (λ (l : Lock). l.0) both, mode_same mode other (ap (λ (l : Lock). l.1) both))

-- a lock of the same transaction on the object that has the address, in the same mode
asked_one : (places : Places) (h : Holding) (n at : ℕ) (id q : Id) (mode : table.Mode) → address_of places id ≡ Some at → address_of places q ≡ Some h.key.address → h.transaction ≡ n
    → Some (lock_in mode id) ≡ Some (lock_in h.mode q) → h ≡ asked n mode at
asked_one places h n at id q mode place there number is =
    let parts = same_lock id q mode h.mode is in
    let address = same_Some at h.key.address (sym place ∙ ap (address_of places) parts.0 ∙ there) in
    λ i. record { key = record { address = sym address i }; transaction = number i; mode = sym parts.1 i }

-- What is held after an event.

-- where all hold what they held, the same locks are held
pub held_as : (locks : Holdings) (places : Places) (g0 : Graph) (a b : Account) → HoldAlike g0 a b → AreHeld locks places g0 a → AreHeld locks places g0 b
held_as locks places g0 a b alike all h = (
  λ there. let x = (all h).0 there in as_held places g0 b h x.id x.place ((alike h.transaction x.id (mode_of h.mode)).1 (of_held places g0 a h x)),
  λ x. (all h).1 (as_held places g0 a h x.id x.place ((alike h.transaction x.id (mode_of h.mode)).0 (of_held places g0 b h x))),
)

-- where the same transactions are active and sealed, the same locks are held
pub held_alike : (locks : Holdings) (places : Places) (g0 : Graph) (a b : Account) → b.active ≡ a.active → b.sealed ≡ a.sealed → AreHeld locks places g0 a → AreHeld locks places g0 b
held_alike locks places g0 a b active sealed = held_as locks places g0 a b (same_holds g0 a b active sealed)

-- a lock that is new
held_more : (locks : Holdings) (places : Places) (g0 : Graph) (a b : Account) (n : ℕ) (id : Id) (at : ℕ) (mode : table.Mode) → AddsLock g0 a b n (Some (lock_in mode id)) → address_of places id ≡ Some at
    → AreHeld locks places g0 a → AreHeld (set.insert locks (asked n mode at)) places g0 b
held_more locks places g0 a b n id at mode adds place all h =
    let k = asked n mode at in
    let P : Holding → Type 0 = λ x. IsHeld places g0 b x in
    let tells = contains-insert holding_total locks k h in (
      λ there. either (eq_by_cmp holding_cmp h k) (set.contains locks h) (IsHeld places g0 b h) (sym tells ∙ there)
          (λ tie. subst P (sym (same_key h k tie)) (as_held places g0 b k id place ((adds n id (mode_of mode)).1 (inr (refl, refl)))))
          (λ before. let x = (all h).0 before in as_held places g0 b h x.id x.place ((adds h.transaction x.id (mode_of h.mode)).1 (inl (of_held places g0 a h x)))),
      λ x. tells ∙ elim ((adds h.transaction x.id (mode_of h.mode)).0 (of_held places g0 b h x)) [
        | inl before ↦ or_right (eq_by_cmp holding_cmp h k) (set.contains locks h) ((all h).1 (as_held places g0 a h x.id x.place before))
        | inr new ↦ or_left (eq_by_cmp holding_cmp h k) (set.contains locks h) (ap (eq_by_cmp holding_cmp h) (sym (asked_one places h n at id x.id mode place x.place new.0 new.1)) ∙ itself h)
      ],
    )

-- a lock on an object that has no address is none of the table
held_still : (locks : Holdings) (places : Places) (g0 : Graph) (a b : Account) (n : ℕ) (lock : Option Lock) → AddsLock g0 a b n lock
    → ((id : Id) (mode : Mode) → lock ≡ Some (id, mode) → address_of places id ≡ None) → AreHeld locks places g0 a → AreHeld locks places g0 b
held_still locks places g0 a b n lock adds apart all h = (
  λ there. let x = (all h).0 there in as_held places g0 b h x.id x.place ((adds h.transaction x.id (mode_of h.mode)).1 (inl (of_held places g0 a h x))),
  λ x. elim ((adds h.transaction x.id (mode_of h.mode)).0 (of_held places g0 b h x)) [
    | inl before ↦ (all h).1 (as_held places g0 a h x.id x.place before)
    | inr new ↦ let clash = sym (apart x.id (mode_of h.mode) new.1) ∙ x.place in cc
  ],
)

-- what is held without a transaction
held_without : (locks : Holdings) (n : ℕ) (h : Holding) → set.contains (without locks n) h ≡ (set.contains locks h && not (h.transaction == n))
held_without locks n h = contains-retain locks (λ x. not (x.transaction == n)) h (λ x tie. ap (λ (y : Holding). not (y.transaction == n)) (sym (holding_exact h x tie)))

-- a transaction has released what it held, and what the others hold has the addresses that it had
held_released : (locks : Holdings) (places later : Places) (g0 : Graph) (a b : Account) (n : ℕ) → Releases g0 a b n
    → ((m : ℕ) (id : Id) (mode : Mode) → m ≢ n → HoldsLock g0 a m id mode → address_of later id ≡ address_of places id) → AreHeld locks places g0 a → AreHeld (without locks n) later g0 b
held_released locks places later g0 a b n releases same all h =
    let tells = held_without locks n h in (
      λ there.
          let parts = and_parts (set.contains locks h) (not (h.transaction == n)) (sym tells ∙ there) in
          let other = eqb-false h.transaction n (not-true (h.transaction == n) parts.1) in
          let x = (all h).0 parts.0 in
          let holds = of_held places g0 a h x in
          as_held later g0 b h x.id (same h.transaction x.id (mode_of h.mode) other holds ∙ x.place) ((releases h.transaction x.id (mode_of h.mode)).1 (other, holds)),
      λ x.
          let parts = (releases h.transaction x.id (mode_of h.mode)).0 (of_held later g0 b h x) in
          let place = sym (same h.transaction x.id (mode_of h.mode) parts.0 parts.1) ∙ x.place in
          tells ∙ and_from (set.contains locks h) (not (h.transaction == n)) ((all h).1 (as_held places g0 a h x.id place parts.1)) (not_from_false (h.transaction == n) (ne_eqb h.transaction n parts.0)),
    )

-- a call that needs a lock on an object that has an address
pub held_with : (locks : Holdings) (places : Places) (g0 : Graph) (a : Account) (s : ℕ) (t : Transaction) (event : Event) (id : Id) (at : ℕ) (mode : table.Mode) → a.active s ≡ Some t
    → lock_of (view g0 a t).registers event ≡ Some (lock_in mode id) → address_of places id ≡ Some at → AreHeld locks places g0 a → AreHeld (set.insert locks (asked t.number mode at)) places g0 (called a s event)
held_with locks places g0 a s t event id at mode active needs place all =
    let b = makes_call a s event in
    let adds = subst (AddsLock g0 a b t.number) needs (adds_lock g0 a s t event active) in
    held_alike (set.insert locks (asked t.number mode at)) places g0 b (called a s event) refl refl (held_more locks places g0 a b t.number id at mode adds place all)

-- a call that needs no lock, or one on an object that has no address
pub held_same : (locks : Holdings) (places : Places) (g0 : Graph) (a : Account) (s : ℕ) (t : Transaction) (event : Event) → a.active s ≡ Some t
    → ((id : Id) (mode : Mode) → lock_of (view g0 a t).registers event ≡ Some (id, mode) → address_of places id ≡ None) → AreHeld locks places g0 a → AreHeld locks places g0 (called a s event)
held_same locks places g0 a s t event active apart all =
    let b = makes_call a s event in
    held_alike locks places g0 b (called a s event) refl refl (held_still locks places g0 a b t.number (lock_of (view g0 a t).registers event) (adds_lock g0 a s t event active) apart all)

-- a call that needs a lock on an object, wherever it stands
pub held_used : (locks : Holdings) (places : Places) (g0 : Graph) (a : Account) (s : ℕ) (t : Transaction) (event : Event) (id : Id) (mode : table.Mode) (undo : List UndoEntry) → a.active s ≡ Some t
    → lock_of (view g0 a t).registers event ≡ Some (lock_in mode id) → AreHeld locks places g0 a
    → AreHeld (with_lock locks (kept places (view g0 a t) t.number undo) mode (place_in places (view g0 a t).graph id)) places g0 (called a s event)
held_used locks places g0 a s t event id mode undo active needs all = by_place (address_of places id) refl where
  x : TransactionState
  x = kept places (view g0 a t) t.number undo

  by_place : (o : Option ℕ) → address_of places id ≡ o → AreHeld (with_lock locks x mode (standing_place o (index_of (view g0 a t).graph id))) places g0 (called a s event)
  by_place (Some at) place = held_with locks places g0 a s t event id at mode active needs place all
  by_place None none =
      held_same locks places g0 a s t event active
      (λ q other is. ap (λ (l : Lock). address_of places l.0) (same_Some (in_mode other q) (lock_in mode id) (sym is ∙ needs)) ∙ none) all

module _ (g0 : Graph) (history : List Entry) where
  -- what the history says
  abbrev a : Account
  a = account history

  -- what a history says with one more entry
  abbrev next : Event → Reply → Account
  next event reply = account_after a (record { event = event; reply = reply })

  -- a transaction begins
  pub held_begun : (locks : Holdings) (places : Places) (s n : ℕ) → a.active s ≡ None → AreHeld locks places g0 a → AreHeld locks places g0 (next (Begin s) (Begun n))
  held_begun locks places s n none =
      let P : Account → Type 0 = λ b. HoldAlike g0 a b in
      held_as locks places g0 a (next (Begin s) (Begun n)) (subst P (account-append history (record { event = Begin s; reply = Begun n })) (begin_holds g0 history (Begin s) n none))

  -- no object that another transaction holds was made by an active one
  others_made : HasPlainReplies g0 history → IsTwoPhase g0 history → (s : ℕ) (t : Transaction) → a.active s ≡ Some t → (m : ℕ) (id : Id) (mode : Mode) → m ≢ t.number → HoldsLock g0 a m id mode → id.t ≢ t.number
  others_made plain two_phase s t active m id mode other holds =
      let o = two_phase_ordered g0 history plain two_phase in
      locks_of-other (serial g0 a.sealed) holds.transaction t.number id mode o.closed (λ same. other (sym holds.number ∙ same)) (o.unused s t active) holds.lock

  held_ended : (locks : Holdings) (places later : Places) (s : ℕ) (t : Transaction) (b : Account) → HasPlainReplies g0 history → IsTwoPhase g0 history → a.active s ≡ Some t
      → ((id : Id) → id.t ≢ t.number → address_of later id ≡ address_of places id) → Releases g0 a b t.number → AreHeld locks places g0 a → AreHeld (without locks t.number) later g0 b
  held_ended locks places later s t b plain two_phase active same releases =
      held_released locks places later g0 a b t.number releases (λ m id mode other holds. same id (others_made plain two_phase s t active m id mode other holds))

  -- a transaction is aborted; only objects that it made may come to have another address
  pub held_aborted : (locks : Holdings) (places later : Places) (s : ℕ) (t : Transaction) → HasPlainReplies g0 history → IsTwoPhase g0 history → a.active s ≡ Some t → ((id : Id) → id.t ≢ t.number → address_of later id ≡ address_of places id)
      → AreHeld locks places g0 a → AreHeld (without locks t.number) later g0 (next (Abort s) Aborted)
  held_aborted locks places later s t plain two_phase active same =
      let P : Account → Type 0 = λ b. Releases g0 a b t.number in
      held_ended locks places later s t (next (Abort s) Aborted) plain two_phase active same
      (subst P (account-append history (record { event = Abort s; reply = Aborted })) (abort_holds g0 history (Abort s) t plain two_phase active))

  -- or sealed
  pub held_sealed : (locks : Holdings) (places later : Places) (s k : ℕ) (t : Transaction) → HasPlainReplies g0 history → IsTwoPhase g0 history → a.active s ≡ Some t → ((id : Id) → id.t ≢ t.number → address_of later id ≡ address_of places id)
      → AreHeld locks places g0 a → AreHeld (without locks t.number) later g0 (next (Seal s) (Sealed k))
  held_sealed locks places later s k t plain two_phase active same =
      let P : Account → Type 0 = λ b. Releases g0 a b t.number in
      held_ended locks places later s t (next (Seal s) (Sealed k)) plain two_phase active same
      (subst P (account-append history (record { event = Seal s; reply = Sealed k })) (seal_holds g0 history (Seal s) k t plain two_phase active))
