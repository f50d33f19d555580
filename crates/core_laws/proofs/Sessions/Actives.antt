-- What the history says of the sessions' transactions, where that of one session changes.
use Rattle.std.proofs.Common.{◌≡◌, ◌≢◌, inl, inr, ℕ, ◌+◌, true, false, [], ◌∷◌, ◌++◌, Option, None, Some, refl, sym, ap, ◌∙◌, subst, arith}
use Rattle.std.specs.Prelude.{◌==◌, List, if◌then◌else◌}
use Rattle.std.proofs.lemmas.Bool.{cases_eq, eqb-true, eqb-false, eq-eqb, ne_eqb}
use Rattle.graph_model.specs.declared.event.Event.{Event}
use Rattle.graph_model.specs.Graph.{Graph}
use Rattle.graph_model.specs.History.{Account, AreInSessions, IsSession, with_active, with_call, makes_call, aborts}
use Rattle.graph_model.specs.Locking.{locks_of}
use Rattle.graph_model.specs.Plain.{view}
use Rattle.graph_model.specs.Transaction.{Transaction, serial}
use Rattle.commit_order.proofs.OrderLaws.{changed}
use Rattle.log_machine.specs.Machine.{State, undo_bytes}
use Rattle.log_machine.specs.declared.UndoEntry.{UndoEntry}
use Rattle.graph_words.specs.Places.{Places}
use Rattle.heap_model.specs.Core.{kept_for, reserved}
use Rattle.heap_model.specs.CoreTold.{IsNumbered}
use Rattle.core_laws.proofs.Step.Reserved.{reserved_same, reserved_without}
use Rattle.core_laws.specs.Valid.{IsActive, IsWriting, IsWriter}

-- One session.

-- session s has the transaction that it is given
pub active_same : (active : ℕ → Option Transaction) (s : ℕ) (x : Option Transaction) → with_active active s x s ≡ x
active_same active s x = ap (λ b. if b then x else active s) (eq-eqb s s refl)

-- each other session has the one that it had
pub active_other : (active : ℕ → Option Transaction) (s : ℕ) (x : Option Transaction) (r : ℕ) → r ≢ s → with_active active s x r ≡ active r
active_other active s x r other = ap (λ b. if b then x else active r) (ne_eqb r s other)

-- what holds of that transaction and of those of all other sessions holds of each session's
pub each_session : (P : ℕ → Option Transaction → Type 0) (active : ℕ → Option Transaction) (s : ℕ) (x : Option Transaction) → P s x → ((r : ℕ) → r ≢ s → P r (active r))
    → (r : ℕ) → P r (with_active active s x r)
each_session P active s x own others r =
    elim (r == s) as (λ b. (r == s) ≡ b → P r (if b then x else active r)) [
      | true ↦ λ same. subst (λ q. P q x) (sym (eqb-true r s same)) own
      | false ↦ λ other. others r (eqb-false r s other)
    ] refl

-- the transactions stay in sessions
pub sessions_with : (a : Account) (s : ℕ) (x : Option Transaction) → ((t : Transaction) → x ≡ Some t → IsSession s) → AreInSessions a
    → (r : ℕ) (t : Transaction) → with_active a.active s x r ≡ Some t → IsSession r
sessions_with a s x own all r t is =
    elim (changed a.active s x r t is) [ inl now ↦ subst IsSession (sym now.0) (own t now.1) | inr was ↦ all r t was.1 ]

-- what a session's transaction sees stands, if it does where there is one
pub writer_by : (places remaining : Places) (g0 : Graph) (a : Account) (x : Option Transaction) (words : List ℕ) (state : State)
    → ((t : Transaction) → x ≡ Some t → IsWriting places remaining (view g0 a t) t.number (locks_of (serial g0 a.sealed) t) words state) → IsWriter places remaining g0 a x words state
writer_by places remaining g0 a None words state each = tt
writer_by places remaining g0 a (Some t) words state each = each t refl

-- A call.

-- the transaction with one more call
abbrev pub after_call : Transaction → Event → Transaction
after_call t event = record { number = t.number; calls = t.calls ++ event ∷ [] }

-- what a history says with one more call of a session
abbrev pub called : Account → ℕ → Event → Account
called a s event = record (makes_call a s event) { entries = a.entries + 1 }

-- the session has its transaction with that call
pub called_active : (a : Account) (s : ℕ) (event : Event) (t : Transaction) → a.active s ≡ Some t → (called a s event).active s ≡ Some (after_call t event)
called_active a s event t e = active_same a.active s (with_call (a.active s) event) ∙ ap (λ o. with_call o event) e

called_some : (x : Option Transaction) (event : Event) (t : Transaction) → with_call x event ≡ Some t → (u : Transaction) × (x ≡ Some u)
called_some None event t is = absurd (cc is)
called_some (Some u) event t is = (u, refl)

-- the transactions stay in their sessions
pub called_sessions : (a : Account) (s : ℕ) (event : Event) → AreInSessions a → AreInSessions (called a s event)
called_sessions a s event all = sessions_with a s (with_call (a.active s) event) (λ t is. let was = called_some (a.active s) event t is in all s was.0 was.1) all

called_number : (next : ℕ) (o : Option Transaction) (event : Event) → IsNumbered next o → IsNumbered next (with_call o event)
called_number next None event h = tt
called_number next (Some t) event h = h

-- the transactions keep their numbers
pub called_numbered : (a : Account) (s : ℕ) (event : Event) (next : ℕ) → ((r : ℕ) → IsNumbered next (a.active r)) → (r : ℕ) → IsNumbered next ((called a s event).active r)
called_numbered a s event next all =
    each_session (λ r o. IsNumbered next o) a.active s (with_call (a.active s) event) (called_number next (a.active s) event (all s)) (λ r other. all r)

-- who was active still is
pub called_actives : (a : Account) (s : ℕ) (event : Event) (n : ℕ) → IsActive a n → IsActive (called a s event) n
called_actives a s event n is = elim (cases_eq is.session s) [
  | inl same ↦ record {
    session = s;
    transaction = after_call is.transaction event;
    active = called_active a s event is.transaction (ap a.active (sym same) ∙ is.active);
    number = is.number;
  }
  | inr other ↦ record {
    session = is.session;
    transaction = is.transaction;
    active = active_other a.active s (with_call (a.active s) event) is.session other ∙ is.active;
    number = is.number;
  }
]

-- A begin and an end.

-- who is active still is where a session without one has a transaction
pub begun_actives : (a b : Account) (s : ℕ) (x : Option Transaction) → a.active s ≡ None → b.active ≡ with_active a.active s x → (n : ℕ) → IsActive a n → IsActive b n
begun_actives a b s x none now n is =
    let other : is.session ≢ s = λ same. let clash = sym none ∙ ap a.active (sym same) ∙ is.active in cc in
    record {
      session = is.session;
      transaction = is.transaction;
      active = ap (λ (f : ℕ → Option Transaction). f is.session) now ∙ active_other a.active s x is.session other ∙ is.active;
      number = is.number;
    }

-- where the transaction of a session has ended each other one is still active
pub ended_actives : (a b : Account) (s : ℕ) (t : Transaction) → a.active s ≡ Some t → b.active ≡ with_active a.active s None → (n : ℕ) → n ≢ t.number → IsActive a n → IsActive b n
ended_actives a b s t e now n differs is =
    let other : is.session ≢ s = λ same.
    let one = sym e ∙ ap a.active (sym same) ∙ is.active in
    let number : t.number ≡ is.transaction.number = cc one in
    differs (sym is.number ∙ sym number) in
    record {
      session = is.session;
      transaction = is.transaction;
      active = ap (λ (f : ℕ → Option Transaction). f is.session) now ∙ active_other a.active s None is.session other ∙ is.active;
      number = is.number;
    }

-- who is active does not depend on the rest of what a history says
pub same_actives : (a b : Account) → b.active ≡ a.active → (n : ℕ) → IsActive a n → IsActive b n
same_actives a b same n is = record {
  session = is.session;
  transaction = is.transaction;
  active = ap (λ (f : ℕ → Option Transaction). f is.session) same ∙ is.active;
  number = is.number;
}

-- What is kept.

kept_call : (undo : ℕ → List UndoEntry) (x : Option Transaction) (event : Event) → kept_for undo (with_call x event) ≡ kept_for undo x
kept_call undo None event = refl
kept_call undo (Some t) event = refl

-- a call leaves what is kept
pub called_reserved : (undo : ℕ → List UndoEntry) (a : Account) (s : ℕ) (event : Event) → reserved undo (called a s event) ≡ reserved undo a
called_reserved undo a s event = reserved_same undo undo (called a s event) a (each_session (λ r x. kept_for undo x ≡ kept_for undo (a.active r)) a.active s _ (kept_call undo (a.active s) event) (λ r other. refl))

kept_other : (undo later : ℕ → List UndoEntry) (x : Option Transaction) → ((t : Transaction) → x ≡ Some t → later t.number ≡ undo t.number) → kept_for later x ≡ kept_for undo x
kept_other undo later None same = refl
kept_other undo later (Some t) same = ap undo_bytes (same t refl)

-- where a transaction has ended that leaves the writes of the others, what was kept for it is kept no more
pub ended_reserved : (undo later : ℕ → List UndoEntry) (a : Account) (s : ℕ) (t : Transaction) → IsSession s → a.active s ≡ Some t
    → ((r : ℕ) (u : Transaction) → r ≢ s → a.active r ≡ Some u → later u.number ≡ undo u.number) → reserved later (aborts a s) + undo_bytes (undo t.number) ≡ reserved undo a
ended_reserved undo later a s t session e same =
    let without = reserved_without undo a s t session e in
    let others = reserved_same later undo (aborts a s) (aborts a s)
    (each_session (λ r x. kept_for later x ≡ kept_for undo x) a.active s None refl (λ r other. kept_other undo later (a.active r) (λ u also. same r u other also))) in
    omega arith
