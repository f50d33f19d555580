-- What transactions hold they take with their calls and keep until they end, whatever the entries of others do.
use Rattle.std.proofs.Common.{◌≡◌, inl, inr, ℕ, ◌+◌, List, [], ◌∷◌, ◌++◌, Option, Some, None, refl, sym, ap, ◌∙◌, subst}
use Rattle.std.specs.List.{Contains}
use Rattle.std.specs.Option.{option_to_list}
use Rattle.std.proofs.lemmas.Bool.{cases_eq}
use Rattle.std.proofs.lemmas.Option.{same_Some}
use Rattle.std.proofs.lemmas.List.{append-nil}
use Rattle.std.proofs.lemmas.List.Elements.{Contains-append_left}
use Rattle.graph_model.specs.declared.id.Id.{Id}
use Rattle.graph_model.specs.declared.event.Event.{Event}
use Rattle.graph_model.specs.declared.event.Event.TheVariants.{Seal}
use Rattle.graph_model.specs.declared.reply.Refusal.TheVariants.{DiskFault, Stopped}
use Rattle.graph_model.specs.declared.reply.Reply.{Reply}
use Rattle.graph_model.specs.declared.reply.Reply.TheVariants.{Begun, Sealed, Aborted, Durable, Flipped, Collecting, Scanned, Collected, Idle, Flushed, Clean, Refused}
use Rattle.graph_model.specs.Graph.{Graph}
use Rattle.graph_model.specs.Transaction.{Transaction, fresh_view, serial}
use Rattle.graph_model.specs.History.{Account, account, account_after, begins, aborts, cut_short, session_of, with_active, with_call}
use Rattle.graph_model.proofs.Runs.History.{account-append, serial-append}
use Rattle.graph_model.specs.Plain.{view}
use Rattle.graph_model.specs.Locking.{Mode, lock_of, locks_of, HoldsLock}
use Rattle.commit_order.specs.Heard.{Heard, heard_in}
use Rattle.commit_order.proofs.HoldsLaws.{call_holds}
use Rattle.commit_order.proofs.LockingLaws.{locks_of_calls-append, runs_alike}
use Rattle.commit_order.proofs.OrderLaws.{IsOrdered, changed, two_phase_ordered}
use Rattle.commit_order.proofs.PlaceLaws.{plain_before, two_phase_before}
use Rattle.commit_order.specs.SerialOrder.{numbers_begun, StillHold, StrictTheorem}

module _ (g0 : Graph) (numbers : List ℕ) (a : Account) (heard : Heard) (o : IsOrdered g0 numbers a heard) where
  -- what an active transaction holds is among its locks
  own_lock : (s : ℕ) (t : Transaction) (id : Id) (mode : Mode) → a.active s ≡ Some t → HoldsLock g0 a t.number id mode → Contains (locks_of (serial g0 a.sealed) t) (id, mode)
  own_lock s t id mode active holds = elim (cases_eq holds.session s) [
    | inl own ↦ subst (λ x. Contains (locks_of (serial g0 a.sealed) x) (id, mode)) (same_Some holds.transaction t (sym holds.active ∙ ap a.active own ∙ active)) holds.lock
    | inr other ↦ absurd ((o.beside holds.session s holds.transaction t other holds.active active).differ holds.number)
  ]

  -- one that made no call holds what it held, where none was sealed
  still_one : (b : Account) (s : ℕ) (t : Transaction) (id : Id) (mode : Mode) → b.sealed ≡ a.sealed → b.active s ≡ Some t → a.active s ≡ Some t → HoldsLock g0 a t.number id mode → HoldsLock g0 b t.number id mode
  still_one b s t id mode sealed now was holds = record {
    session = s;
    transaction = t;
    active = now;
    number = refl;
    lock = subst (λ ts. Contains (locks_of (serial g0 ts) t) (id, mode)) (sym sealed) (own_lock s t id mode was holds);
  }

  -- so do all where the same are active and sealed
  still_same : (b : Account) → b.active ≡ a.active → b.sealed ≡ a.sealed → StillHold g0 a b
  still_same b active sealed s t id mode now holds = still_one b s t id mode sealed now (sym (ap (λ (f : ℕ → Option Transaction). f s) active) ∙ now) holds

  still_cut : (event : Event) (entries : ℕ) → StillHold g0 a (record (cut_short a event) { entries = entries })
  still_cut (Seal s) entries = still_same (record (cut_short a (Seal s)) { entries = entries }) refl refl
  still_cut event entries = still_same (record (cut_short a event) { entries = entries }) refl refl

  still_begin : (s n entries : ℕ) → (Contains numbers n → ⊥) → StillHold g0 a (record (begins a s n) { entries = entries })
  still_begin s n entries anew r u id mode now holds =
      let t : Transaction = record { number = n; calls = [] } in
      elim (changed a.active s (Some t) r u now) [
        | inl own ↦
            let same : holds.transaction.number ≡ n = holds.number ∙ sym (ap (λ (x : Transaction). x.number) (same_Some t u own.1)) in
            absurd (anew (subst (Contains numbers) same (o.begun holds.session holds.transaction holds.active)))
        | inr was ↦ still_one (record (begins a s n) { entries = entries }) r u id mode refl now was.1 holds
      ]

  still_end : (s entries : ℕ) → StillHold g0 a (record (aborts a s) { entries = entries })
  still_end s entries r u id mode now holds = elim (changed a.active s None r u now) [
    | inl gone ↦ cc
    | inr was ↦ still_one (record (aborts a s) { entries = entries }) r u id mode refl now was.1 holds
  ]

  -- a transaction that is sealed leaves the locks of the others as they are
  still_seal : (s entries : ℕ) (x : Option Transaction) → a.active s ≡ x → StillHold g0 a (record (aborts a s) { sealed = a.sealed ++ option_to_list x; entries = entries })
  still_seal s entries None is r u id mode now holds = elim (changed a.active s None r u now) [
    | inl gone ↦ cc
    | inr was ↦ still_one (record (aborts a s) { sealed = a.sealed ++ []; entries = entries }) r u id mode (append-nil a.sealed) now was.1 holds
  ]
  still_seal s entries (Some t) is r u id mode now holds = elim (changed a.active s None r u now) [
    | inl gone ↦ cc
    | inr was ↦
        let b = o.beside s r t u (λ same. was.0 (sym same)) is was.1 in
        let alike = runs_alike (serial g0 a.sealed) t u o.closed (λ same. b.differ (sym same)) (o.unused s t is) b.apart in
        record {
          session = r;
          transaction = u;
          active = now;
          number = refl;
          lock = subst (λ ls. Contains ls (id, mode)) (alike.locks ∙ ap (λ h. locks_of h u) (sym (serial-append g0 a.sealed t))) (own_lock r u id mode was.1 holds);
        }
  ]

  -- a call takes no lock away
  still_call : (s entries : ℕ) (event : Event) (x : Option Transaction) → a.active s ≡ x → StillHold g0 a (record a { active = with_active a.active s (with_call x event); entries = entries })
  still_call s entries event None is r u id mode now holds = elim (changed a.active s None r u now) [
    | inl gone ↦ cc
    | inr was ↦ still_one (record (aborts a s) { entries = entries }) r u id mode refl now was.1 holds
  ]
  still_call s entries event (Some t) is r u id mode now holds =
      let g = serial g0 a.sealed in
      let next : Transaction = record { number = t.number; calls = t.calls ++ event ∷ [] } in
      let more = locks_of_calls-append (fresh_view g) t.number t.calls event in
      elim (changed a.active s (Some next) r u now) [
        | inl own ↦
            let same : next ≡ u = same_Some next u own.1 in
            let before = own_lock s t id mode is (subst (λ n. HoldsLock g0 a n id mode) (sym (ap (λ (y : Transaction). y.number) same)) holds) in
            record {
              session = r;
              transaction = u;
              active = now;
              number = refl;
              lock = subst (λ y. Contains (locks_of g y) (id, mode)) same
                  (subst (λ ls. Contains ls (id, mode)) (sym more) (Contains-append_left (locks_of g t) (option_to_list (lock_of (view g0 a t).registers event)) (id, mode) before));
            }
        | inr was ↦ still_one (record a { active = with_active a.active s (Some next); entries = entries }) r u id mode refl now was.1 holds
      ]

  -- nor does any entry, of one that is active after it
  still_entry : (event : Event) (reply : Reply) → ((n : ℕ) → reply ≡ Begun n → Contains numbers n → ⊥) → StillHold g0 a (account_after a (record { event = event; reply = reply }))
  still_entry event (Begun n) anew = still_begin (session_of event) n (a.entries + 1) (anew n refl)
  still_entry event (Sealed n) anew = still_seal (session_of event) (a.entries + 1) (a.active (session_of event)) refl
  still_entry event Aborted anew = still_end (session_of event) (a.entries + 1)
  still_entry event (Durable n) anew = still_same (account_after a (record { event = event; reply = Durable n })) refl refl
  still_entry event (Flipped objects words) anew = still_same (account_after a (record { event = event; reply = Flipped objects words })) refl refl
  still_entry event Collecting anew = still_same (account_after a (record { event = event; reply = Collecting })) refl refl
  still_entry event (Scanned page objects words) anew = still_same (account_after a (record { event = event; reply = Scanned page objects words })) refl refl
  still_entry event (Collected used) anew = still_same (account_after a (record { event = event; reply = Collected used })) refl refl
  still_entry event Idle anew = still_same (account_after a (record { event = event; reply = Idle })) refl refl
  still_entry event (Flushed page) anew = still_same (account_after a (record { event = event; reply = Flushed page })) refl refl
  still_entry event (Clean page) anew = still_same (account_after a (record { event = event; reply = Clean page })) refl refl
  still_entry event (Refused DiskFault) anew = still_cut event (a.entries + 1)
  still_entry event (Refused Stopped) anew = still_cut event (a.entries + 1)
  still_entry event (Refused why) anew = still_same (account_after a (record { event = event; reply = Refused why })) refl refl
  still_entry event reply anew = still_call (session_of event) (a.entries + 1) event (a.active (session_of event)) refl

-- Each lock is taken with the call that needs it, and kept until its transaction ends.
pub strict_locking : StrictTheorem
strict_locking g0 history plain two_phase = record {
  taken = λ before e after is t id mode own needs. (call_holds g0 before e t own t.number id mode).1 (inr (refl, needs));
  kept = λ before e after is.
      let o = two_phase_ordered g0 before (plain_before g0 history before (e ∷ after) is plain) (two_phase_before g0 history before (e ∷ after) is two_phase) in
      subst (λ b. StillHold g0 (account before) b) (sym (account-append before e))
      (still_entry g0 (numbers_begun before) (account before) (heard_in before) o e.event e.reply (λ n begun. (plain.numbered before e after is n begun).0));
}
