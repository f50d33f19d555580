-- Why a core refuses an event, by parts.
use Rattle.std.proofs.Common.{◌≡◌, ℕ, Bool, true, false, cond, List, [], ◌++◌, Option, None, Some, refl, ap, ◌∙◌, arith}
use Rattle.graph_model.specs.declared.event.Event.{Event}
use Rattle.graph_model.specs.declared.event.Event.TheVariants.{New, Seal}
use Rattle.graph_model.specs.declared.reply.Refusal.{Refusal}
use Rattle.graph_model.specs.Graph.{Graph}
use Rattle.graph_model.specs.Transaction.{Transaction, IsCall}
use Rattle.graph_model.specs.declared.reply.Entry.{Entry}
use Rattle.graph_model.specs.History.{Account, account, account_after, session_of}
use Rattle.graph_model.specs.Plain.{call_refusal, call_conflict, first_of_two, granted}
use Rattle.graph_model.proofs.Refusals.Plain.{event_refusal-call}
use Rattle.log_records.specs.declared.Record.{Record}
use Rattle.log_machine.specs.declared.UndoEntry.{UndoEntry}
use Rattle.log_machine.specs.Machine.{undo_of}
use Rattle.heap_model.specs.Core.{Core, Ground, all_records, ground, next_number, full_log, event_records, own_records, need, reserved, reserved_after, room_refusal, undo_behind, used, words_refusal, log_refusal, core_refusal}
use Rattle.heap_model.proofs.Step.Goes.{need_nothing}
use Rattle.heap_model.proofs.Step.Room.{full_log-none}
use Rattle.core_laws.proofs.Sessions.Actives.{called_reserved}
use Rattle.core_laws.proofs.Step.Forms.{has_barrier, is_write, is_new, call_no_page, no_barrier, quiet_records}
use Rattle.core_laws.proofs.Step.Events.{call_account, kept_still, unfailed_refusal}
use Rattle.core_laws.specs.Valid.{IsValid}

-- a second reason where the first is none
pub second_same : (o p q : Option Refusal) → (o ≡ None → p ≡ q) → first_of_two o p ≡ first_of_two o q
second_same None p q h = h refl
second_same (Some why) p q h = refl

-- the first alone, where there is no second
pub first_none : (o : Option Refusal) → first_of_two o None ≡ o
first_none None = refl
first_none (Some why) = refl

-- the first of three reasons
pub first_assoc : (o p q : Option Refusal) → first_of_two (first_of_two o p) q ≡ first_of_two o (first_of_two p q)
first_assoc None p q = refl
first_assoc (Some why) p q = refl

-- a reason where a test holds, or another
pub first_if : (b : Bool) (why : Refusal) (o : Option Refusal) → cond b (Some why) o ≡ first_of_two (cond b (Some why) None) o
first_if true why o = refl
first_if false why o = refl

-- a log is full as another is that has the same room, and the same used, needed and kept
pub full_same : (room room' used used' more more' kept kept' : ℕ) → room ≡ room' → used ≡ used' → more ≡ more' → kept ≡ kept' → full_log room used more kept ≡ full_log room' used' more' kept'
full_same room room' used used' more more' kept kept' a b c d =
    ap (λ (n : ℕ). full_log n used more kept) a ∙ ap (λ (n : ℕ). full_log room' n more kept) b ∙ ap (λ (n : ℕ). full_log room' used' n kept) c ∙ ap (λ (n : ℕ). full_log room' used' more' n) d

-- a call that makes no object needs no words
words_quiet : (g : Ground) (g0 : Graph) (a : Account) (o : Option Transaction) (event : Event) → IsCall event → is_new event ≡ false → room_refusal g g0 a o event ≡ None
words_quiet g g0 a None event is old = refl
words_quiet g g0 a (Some t) (New s h len) is old = cc
words_quiet g g0 a (Some t) (Seal s) is old = absurd is
words_quiet g g0 a (Some t) event is old = refl

-- as much is kept for the ends of transactions once the history has an event
abbrev pub KeepsReserve : Core → Event → Type 0
KeepsReserve c event =
    let entry : Entry = record { event = event; reply = granted (next_number c) c.g0 (account c.history) event } in
    (undo : ℕ → List UndoEntry) → reserved undo (account_after (account c.history) entry) ≡ reserved undo (account c.history)

-- so it is by a call
pub call_keeps : (c : Core) (event : Event) → IsCall event → KeepsReserve c event
call_keeps c event call undo = ap (reserved undo) (call_account (next_number c) c.g0 (account c.history) event call) ∙ called_reserved undo (account c.history) (session_of event) event

-- the log has room for an event that appends nothing
pub still_room : (c : Core) (event : Event) → IsValid c → KeepsReserve c event → event_records c event ≡ [] → log_refusal c event ≡ None
still_room c event valid keeps none =
    let a = account c.history in
    let more = event_records c event in
    let kept : reserved_after c event ≡ reserved (undo_of valid.behind) a =
    keeps (undo_behind c (all_records c ++ more)) ∙ ap (λ (rs : List Record). reserved (undo_behind c (all_records c ++ rs)) a) none ∙ kept_still c a valid in
    let nothing : need c.pending more ≡ 0 = ap (need c.pending) none ∙ need_nothing c.pending in
    let room = valid.room in
    full_log-none c.room (used c) (need c.pending more) (reserved_after c event) (omega arith)

module _ (c : Core) (event : Event) (valid : IsValid c) (call : IsCall event) where
  -- what the history says
  abbrev a : Account
  a = account c.history

  -- the transaction of the event's session
  abbrev own : Option Transaction
  own = a.active (session_of event)

  -- for what its transaction sees, or for what others hold
  abbrev asked : Option Refusal
  asked = first_of_two (call_refusal c.g0 a own event) (call_conflict c.g0 a own event)

  -- a call of a session is refused so, for its words or for the log
  pub call_refused : core_refusal c event ≡ first_of_two asked (first_of_two (room_refusal (ground c) c.g0 a own event) (log_refusal c event))
  call_refused =
      unfailed_refusal c event valid.unfailed
      ∙ ap (λ (o : Option Refusal). first_of_two (first_of_two o (call_conflict c.g0 a own event)) (first_of_two (words_refusal c event) (log_refusal c event)))
      (event_refusal-call (next_number c) c.g0 a event call)
      ∙ ap (λ (o : Option Refusal). first_of_two asked (first_of_two (first_of_two o (room_refusal (ground c) c.g0 a own event)) (log_refusal c event))) (call_no_page c.pages event call)

  -- one that makes no object is refused so, or for the log
  pub old_refused : is_new event ≡ false → core_refusal c event ≡ first_of_two asked (log_refusal c event)
  old_refused old = call_refused ∙ ap (λ (o : Option Refusal). first_of_two asked (first_of_two o (log_refusal c event))) (words_quiet (ground c) c.g0 a own event call old)

  quiet_room : has_barrier event ≡ false → is_write event ≡ false → log_refusal c event ≡ None
  quiet_room still quiet = still_room c event valid (call_keeps c event call) (ap (λ (rs : List Record). rs ++ own_records c event) (no_barrier c event still) ∙ quiet_records c event call quiet)

  -- and one that has no barrier, and writes nothing either, is refused so
  pub quiet_refused : has_barrier event ≡ false → is_write event ≡ false → is_new event ≡ false → core_refusal c event ≡ asked
  quiet_refused still quiet old = old_refused old ∙ ap (first_of_two asked) (quiet_room still quiet) ∙ first_none asked

  -- one that makes an object is refused so, or for its words
  pub new_refused : has_barrier event ≡ false → is_write event ≡ false → core_refusal c event ≡ first_of_two asked (room_refusal (ground c) c.g0 a own event)
  new_refused still quiet =
      call_refused
      ∙ ap (λ (o : Option Refusal). first_of_two asked (first_of_two (room_refusal (ground c) c.g0 a own event) o)) (quiet_room still quiet)
      ∙ ap (first_of_two asked) (first_none (room_refusal (ground c) c.g0 a own event))
