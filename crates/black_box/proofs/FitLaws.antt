-- Each reply in the history of a run fits its event, and each transaction has the replies so far of a serial run.
use Rattle.std.specs.Prelude.{if◌then◌else◌}
use Rattle.std.proofs.Common.{◌≡◌, ◌⊎◌, inl, inr, ℕ, ◌==◌, Bool, true, false, List, [], ◌∷◌, ◌++◌, Option, None, Some, is_some, refl, sym, ◌∙◌, subst}
use Rattle.graph_model.specs.declared.event.Event.{Event}
use Rattle.graph_model.specs.declared.event.Event.TheVariants.{Begin, Seal, Abort, Force, Flip, Scan, Flush}
use Rattle.graph_model.specs.declared.reply.Entry.{Entry}
use Rattle.graph_model.specs.declared.reply.Refusal.{Refusal}
use Rattle.graph_model.specs.declared.reply.Refusal.TheVariants.{AlreadyActive, NumbersSpent, DiskFault, Stopped}
use Rattle.graph_model.specs.declared.reply.Reply.{Reply}
use Rattle.graph_model.specs.declared.reply.Reply.TheVariants.{Flushed, Clean, Refused}
use Rattle.graph_model.specs.Graph.{Graph}
use Rattle.graph_model.specs.History.{Account, account, session_of}
use Rattle.graph_model.specs.Plain.{event_refusal, no_number, reply_of}
use Rattle.graph_model.specs.Replies.{IsCallReply}
use Rattle.graph_model.specs.Transaction.{IsCall}
use Rattle.graph_model.proofs.Refusals.Plain.{call_reply-IsCallReply, event_refusal-call, granted-call}
use Rattle.commit_order.specs.SerialOrder.{EachEntry, HasPlainReplies, IsTwoPhase}
use Rattle.commit_order.proofs.OrderLaws.{two_phase_ordered}
use Rattle.commit_order.proofs.PlaceLaws.{EachEntry-append, plain_before, two_phase_before}
use Rattle.log_records.specs.declared.Record.{Record}
use Rattle.log_machine.specs.Machine.{State}
use Rattle.heap_model.specs.Collecting.{flip_reply, next_page, scan_reply, scan_reply_in}
use Rattle.heap_model.specs.Core.{Core, ground, next_number, own_records, core_refusal, granted_by, is_dirty, IsStep, IsRun}
use Rattle.heap_model.proofs.Run.Calls.{step_history}
use Rattle.core_laws.proofs.Step.Forms.{call_plain, granted_plain, has_transaction, not_active, two_tests}
use Rattle.core_laws.proofs.Step.TwoPhase.{model_granted}
use Rattle.black_box.specs.Told.{Fits, Grants, HaveReplies, IsActive}

flip_grants : (a : Account) (records : List Record) → Grants a Flip (flip_reply records)
flip_grants a [] = inl refl
flip_grants a (r ∷ rs) = inr (_, _, refl)

scan_grants : (a : Account) (o : Option State) (records : List Record) → Grants a Scan (scan_reply o records)
scan_grants a None records = inl refl
scan_grants a (Some s) records = by s.collection (next_page s.collection)
  where
    by : (run : _) (page : Option ℕ) → Grants a Scan (scan_reply_in s records run page)
    by None page = inl refl
    by (Some k) None = inr (inl (s.used, refl))
    by (Some k) (Some page) = inr (inr (page, _, _, refl))

flush_grants : (a : Account) (p : ℕ) (dirty : Bool) → Grants a (Flush p) (if dirty then Flushed p else Clean p)
flush_grants a p true = inl refl
flush_grants a p false = inr refl

-- a call that the model does not refuse is one of an active transaction
call_grants : (c : Core) (event : Event) → IsCall event → event_refusal (next_number c) c.g0 (account c.history) event ≡ None → IsActive (account c.history) (session_of event) × IsCallReply (granted_by c event)
call_grants c event is asks =
    let a = account c.history in
    let own = a.active (session_of event) in
    let reply = granted_plain c event (call_plain event is) ∙ granted-call (next_number c) c.g0 a event is in (
      has_transaction c.g0 a own event (sym (event_refusal-call (next_number c) c.g0 a event is) ∙ asks),
      subst IsCallReply (sym reply) (call_reply-IsCallReply c.g0 a own event),
    )

-- an event that the model does not refuse is granted by what it is answered
event_grants : (c : Core) (event : Event) → event_refusal (next_number c) c.g0 (account c.history) event ≡ None → Grants (account c.history) event (granted_by c event)
event_grants c (Begin s) asks =
    let a = account c.history in
    (not_active (a.active s) (two_tests (is_some (a.active s)) (next_number c == no_number) AlreadyActive NumbersSpent asks).0, next_number c, refl)
event_grants c (Seal s) asks = let a = account c.history in (has_transaction c.g0 a (a.active s) (Seal s) asks, refl)
event_grants c (Abort s) asks = let a = account c.history in (has_transaction c.g0 a (a.active s) (Abort s) asks, refl)
event_grants c Force asks = refl
event_grants c Flip asks = flip_grants (account c.history) (own_records c Flip)
event_grants c Scan asks = scan_grants (account c.history) (ground c).state (own_records c Scan)
event_grants c (Flush p) asks = flush_grants (account c.history) p (is_dirty c p)
event_grants c event asks = call_grants c event tt asks

refused_or : (a : Account) (event : Event) (o : Option Refusal) (reply : Reply) → (o ≡ None → Grants a event reply) → ((why : Refusal) × (reply_of o reply ≡ Refused why)) ⊎ Grants a event (reply_of o reply)
refused_or a event None reply grants = inr (grants refl)
refused_or a event (Some why) reply grants = inl (why, refl)

-- the reply of a step fits its event
step_fits : (c d : Core) (event : Event) (reply : Reply) → IsStep c event reply d → Fits c.history (record { event = event; reply = reply })
step_fits c d event reply (inl whole) =
    subst (λ (r : Reply). Fits c.history (record { event = event; reply = r })) (sym whole.0)
    (refused_or (account c.history) event (core_refusal c event) (granted_by c event) (λ granted. event_grants c event (model_granted c event granted).0))
step_fits c d event reply (inr cut) = inl (elim cut.0.told [ inl is ↦ (DiskFault, is) | inr is ↦ (Stopped, is) ])

-- so do all replies of a run
run_fits_on : (c d : Core) (events : List Event) → IsRun c events d → EachEntry Fits c.history → EachEntry Fits d.history
run_fits_on c d [] run fits = subst (λ (x : Core). EachEntry Fits x.history) (sym run) fits
run_fits_on c d (event ∷ events) run fits =
    let entry : Entry = record { event = event; reply = run.0 } in
    run_fits_on run.1 d events run.3 (subst (EachEntry Fits) (sym (step_history c run.1 event run.0 run.2)) (EachEntry-append Fits c.history entry fits (step_fits c run.1 event run.0 run.2)))

none_fit : EachEntry Fits []
none_fit [] e after is = cc
none_fit (b ∷ before) e after is = cc

pub run_fits : (c d : Core) (events : List Event) → c.history ≡ [] → IsRun c events d → EachEntry Fits d.history
run_fits c d events fresh run = run_fits_on c d events run (subst (EachEntry Fits) (sym fresh) none_fit)

-- at each time of a history under two-phase locking its transactions have the replies so far of a serial run
pub replies_so_far : (g0 : Graph) (history first rest : List Entry) → HasPlainReplies g0 history → IsTwoPhase g0 history → history ≡ first ++ rest → HaveReplies g0 first
replies_so_far g0 history first rest plain two_phase is = (two_phase_ordered g0 first (plain_before g0 history first rest is plain) (two_phase_before g0 history first rest is two_phase)).active
