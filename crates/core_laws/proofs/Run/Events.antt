-- What is reached by the steps of sessions side by side.
use Rattle.std.proofs.Common.{◌≡◌, arith, inl, inr, ℕ, ◌+◌, List, [], ◌∷◌, ◌++◌, Option, Some, None, refl, sym, ap, ◌∙◌, subst}
use Rattle.std.specs.List.{AllByRecursion}
use Rattle.graph_model.specs.declared.event.Event.{Event}
use Rattle.graph_model.specs.declared.event.Event.TheVariants.{Seal, Force}
use Rattle.graph_model.specs.declared.reply.Refusal.{Refusal}
use Rattle.graph_model.specs.declared.reply.Refusal.TheVariants.{Failed, DiskFault, Stopped}
use Rattle.graph_model.specs.declared.reply.Reply.{Reply}
use Rattle.graph_model.specs.declared.reply.Reply.TheVariants.{Refused}
use Rattle.graph_model.specs.Graph.{Graph}
use Rattle.graph_model.specs.History.{Account, AreInSessions, account, account_after, first_failure, IsOfSession}
use Rattle.graph_model.proofs.Runs.History.{account-append}
use Rattle.graph_model.specs.Plain.{call_conflict, first_of_two}
use Rattle.graph_model.proofs.Refusals.Plain.{account_after-refused}
use Rattle.graph_model.specs.Transaction.{Transaction}
use Rattle.heap_model.specs.Core.{Core, Ground, ground, room_refusal, words_refusal, log_refusal, core_refusal, with_entry, after, force_calls, calls_if, calls, IsCutShort, IsStep, IsRun}
use Rattle.heap_model.proofs.Run.Calls.{calls-unfailed, failed_after}
use Rattle.core_laws.proofs.Step.Goes.{agrees_history}
use Rattle.core_laws.proofs.Step.Sound.{agrees_certain, agrees_entry, sound_agrees}
use Rattle.core_laws.proofs.Step.Events.{unfailed_refusal, log_force, valid_after}
use Rattle.core_laws.proofs.Step.TwoPhase.{step_locked}
use Rattle.core_laws.specs.Valid.{Agrees, IsValid, HasFailed, IsSound, IsReached}

-- The disk stops or fails.

failed_history : (a : Account) (c : Core) (event : Event) (reply : Reply) → HasFailed a c → HasFailed a (with_entry c event reply)
failed_history a c event reply h = record {
  entry = h.entry;
  failed = h.failed;
  before = agrees_history (record a { failed = None; in_doubt = None }) c (c.history ++ record { event = event; reply = reply } ∷ []) h.before;
}

failed_entry : (c : Core) (event : Event) (reply : Reply) → HasFailed (account_after (account c.history) (record { event = event; reply = reply })) c → HasFailed (account (with_entry c event reply).history) (with_entry c event reply)
failed_entry c event reply h =
    let P : Account → Type 0 = λ a. HasFailed a (with_entry c event reply) in
    subst P (sym (account-append c.history (record { event = event; reply = reply }))) (failed_history _ c event reply h)

still_failed : (a : Account) (c : Core) (event : Event) (entry : ℕ) → HasFailed a c → HasFailed (account_after a (record { event = event; reply = Refused (Failed entry) })) c
still_failed a c event entry h =
    let P : Account → Type 0 = λ b. HasFailed b c in
    subst P (sym (account_after-refused a event (Failed entry) tt)) (record {
      entry = h.entry;
      failed = h.failed;
      before = agrees_entry (record a { failed = None; in_doubt = None }) c (a.entries + 1) h.before;
    })

-- a core that has failed stays so
pub failed_stays : (c : Core) (event : Event) → HasFailed (account c.history) c → HasFailed (account (after c event).history) (after c event)
failed_stays c event h =
    let P : Core → Type 0 = λ d. HasFailed (account d.history) d in
    subst P (sym (failed_after c event h.entry h.failed)) (failed_entry c event (Refused (Failed h.entry)) (still_failed (account c.history) c event h.entry h))

told_failure : (a : Account) (c : Core) (n : ℕ) (doubt : Option Transaction) → Agrees a c → HasFailed (record a { in_doubt = doubt; failed = first_failure a.failed n; entries = n }) c
told_failure a c n doubt h = record {
  entry = n;
  failed = ap (λ (o : Option ℕ). first_failure o n) h.unfailed;
  before = agrees_certain (record a { failed = None; entries = n }) c (agrees_entry a c n h);
}

-- a fault and a stop in an event: a seal is in doubt then
cut_agrees : (a : Account) (c : Core) (event : Event) → Agrees a c
    → HasFailed (account_after a (record { event = event; reply = Refused DiskFault })) c × HasFailed (account_after a (record { event = event; reply = Refused Stopped })) c
cut_agrees a c (Seal s) h = (told_failure a c (a.entries + 1) (a.active s) h, told_failure a c (a.entries + 1) (a.active s) h)
cut_agrees a c event h = (told_failure a c (a.entries + 1) a.in_doubt h, told_failure a c (a.entries + 1) a.in_doubt h)

-- an event that is cut short leaves all but the history
pub cut_fails : (c : Core) (event : Event) (reply : Reply) → IsValid c → IsCutShort c event reply
    → HasFailed (account (with_entry c event reply).history) (with_entry c event reply)
cut_fails c event reply valid cut =
    let fails = cut_agrees (account c.history) c event valid in
    let P : Reply → Type 0 = λ r. HasFailed (account_after (account c.history) (record { event = event; reply = r })) c in
    failed_entry c event reply (elim cut.told [
      | inl is ↦ subst P (sym is) fails.0
      | inr is ↦ subst P (sym is) fails.1
    ])

-- Steps.

-- A step of a session leaves a core sound.
pub sound_step : (c d : Core) (event : Event) (reply : Reply) → IsReached c → IsOfSession event → IsStep c event reply d → IsSound d
sound_step c d event reply reached session step = by_soundness reached.sound step where
  by_soundness : IsSound c → IsStep c event reply d → IsSound d
  by_soundness (inl valid) (inl whole) = subst IsSound (sym whole.1) (inl (valid_after c event valid reached.locked session))
  by_soundness (inl valid) (inr cut) = subst IsSound (sym cut.1) (inr (cut_fails c event reply valid cut.0))
  by_soundness (inr failed) (inl whole) = subst IsSound (sym whole.1) (inr (failed_stays c event failed))
  by_soundness (inr failed) (inr cut) = let never = calls-unfailed c event cut.0.some in let is = failed.failed in cc

-- a sound core has transactions of sessions alone
pub sound_sessions : (c : Core) → IsSound c → AreInSessions (account c.history)
sound_sessions c sound = (sound_agrees c sound).in_sessions

-- A step of a session reaches a core.
pub step_reached : (c d : Core) (event : Event) (reply : Reply) → IsReached c → IsOfSession event → IsStep c event reply d → IsReached d
step_reached c d event reply h session step = record {
  sound = sound_step c d event reply h session step;
  locked = step_locked c d event reply (sound_sessions c h.sound) h.locked step;
}

-- So do steps, one after another.
pub run_reached : (c d : Core) (events : List Event) → IsReached c → AllByRecursion IsOfSession events → IsRun c events d → IsReached d
run_reached c d [] h sessions run = subst IsReached (sym run) h
run_reached c d (event ∷ events) h sessions run = run_reached run.1 d events (step_reached c run.1 event run.0 h sessions.0 run.2) sessions.1 run.3

-- A force.

force_made : (c : Core) (why : Option Refusal) → why ≡ None → calls_if why c Force ≡ force_calls c.pending
force_made c why none = ap (λ o. calls_if o c Force) none ∙ omega arith

force_room : (g : Ground) (g0 : Graph) (a : Account) (o : Option Transaction) → room_refusal g g0 a o Force ≡ None
force_room g g0 a None = refl
force_room g g0 a (Some t) = refl

force_free : (g0 : Graph) (a : Account) (o : Option Transaction) → call_conflict g0 a o Force ≡ None
force_free g0 a None = refl
force_free g0 a (Some t) = refl

-- a force of a valid core is not refused, and calls the disk where a record is pending
pub force_granted : (c : Core) → IsValid c → core_refusal c Force ≡ None
force_granted c valid =
    let a = account c.history in
    unfailed_refusal c Force valid.unfailed
    ∙ ap (λ (o : Option Refusal). first_of_two o (first_of_two (words_refusal c Force) (log_refusal c Force))) (force_free c.g0 a (a.active 0))
    ∙ ap (λ (o : Option Refusal). first_of_two o (log_refusal c Force)) (force_room (ground c) c.g0 a (a.active 0))
    ∙ log_force c valid

pub calls-forced : (c : Core) → IsValid c → calls c Force ≡ force_calls c.pending
calls-forced c valid = force_made c (core_refusal c Force) (force_granted c valid)
