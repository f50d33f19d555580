-- What a call that is not refused is answered.
use Rattle.std.proofs.Common.{◌≡◌, ℕ, ◌+◌, Option, None, Some, sym, ap, ◌∙◌}
use Rattle.graph_model.specs.Graph.{Graph}
use Rattle.graph_model.specs.declared.event.Event.{Event}
use Rattle.graph_model.specs.declared.reply.Reply.{Reply}
use Rattle.graph_model.specs.History.{Account, session_of}
use Rattle.graph_model.specs.Locking.{busy_holder, lock_of}
use Rattle.graph_model.specs.Plain.{busy_with, call_conflict, call_refusal, call_reply, conflict_refusal, event_refusal, first_of_two, granted, model_refusal, plain_reply, refusal, refusal_of, reply_of, view, view_refusal}
use Rattle.graph_model.specs.Transaction.{IsCall, Transaction, call}
use Rattle.graph_model.proofs.Refusals.Plain.{event_refusal-call, granted-call}

pub call_answered : (reply : Reply) (g0 : Graph) (a : Account) (event : Event) (t : Transaction) → IsCall event → a.failed ≡ None → a.active (session_of event) ≡ Some t → view_refusal (view g0 a t) event ≡ None
    → busy_holder g0 a t.number (lock_of (view g0 a t).registers event) ≡ None → reply ≡ (call (view g0 a t) t.number event).reply → reply ≡ plain_reply 1 g0 a event
call_answered reply g0 a event t calls unfailed held fine free is =
    let n = 1 + a.begun in
    let asks : event_refusal n g0 a event ≡ None = event_refusal-call n g0 a event calls ∙ ap (λ o. call_refusal g0 a o event) held ∙ fine in
    let goes : conflict_refusal g0 a event ≡ None = ap (λ o. call_conflict g0 a o event) held ∙ ap busy_with free in
    let none : refusal n g0 a event ≡ None = ap (λ f. refusal_of f (model_refusal n g0 a event)) unfailed ∙ ap (λ o. first_of_two o (conflict_refusal g0 a event)) asks ∙ goes in
    let answered : reply_of (refusal n g0 a event) (granted n g0 a event) ≡ (call (view g0 a t) t.number event).reply =
    ap (λ o. reply_of o (granted n g0 a event)) none ∙ granted-call n g0 a event calls ∙ ap (λ o. call_reply g0 a o event) held in
    is ∙ sym answered
