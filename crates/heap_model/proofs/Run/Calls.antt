-- What each step of a core keeps: what it was opened with, its history with one more entry, and a failure.
use Rattle.std.proofs.Common.{◌≡◌, ◌≢◌, ◌<◌, arith, inl, inr, ℕ, List, [], ◌∷◌, ◌++◌, Option, Some, None, refl, sym, ap, ◌∙◌, subst}
use Rattle.graph_model.specs.declared.event.Event.{Event}
use Rattle.graph_model.specs.declared.event.Event.TheVariants.{Force, Flip, Scan, Flush}
use Rattle.graph_model.specs.declared.reply.Entry.{Entry}
use Rattle.graph_model.specs.declared.reply.Refusal.{Refusal}
use Rattle.graph_model.specs.declared.reply.Refusal.TheVariants.{Failed}
use Rattle.graph_model.specs.declared.reply.Reply.{Reply}
use Rattle.graph_model.specs.declared.reply.Reply.TheVariants.{Refused}
use Rattle.graph_model.specs.History.{account}
use Rattle.graph_model.specs.Kinds.{Saves, kind_of}
use Rattle.graph_model.specs.Plain.{model_refusal, first_of_two, refusal_of, reply_of}
use Rattle.log_records.specs.declared.Record.{Record}
use Rattle.heap_model.specs.Core.{Core, next_number, words_refusal, log_refusal, core_refusal, granted_by, answer, with_entry, Transfer, Lands, Stores, batch_of, landed, made, transfers, noted, moved, own_records, barrier_records, done, after_refusal, after, calls_of, calls_if, calls, IsStep, IsRun}
use Rattle.heap_model.proofs.Run.Opening.{SameOpening}
use Rattle.heap_model.proofs.Step.Moved.{moved_keeps}
use Rattle.heap_model.proofs.Step.Transfers.{all_made, done_history}

-- a core that has failed refuses everything
pub failed_refusal : (c : Core) (event : Event) (entry : ℕ) → (account c.history).failed ≡ Some entry → core_refusal c event ≡ Some (Failed entry)
failed_refusal c event entry e = ap (λ (o : Option ℕ). refusal_of o (first_of_two (model_refusal (next_number c) c.g0 (account c.history) event) (first_of_two (words_refusal c event) (log_refusal c event)))) e

-- and all that changes is its history
pub failed_after : (c : Core) (event : Event) (entry : ℕ) → (account c.history).failed ≡ Some entry → after c event ≡ with_entry c event (Refused (Failed entry))
failed_after c event entry e = ap (λ (o : Option Refusal). with_entry (after_refusal o c event) event (reply_of o (granted_by c event))) (failed_refusal c event entry e)

calls_made : (why : Option Refusal) (c : Core) (event : Event) → 0 < calls_if why c event → (transfers c event ≢ []) × (why ≡ None)
calls_made (Some why) c event some = absurd (omega arith)
calls_made None c event some = (λ none. let few : calls_of (noted c event) (transfers c event) ≡ 0 = ap (calls_of (noted c event)) none in absurd (omega (arith, some, few)), refl)

-- what calls the disk has transfers, and is not refused
pub calls-moves : (c : Core) (event : Event) → 0 < calls c event → (transfers c event ≢ []) × (core_refusal c event ≡ None)
calls-moves c event some = calls_made (core_refusal c event) c event some

saves : (c : Core) (event : Event) → transfers c event ≢ [] → kind_of event ≡ Saves
saves c Force some = refl
saves c (Flush p) some = refl
saves c event some = absurd (some refl)

-- it is one that saves what the heap has
pub calls-saves : (c : Core) (event : Event) → 0 < calls c event → (kind_of event ≡ Saves) × (core_refusal c event ≡ None)
calls-saves c event some = let moves = calls-moves c event some in (saves c event moves.0, moves.1)

-- an event that is not refused makes the calls of its transfers
pub calls-granted : (c : Core) (event : Event) → core_refusal c event ≡ None → calls c event ≡ calls_of (noted c event) (transfers c event)
calls-granted c event granted = ap (λ (o : Option Refusal). calls_if o c event) granted

unfailed_if : (failed : Option ℕ) (o : Option Refusal) → refusal_of failed o ≡ None → failed ≡ None
unfailed_if None o e = refl
unfailed_if (Some entry) o e = cc

-- a core that calls the disk has not failed
pub calls-unfailed : (c : Core) (event : Event) → 0 < calls c event → (account c.history).failed ≡ None
calls-unfailed c event some =
    let a = account c.history in
    unfailed_if a.failed (first_of_two (model_refusal (next_number c) c.g0 a event) (first_of_two (words_refusal c event) (log_refusal c event))) (calls-moves c event some).1

refusal_history : (o : Option Refusal) (c : Core) (event : Event) → (after_refusal o c event).history ≡ c.history
refusal_history None c event = done_history c event
refusal_history (Some why) c event = refl

-- the history has one more entry
pub after_history : (c : Core) (event : Event) → (after c event).history ≡ c.history ++ record { event = event; reply = answer c event } ∷ []
after_history c event = ap (λ (l : List Entry). l ++ record { event = event; reply = answer c event } ∷ []) (refusal_history (core_refusal c event) c event)

-- so it has after each step
pub step_history : (c d : Core) (event : Event) (reply : Reply) → IsStep c event reply d → d.history ≡ c.history ++ record { event = event; reply = reply } ∷ []
step_history c d event reply (inl whole) =
    ap (λ (x : Core). x.history) whole.1 ∙ after_history c event ∙ ap (λ (r : Reply). c.history ++ record { event = event; reply = r } ∷ []) (sym whole.0)
step_history c d event reply (inr cut) = ap (λ (x : Core). x.history) cut.1

-- What each step keeps.

same_on : (c mid d : Core) → SameOpening c mid → SameOpening mid d → SameOpening c d
same_on c mid d one more = record {
  pages = more.pages ∙ one.pages;
  room = more.room ∙ one.room;
  first_number = more.first_number ∙ one.first_number;
  first = more.first ∙ one.first;
  g0 = more.g0 ∙ one.g0;
  born = more.born ∙ one.born;
  before = more.before ∙ one.before;
}

same_landed : (c : Core) (waits : List (List Record)) → SameOpening c (landed c waits)
same_landed c [] = record { pages = refl; room = refl; first_number = refl; first = refl; g0 = refl; born = refl; before = refl }
same_landed c (next ∷ waits) = record { pages = refl; room = refl; first_number = refl; first = refl; g0 = refl; born = refl; before = refl }

same_made : (c : Core) (t : Transfer) → SameOpening c (made c t)
same_made c Lands = same_landed c (batch_of c.pending)
same_made c (Stores p lsn) = record { pages = refl; room = refl; first_number = refl; first = refl; g0 = refl; born = refl; before = refl }

same_moved : (c : Core) (rs : List Record) → SameOpening c (moved c rs)
same_moved c rs = moved_keeps (SameOpening c) c rs (record { pages = refl; room = refl; first_number = refl; first = refl; g0 = refl; born = refl; before = refl })

same_noted : (c : Core) (event : Event) → SameOpening c (noted c event)
same_noted c Force = record { pages = refl; room = refl; first_number = refl; first = refl; g0 = refl; born = refl; before = refl }
same_noted c (Flush p) = record { pages = refl; room = refl; first_number = refl; first = refl; g0 = refl; born = refl; before = refl }
same_noted c Flip = same_moved c (own_records c Flip)
same_noted c Scan = same_moved c (own_records c Scan)
same_noted c event = let b = same_moved c (barrier_records c event) in record { pages = b.pages; room = b.room; first_number = b.first_number; first = b.first; g0 = b.g0; born = b.born; before = b.before }

-- an event that is granted keeps it
pub same_done : (c : Core) (event : Event) → SameOpening c (done c event)
same_done c event = all_made (SameOpening c) (λ d t same. same_on c d (made d t) same (same_made d t)) (noted c event) (transfers c event) (same_noted c event)

same_refusal : (o : Option Refusal) (c : Core) (event : Event) → SameOpening c (after_refusal o c event)
same_refusal None c event = same_done c event
same_refusal (Some why) c event = record { pages = refl; room = refl; first_number = refl; first = refl; g0 = refl; born = refl; before = refl }

same_entry : (c d : Core) (event : Event) (reply : Reply) → SameOpening c d → SameOpening c (with_entry d event reply)
same_entry c d event reply same = record { pages = same.pages; room = same.room; first_number = same.first_number; first = same.first; g0 = same.g0; born = same.born; before = same.before }

-- a step keeps what the core was opened with
pub same_step : (c d : Core) (event : Event) (reply : Reply) → IsStep c event reply d → SameOpening c d
same_step c d event reply (inl whole) =
    subst (SameOpening c) (sym whole.1) (same_entry c (after_refusal (core_refusal c event) c event) event (answer c event) (same_refusal (core_refusal c event) c event))
same_step c d event reply (inr cut) =
    subst (SameOpening c) (sym cut.1) (same_entry c c event reply (record { pages = refl; room = refl; first_number = refl; first = refl; g0 = refl; born = refl; before = refl }))

-- so do steps, one after another
pub same_run : (c d : Core) (events : List Event) → IsRun c events d → SameOpening c d
same_run c d [] run = subst (SameOpening c) (sym run) (record { pages = refl; room = refl; first_number = refl; first = refl; g0 = refl; born = refl; before = refl })
same_run c d (event ∷ events) run = same_on c run.1 d (same_step c run.1 event run.0 run.2) (same_run run.1 d events run.3)
