-- What a step of a core that is reached does to the state after all records: the event's records follow, or nothing changes.
use Rattle.std.proofs.Common.{◌≡◌, inl, inr, ℕ, Option, Some, None, refl, sym, ap, ◌∙◌}
use Rattle.std.proofs.lemmas.Option.{same_Some}
use Rattle.graph_model.specs.declared.event.Event.{Event}
use Rattle.graph_model.specs.declared.reply.Refusal.{Refusal}
use Rattle.graph_model.specs.declared.reply.Refusal.TheVariants.{DiskFault, Stopped}
use Rattle.graph_model.specs.declared.reply.Reply.{Reply}
use Rattle.graph_model.specs.declared.reply.Reply.TheVariants.{Refused}
use Rattle.graph_model.specs.Plain.{reply_of}
use Rattle.log_machine.specs.Machine.{State, after_all, start}
use Rattle.log_machine.proofs.MachineLaws.{after_all-append2}
use Rattle.heap_model.specs.Core.{Core, IsStep, after_refusal, all_records, core_refusal, done, event_records, granted_by, log_start, with_entry}
use Rattle.heap_model.proofs.Run.Calls.{same_step}
use Rattle.heap_model.proofs.Run.Opening.{SameOpening}
use Rattle.limit_laws.proofs.Events.Appended.{all_done}

-- What a step does: the event is granted and its records follow, or nothing but the history changes.
pub data IsDone (c d : Core) (event : Event) (reply : Reply) (s n : State) : Type 0 where
  granted : core_refusal c event ≡ None → reply ≡ granted_by c event → d ≡ with_entry (done c event) event reply → after_all s (event_records c event) ≡ Some n → IsDone c d event reply s n
  refused : (why : Refusal) → reply ≡ Refused why → d ≡ with_entry c event reply → n ≡ s → IsDone c d event reply s n

still : (c d : Core) (event : Event) (reply : Reply) (s n : State) → d ≡ with_entry c event reply → after_all (log_start c) (all_records c) ≡ Some s → after_all (log_start d) (all_records d) ≡ Some n → n ≡ s
still c d event reply s n is before now = same_Some n s (sym now ∙ ap (λ (x : Core). after_all (log_start x) (all_records x)) is ∙ before)

-- a log begins where it did
pub same_start : (c d : Core) → SameOpening c d → log_start d ≡ log_start c
same_start c d same = ap (λ (pages : ℕ). start pages d.first_number) same.pages ∙ ap (start c.pages) same.first_number

follows : (c d : Core) (event : Event) (reply : Reply) (s n : State) → SameOpening c d → d ≡ with_entry (done c event) event reply → after_all (log_start c) (all_records c) ≡ Some s
    → after_all (log_start d) (all_records d) ≡ Some n → after_all s (event_records c event) ≡ Some n
follows c d event reply s n same is before now =
    sym (after_all-append2 (log_start c) s (all_records c) (event_records c event) before)
    ∙ ap (after_all (log_start c)) (sym (all_done c event))
    ∙ ap (λ (x : Core). after_all (log_start c) (all_records x)) (sym is)
    ∙ ap (λ (x : State). after_all x (all_records d)) (sym (same_start c d same))
    ∙ now

whole : (c d : Core) (event : Event) (reply : Reply) (s n : State) (o : Option Refusal) → SameOpening c d → core_refusal c event ≡ o → reply ≡ reply_of o (granted_by c event) → d ≡ with_entry (after_refusal o c event) event reply
    → after_all (log_start c) (all_records c) ≡ Some s → after_all (log_start d) (all_records d) ≡ Some n → IsDone c d event reply s n
whole c d event reply s n None same known says is before now = granted known says is (follows c d event reply s n same is before now)
whole c d event reply s n (Some why) same known says is before now = refused why says is (still c d event reply s n is before now)

-- a step is one or the other
pub step_done : (c d : Core) (event : Event) (reply : Reply) (s n : State) → IsStep c event reply d → after_all (log_start c) (all_records c) ≡ Some s → after_all (log_start d) (all_records d) ≡ Some n
    → IsDone c d event reply s n
step_done c d event reply s n (inl step) before now =
    whole c d event reply s n (core_refusal c event) (same_step c d event reply (inl step)) refl step.0 (step.1 ∙ ap (λ (r : Reply). with_entry (after_refusal (core_refusal c event) c event) event r) (sym step.0)) before now
step_done c d event reply s n (inr step) before now = elim step.0.told [
  | inl is ↦ refused DiskFault is step.1 (still c d event reply s n step.1 before now)
  | inr is ↦ refused Stopped is step.1 (still c d event reply s n step.1 before now)
]
