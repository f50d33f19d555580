-- A play continues line by line.
use Rattle.std.proofs.Common.{◌≡◌, ℕ, ◌+◌, ◌<◌, ◌≤◌, Bool, List, [], ◌∷◌, ◌++◌, length, get_or, take, drop, Result, Ok, sym, ap, ◌∙◌, subst, append_assoc, take-append-drop}
use Rattle.std.proofs.lemmas.List.{append-nil, take_more, drop_more}
use Rattle.std.proofs.lemmas.Grind.{flat_map-append}
use Rattle.std.specs.List.{AllByRecursion}
use Rattle.disk_model.specs.declared.disk.Disk.{Ghosts}
use Rattle.graph_model.specs.declared.event.Event.{Event}
use Rattle.image_plan.specs.declared.superblock.Super.{Super}
use Rattle.heap_core.specs.declared.heap.Heap.{Heap}
use Rattle.heap_program.specs.declared.play.Halt.{Halt}
use Rattle.script_text.specs.declared.line.Line.{Line}
use Rattle.graph_model.specs.History.{IsOfSession}
use Rattle.core_laws.proofs.Run.Calls.{of_session_front}
use Rattle.heap_model.specs.Core.{Core}
use Rattle.heap_model.proofs.ListLaws.{AllByRecursion-behind}
use Rattle.heap_program.proofs.CoreSteps.{ready_front}
use Rattle.heap_core.specs.Refinement.{IsHeap}
use Rattle.heap_program.proofs.Ready.{AreReady}
use Rattle.heap_program.specs.Play.{Plays}
use Rattle.script_text.specs.Line.{line_events, events}
use Rattle.heap_program.proofs.PlayLaws.{plays_on, plays_then}

pub events_next : (lines : List Line) (i : ℕ) (d : Line) → i < length lines → events (take (i + 1) lines) ≡ events (take i lines) ++ line_events (get_or lines i d)
events_next lines i d lt =
    ap events (take_more lines i d lt)
    ∙ flat_map-append line_events (take i lines) (get_or lines i d ∷ [])
    ∙ ap (λ (l : List Event). events (take i lines) ++ l) (append-nil (line_events (get_or lines i d)))

pub events_parts : (lines : List Line) (i : ℕ) (d : Line) → i < length lines → events lines ≡ (events (take i lines) ++ line_events (get_or lines i d)) ++ events (drop (i + 1) lines)
events_parts lines i d lt =
    ap events (sym (take-append-drop i lines) ∙ ap (λ (l : List Line). take i lines ++ l) (drop_more lines i d lt))
    ∙ flat_map-append line_events (take i lines) (get_or lines i d ∷ drop (i + 1) lines)
    ∙ sym (append_assoc (events (take i lines)) (line_events (get_or lines i d)) (events (drop (i + 1) lines)))

-- the events of each line are of sessions where all are
pub line_sessions : (lines : List Line) (i : ℕ) (d : Line) → i < length lines → AllByRecursion IsOfSession (events lines) → AllByRecursion IsOfSession (line_events (get_or lines i d))
line_sessions lines i d lt all =
    let front = of_session_front (events (take i lines) ++ line_events (get_or lines i d)) (events (drop (i + 1) lines)) (subst (AllByRecursion IsOfSession) (events_parts lines i d lt) all) in
    AllByRecursion-behind IsOfSession (events (take i lines)) (line_events (get_or lines i d)) front

module _ {D : Type 0} {g : Ghosts D} (s : Super) (c : Core) (lines : List Line) (i : ℕ) (d : Line) (lt : i < length lines) (ready : AreReady c (events lines))
    (old mid new : Heap D g) (told : Bool) (before between after : List ℕ) (result : Result (Unit {0}) Halt)
    (so_far : Plays s c (events (take i lines)) old mid told before between (Ok tt))
    (next : (core : Core) → IsHeap s core mid → AreReady core (line_events (get_or lines i d)) → Plays s core (line_events (get_or lines i d)) mid new told between after result)
    (faults : g.faults old.disk ≤ g.faults mid.disk) (stops : g.stops old.disk ≤ g.stops mid.disk) where
  abbrev line : List Event
  line = line_events (get_or lines i d)

  here : Plays s c (events (take i lines) ++ line) old new told before after result
  here =
      let front = ready_front c (events (take i lines) ++ line) (events (drop (i + 1) lines)) (subst (AreReady c) (events_parts lines i d lt) ready) in
      plays_then s c (events (take i lines)) line old mid new told before between after result front so_far (λ core reached. next core) faults stops

  -- with that line
  pub line_more : Plays s c (events (take (i + 1) lines)) old new told before after result
  line_more = subst (λ (l : List Event). Plays s c l old new told before after result) (sym (events_next lines i d lt)) here

  -- the play ends with that line
  pub line_last : ((result ≡ Ok tt) → ⊥) → Plays s c (events lines) old new told before after result
  line_last early =
      subst (λ (l : List Event). Plays s c l old new told before after result) (sym (events_parts lines i d lt))
      (plays_on s c (events (take i lines) ++ line) (events (drop (i + 1) lines)) old new told before after result early here)
