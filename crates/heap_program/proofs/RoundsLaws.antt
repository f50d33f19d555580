-- A load continues round by round.
use Rattle.std.proofs.Common.{◌≡◌, ℕ, ◌≤◌, Bool, List, ◌++◌, Result, Ok, Err, refl, sym, ap, ◌∙◌, subst, append_assoc}
use Rattle.std.proofs.lemmas.Grind.{flat_map-append}
use Rattle.std.specs.List.{AllByRecursion}
use Rattle.disk_model.specs.declared.disk.Disk.{Ghosts}
use Rattle.graph_model.specs.declared.event.Event.{Event}
use Rattle.graph_model.specs.History.{IsOfSession}
use Rattle.core_laws.proofs.Run.Calls.{of_session_front}
use Rattle.heap_model.proofs.ListLaws.{AllByRecursion-behind}
use Rattle.image_plan.specs.declared.superblock.Super.{Super}
use Rattle.heap_core.specs.declared.heap.Heap.{Heap}
use Rattle.heap_core.specs.Refinement.{IsCore, IsHeap}
use Rattle.heap_model.specs.Core.{Core}
use Rattle.heap_program.specs.declared.play.Halt.{Halt}
use Rattle.heap_program.specs.declared.play.Halt.TheVariants as halt
use Rattle.heap_program.specs.Play.{Plays, PlaysCore}
use Rattle.heap_program.proofs.CoreSteps.{ready_front}
use Rattle.heap_program.proofs.PlayCore.{core_on, core_then, core_nothing}
use Rattle.heap_program.proofs.PlayEvent.{plays_nothing}
use Rattle.heap_program.proofs.PlayLaws.{plays_on, plays_then}
use Rattle.heap_program.proofs.Ready.{AreReady}
use Rattle.script_text.specs.declared.line.Line.{Line}
use Rattle.script_text.specs.Line.{line_events, events}

-- with a round after those that were made, as many lines are left as before without it
pub parts_more : (all done left round rest : List Line) → all ≡ done ++ left → left ≡ round ++ rest → all ≡ (done ++ round) ++ rest
parts_more all done left round rest parts next = parts ∙ ap (λ (l : List Line). done ++ l) next ∙ sym (append_assoc done round rest)

module _ (done round rest all : List Line) (parts : all ≡ (done ++ round) ++ rest) where
  pub made_events : events (done ++ round) ≡ events done ++ events round
  made_events = flat_map-append line_events done round

  pub parts_events : events all ≡ (events done ++ events round) ++ events rest
  parts_events = ap events parts ∙ flat_map-append line_events (done ++ round) rest ∙ ap (λ (l : List Event). l ++ events rest) made_events

  -- the events of the round are of sessions if all are
  pub round_sessions : AllByRecursion IsOfSession (events all) → AllByRecursion IsOfSession (events round)
  round_sessions sessions =
      AllByRecursion-behind IsOfSession (events done) (events round) (of_session_front (events done ++ events round) (events rest) (subst (AllByRecursion IsOfSession) parts_events sessions))

  module _ (c : Core) (ready : AreReady c (events all)) where
    front : AreReady c (events done ++ events round)
    front = ready_front c (events done ++ events round) (events rest) (subst (AreReady c) parts_events ready)

    module _ {D : Type 0} {g : Ghosts D} (mid new : Heap D g) (told : Bool) (before between after : List ℕ) (result : Result (Unit {0}) Halt) (so_far : PlaysCore c (events done) mid told before between (Ok tt))
        (next : (core : Core) → IsCore core mid → AreReady core (events round) → PlaysCore core (events round) new told between after result) where
      core_here : PlaysCore c (events done ++ events round) new told before after result
      core_here = core_then c (events done) (events round) mid new told before between after result front so_far (λ core reached. next core)

      -- with that round
      pub core_round : PlaysCore c (events (done ++ round)) new told before after result
      core_round = subst (λ (l : List Event). PlaysCore c l new told before after result) (sym made_events) core_here

      -- the play ends with that round
      pub core_round_last : ((result ≡ Ok tt) → ⊥) → PlaysCore c (events all) new told before after result
      core_round_last early =
          subst (λ (l : List Event). PlaysCore c l new told before after result) (sym parts_events)
          (core_on c (events done ++ events round) (events rest) new told before after result early core_here)

    module _ {D : Type 0} {g : Ghosts D} (s : Super) (old mid new : Heap D g) (told : Bool) (before between after : List ℕ) (result : Result (Unit {0}) Halt) (so_far : Plays s c (events done) old mid told before between (Ok tt))
        (next : (core : Core) → IsHeap s core mid → AreReady core (events round) → Plays s core (events round) mid new told between after result)
        (faults : g.faults old.disk ≤ g.faults mid.disk) (stops : g.stops old.disk ≤ g.stops mid.disk) where
      plays_here : Plays s c (events done ++ events round) old new told before after result
      plays_here = plays_then s c (events done) (events round) old mid new told before between after result front so_far (λ core reached. next core) faults stops

      pub plays_round : Plays s c (events (done ++ round)) old new told before after result
      plays_round = subst (λ (l : List Event). Plays s c l old new told before after result) (sym made_events) plays_here

      pub plays_round_last : ((result ≡ Ok tt) → ⊥) → Plays s c (events all) old new told before after result
      plays_round_last early =
          subst (λ (l : List Event). Plays s c l old new told before after result) (sym parts_events)
          (plays_on s c (events done ++ events round) (events rest) old new told before after result early plays_here)

-- Memory ran out for the next round: the play ends with those that were made.
module _ (done rest all : List Line) (parts : all ≡ done ++ rest) (c : Core) (ready : AreReady c (events all)) where
  left_events : events all ≡ events done ++ events rest
  left_events = ap events parts ∙ flat_map-append line_events done rest

  ready_parts : AreReady c (events done ++ events rest)
  ready_parts = subst (AreReady c) left_events ready

  pub core_refused : {D : Type 0} {g : Ghosts D} (told : Bool) (before between : List ℕ) (mid : Heap D g) → PlaysCore c (events done) mid told before between (Ok tt) → PlaysCore c (events all) mid told before between (Err halt.NoMemory)
  core_refused told before between mid so_far =
      subst (λ (l : List Event). PlaysCore c l mid told before between (Err halt.NoMemory)) (sym left_events)
      (core_then c (events done) (events rest) mid mid told before between between (Err halt.NoMemory) ready_parts so_far (λ core reached is is_ready. core_nothing core (events rest) mid told between is))

  pub plays_refused : {D : Type 0} {g : Ghosts D} (told : Bool) (before between : List ℕ) (s : Super) (old mid : Heap D g) → Plays s c (events done) old mid told before between (Ok tt) → g.faults old.disk ≤ g.faults mid.disk → g.stops old.disk ≤ g.stops mid.disk
      → Plays s c (events all) old mid told before between (Err halt.NoMemory)
  plays_refused told before between s old mid so_far faults stops =
      subst (λ (l : List Event). Plays s c l old mid told before between (Err halt.NoMemory)) (sym left_events)
      (plays_then s c (events done) (events rest) old mid mid told before between between (Err halt.NoMemory) ready_parts so_far
      (λ core reached heap is_ready. plays_nothing s core (events rest) mid mid told between heap heap.core refl) faults stops)
