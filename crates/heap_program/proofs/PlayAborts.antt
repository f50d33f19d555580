-- The aborts that end a run continue session by session.
use Rattle.std.proofs.Common.{◌≡◌, ℕ, ◌+◌, ◌≤◌, Bool, List, ◌++◌, Result, Ok, sym, subst}
use Rattle.std.specs.List.{AllByRecursion}
use Rattle.disk_model.specs.declared.disk.Disk.{Ghosts}
use Rattle.graph_model.specs.declared.event.Event.{Event}
use Rattle.graph_model.specs.History.{IsOfSession}
use Rattle.image_plan.specs.declared.superblock.Super.{Super}
use Rattle.heap_core.specs.declared.heap.Heap.{Heap}
use Rattle.heap_core.specs.Refinement.{IsCore, IsHeap}
use Rattle.heap_model.specs.Core.{Core}
use Rattle.heap_model.specs.CoreRuns.{after_events}
use Rattle.heap_model.specs.Ending.{abort_of, aborting}
use Rattle.core_laws.specs.Active.{active_in}
use Rattle.core_laws.proofs.Run.Aborting.{aborting_from, aborting_until, aborting_parts, until_then}
use Rattle.core_laws.proofs.Run.Ending.{until_of_session}
use Rattle.heap_program.specs.declared.play.Halt.{Halt}
use Rattle.heap_program.specs.Play.{IsRunning, PlaysCore, Plays}
use Rattle.heap_program.proofs.Ready.{AreReady}
use Rattle.heap_program.proofs.PlayCore.{core_on, core_then}
use Rattle.heap_program.proofs.PlayLaws.{plays_on, plays_then}

module _ (c : Core) (running : IsRunning c) (n s : ℕ) (next : n + 1 ≡ s) (last : s ≤ 32) where
  -- the core when the sessions before this one have aborted
  abbrev mid_core : Core
  mid_core = after_events c (aborting_until n c)

  -- this session's own abort
  abbrev own : List Event
  own = abort_of s (active_in mid_core s)

  until_own : aborting_until s c ≡ aborting_until n c ++ own
  until_own =
      let P : ℕ → Type 0 = λ r. aborting_until r c ≡ aborting_until n c ++ abort_of r (active_in mid_core r) in
      subst P next (until_then n c)

  ready : AreReady c (aborting_until n c ++ own)
  ready = record { running = running; sessions = subst (AllByRecursion IsOfSession) until_own (until_of_session s c last) }

  module _ {D : Type 0} {g : Ghosts D} (mid new : Heap D g) (told : Bool) (before between after : List ℕ) (result : Result (Unit {0}) Halt) where
    module _ (so_far : PlaysCore c (aborting_until n c) mid told before between (Ok tt))
        (one : (d : Core) → IsCore d mid → IsRunning d → PlaysCore d (abort_of s (active_in d s)) new told between after result) where
      -- with the abort of this session
      pub core_aborts : PlaysCore c (aborting_until s c) new told before after result
      core_aborts =
          subst (λ (l : List Event). PlaysCore c l new told before after result) (sym until_own)
          (core_then c (aborting_until n c) own mid new told before between after result ready so_far
          (λ d reached is is_ready. subst (λ (x : Core). PlaysCore d (abort_of s (active_in x s)) new told between after result) reached (one d is is_ready.running)))

      -- it ends with that
      pub core_aborts_last : ((result ≡ Ok tt) → ⊥) → PlaysCore c (aborting c) new told before after result
      core_aborts_last early =
          subst (λ (l : List Event). PlaysCore c l new told before after result) (sym (aborting_parts s c last))
          (core_on c (aborting_until s c) (aborting_from (s + 1) (after_events c (aborting_until s c))) new told before after result early core_aborts)

    module _ (of : Super) (old : Heap D g) (so_far : Plays of c (aborting_until n c) old mid told before between (Ok tt))
        (one : (d : Core) → IsHeap of d mid → IsRunning d → Plays of d (abort_of s (active_in d s)) mid new told between after result)
        (faults : g.faults old.disk ≤ g.faults mid.disk) (stops : g.stops old.disk ≤ g.stops mid.disk) where
      -- so on a modelled disk
      pub plays_aborts : Plays of c (aborting_until s c) old new told before after result
      plays_aborts =
          subst (λ (l : List Event). Plays of c l old new told before after result) (sym until_own)
          (plays_then of c (aborting_until n c) own old mid new told before between after result ready so_far
          (λ d reached is is_ready. subst (λ (x : Core). Plays of d (abort_of s (active_in x s)) mid new told between after result) reached (one d is is_ready.running))
          faults stops)

      -- and it ends so
      pub plays_aborts_last : ((result ≡ Ok tt) → ⊥) → Plays of c (aborting c) old new told before after result
      plays_aborts_last early =
          subst (λ (l : List Event). Plays of c l old new told before after result) (sym (aborting_parts s c last))
          (plays_on of c (aborting_until s c) (aborting_from (s + 1) (after_events c (aborting_until s c))) old new told before after result early plays_aborts)
