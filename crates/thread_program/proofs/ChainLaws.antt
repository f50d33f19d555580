-- How a chain of steps ends, and what the disk has counted then.
use Rattle.std.proofs.Common.{◌≡◌, ◌⊎◌, inl, inr, ⊎_elim, ℕ, ◌+◌, ◌<◌, ◌≤◌, List, [], ◌∷◌, ◌++◌, Result, refl, sym, ap, ◌∙◌, subst, arith}
use Rattle.std.specs.List.{AllByRecursion}
use Rattle.std.proofs.lemmas.Bool.{cases_lt}
use Rattle.counts.specs.Count.{counted}
use Rattle.disk_model.specs.declared.disk.Disk.{Ghosts}
use Rattle.disk_model.specs.declared.disk.DiskError.{DiskError}
use Rattle.disk_model.specs.declared.disk.DiskError.TheVariants as device
use Rattle.disk_model.specs.Disk.{HasCause}
use Rattle.disk_model.proofs.KeepsLaws.{rose_until}
use Rattle.gate_slot.specs.Passing.{Passes}
use Rattle.gate_slot.proofs.PassingLaws.{counted-add}
use Rattle.graph_model.specs.declared.event.Event.{Event}
use Rattle.graph_model.specs.declared.reply.Refusal.TheVariants.{DiskFault, Stopped}
use Rattle.graph_model.specs.declared.reply.Reply.{Reply}
use Rattle.graph_model.specs.declared.reply.Reply.TheVariants.{Refused}
use Rattle.graph_model.specs.History.{account, IsOfSession}
use Rattle.graph_model.proofs.Refusals.Plain.{IsSoundReply}
use Rattle.heap_core.specs.Causes.{reply_device}
use Rattle.heap_core.specs.Steps.{HeapStep, AreSteps}
use Rattle.heap_model.specs.Core.{Core, answer, after, with_entry, calls, IsCutShort, IsRun}
use Rattle.heap_model.specs.CoreRuns.{after_events, total_calls}
use Rattle.heap_model.proofs.Run.Calls.{calls-unfailed}
use Rattle.core_laws.specs.Ended.{IsUnfailed}
use Rattle.core_laws.specs.Valid.{HasFailed, IsReached}
use Rattle.core_laws.proofs.Run.Calls.{reached_after, unfailed_after}
use Rattle.core_laws.proofs.Run.Events.{cut_fails, failed_stays}
use Rattle.core_laws.proofs.Step.Sound.{sound_valid}
use Rattle.heap_program.specs.Causes.{DiskRose}
use Rattle.heap_program.specs.Play.{MadeAll}
use Rattle.heap_program.proofs.Causes.{disk_rose, disk_rose_since}
use Rattle.heap_program.proofs.Counts.{counted_mono}
use Rattle.heap_program.proofs.PlayEvent.{answer_sound, sound_device}
use Rattle.thread_program.specs.Together.{IsCutAmong}
use Rattle.thread_program.proofs.TogetherLaws.{cut_later}

-- a core whose disk has failed calls it no more
no_calls : (c : Core) (event : Event) → HasFailed (account c.history) c → calls c event ≡ 0
no_calls c event failed = ⊎_elim
    (λ (some : 0 < calls c event). absurd (let never = calls-unfailed c event some in let is = failed.failed in cc))
    (λ (none : calls c event ≤ 0). omega arith)
    (cases_lt 0 (calls c event))

none_passed : (n before now : ℕ) (result : Result (Unit {0}) DiskError) → n ≡ 0 → Passes n before now result → now ≡ before
none_passed n before now result none passes =
    let some = passes.some in
    let zero : some.0 ≡ 0 = omega (arith, some.1, none) in
    some.2 ∙ ap (λ (k : ℕ). counted k before) zero

module _ {D : Type 0} (g : Ghosts D) where
  -- steps are a run of the core
  pub heap_run : (c d : Core) (old new : D) (events : List Event) → AreSteps (HeapStep g) c old events d new → IsRun c events d
  heap_run c d old new [] steps = steps.0
  heap_run c d old new (event ∷ events) steps = (steps.2.reply, steps.0, steps.2.step, heap_run steps.0 d steps.1 new events steps.3)

  -- no events leave the disk as it is
  pub steps_none : (c d : Core) (old new : D) (events : List Event) → events ≡ [] → AreSteps (HeapStep g) c old events d new → new ≡ old
  steps_none c d old new [] none steps = steps.1
  steps_none c d old new (event ∷ events) none steps = absurd (let never : event ∷ events ≡ [] = none in cc)

  -- the disk's counts of failures and stops don't fall
  pub steps_kept : (c d : Core) (old new : D) (events : List Event) → AreSteps (HeapStep g) c old events d new → (g.faults old ≤ g.faults new) × (g.stops old ≤ g.stops new)
  steps_kept c d old new [] steps = let P : D → Type 0 = λ x. (g.faults old ≤ g.faults x) × (g.stops old ≤ g.stops x) in subst P (sym steps.1) (omega arith, omega arith)
  steps_kept c d old new (event ∷ events) steps =
      let cause = steps.2.disk.cause in
      let rest = steps_kept steps.0 d steps.1 new events steps.3 in
      (omega (arith, cause.faults_kept, rest.0), omega (arith, cause.stops_kept, rest.1))

  -- After a failure no step calls the disk, so each is answered as the core says.
  failed_steps : (c d : Core) (old new : D) (events : List Event) → HasFailed (account c.history) c → AreSteps (HeapStep g) c old events d new
      → (d ≡ after_events c events) × HasFailed (account d.history) d × (g.passed new ≡ g.passed old)
  failed_steps c d old new [] failed steps = (steps.0, subst (λ (x : Core). HasFailed (account x.history) x) (sym steps.0) failed, ap g.passed steps.1)
  failed_steps c d old new (event ∷ events) failed steps =
      let step = steps.2 in
      let none = no_calls c event failed in
      let same = none_passed (calls c event) (g.passed old) (g.passed steps.1) (reply_device step.reply) none step.passes in
      ⊎_elim
      (λ (whole : (step.reply ≡ answer c event) × (steps.0 ≡ after c event)).
      let rest = failed_steps steps.0 d steps.1 new events (subst (λ (x : Core). HasFailed (account x.history) x) (sym whole.1) (failed_stays c event failed)) steps.3 in
      (rest.0 ∙ ap (λ (x : Core). after_events x events) whole.1, rest.1, rest.2 ∙ same))
      (λ (cut : IsCutShort c event step.reply × (steps.0 ≡ with_entry c event step.reply)). absurd (let some = cut.0.some in omega (arith, some, none)))
      step.step

  -- The disk did all that it was asked, with the calls of all events; or it failed or stopped in one of them, with no more than the calls up to that one.
  abbrev pub Whole : Core → List Event → Core → D → D → Type 0
  Whole c events d old new = MadeAll c events d × IsUnfailed d × (g.passed new ≡ counted (total_calls c events) (g.passed old))

  abbrev pub Short : Core → List Event → Core → D → D → Type 0
  Short c events d old new =
      (cut : IsCutAmong c events d) × HasFailed (account d.history) d × DiskRose (g.faults old) (g.stops old) (g.faults new) (g.stops new)
      × (g.passed new ≤ counted (total_calls c (cut.before ++ cut.event ∷ [])) (g.passed old))

  abbrev pub ChainEnds : Core → List Event → Core → D → D → Type 0
  ChainEnds c events d old new = Whole c events d old new ⊎ Short c events d old new

  told_rose : (c : Core) (event : Event) (reply : Reply) (old new : D) → IsCutShort c event reply → HasCause (g.faults old) (g.faults new) (g.stops old) (g.stops new) (reply_device reply)
      → DiskRose (g.faults old) (g.stops old) (g.faults new) (g.stops new)
  told_rose c event reply old new cut cause = ⊎_elim
      (λ (is : reply ≡ Refused DiskFault). disk_rose _ _ _ _ (reply_device reply) device.Failed cause (ap reply_device is))
      (λ (is : reply ≡ Refused Stopped). disk_rose _ _ _ _ (reply_device reply) device.Stopped cause (ap reply_device is))
      cut.told

  module _ (c d : Core) (old new : D) (event : Event) (events : List Event) (steps : AreSteps (HeapStep g) c old (event ∷ events) d new) where
    -- the first event was done as asked
    whole_one : (steps.2.reply ≡ answer c event) × (steps.0 ≡ after c event) → ChainEnds steps.0 events d steps.1 new → ChainEnds c (event ∷ events) d old new
    whole_one whole behind =
        let next = after c event in
        let sound = sound_device steps.2.reply (subst IsSoundReply (sym whole.0) (answer_sound c event)) in
        let P : Result (Unit {0}) DiskError → Type 0 = λ r. Passes (calls c event) (g.passed old) (g.passed steps.1) r in
        let passed : g.passed steps.1 ≡ counted (calls c event) (g.passed old) = (subst P sound.0 steps.2.passes).ok in
        let rest : ChainEnds next events d steps.1 new = subst (λ (x : Core). ChainEnds x events d steps.1 new) whole.1 behind in
        let sum = λ (more : ℕ). ap (counted more) passed ∙ counted-add more (calls c event) (g.passed old) in
        let kept = steps.2.disk.cause in
        let more = steps_kept steps.0 d steps.1 new events steps.3 in
        ⊎_elim
        (λ (all : Whole next events d steps.1 new). inl (all.0, all.1, all.2 ∙ sum (total_calls next events)))
        (λ (cut : Short next events d steps.1 new). inr (
          cut_later c d event events cut.0,
          cut.1,
          disk_rose_since _ _ _ _ _ _ kept.faults_kept kept.stops_kept more.0 more.1 cut.2,
          subst (λ (k : ℕ). g.passed new ≤ k) (sum (total_calls next (cut.0.before ++ cut.0.event ∷ []))) cut.3,
        ))
        rest

    -- the disk cut it short
    cut_one : IsReached c → IsUnfailed c → IsCutShort c event steps.2.reply × (steps.0 ≡ with_entry c event steps.2.reply) → ChainEnds c (event ∷ events) d old new
    cut_one reached unfailed cut =
        let failed = subst (λ (x : Core). HasFailed (account x.history) x) (sym cut.1) (cut_fails c event steps.2.reply (sound_valid c reached.sound unfailed) cut.0) in
        let rest = failed_steps steps.0 d steps.1 new events failed steps.3 in
        let some = steps.2.passes.some in
        let more = counted_mono some.0 (calls c event + 0) (g.passed old) (omega (arith, some.1)) in
        let kept = steps_kept steps.0 d steps.1 new events steps.3 in
        let rose = told_rose c event steps.2.reply old steps.1 cut.0 steps.2.disk.cause in
        inr (
          record { before = []; event = event; behind = events; parts = refl; reply = steps.2.reply; cut = cut.0; reached = rest.0 ∙ ap (λ (x : Core). after_events x events) cut.1 },
          rest.1,
          rose_until (g.faults old + g.stops old) (g.faults steps.1 + g.stops steps.1) (g.faults new + g.stops new) (omega (arith, kept.0, kept.1)) rose,
          omega (arith, rest.2, some.2, more),
        )

  pub chain_ends : (c d : Core) (old new : D) (events : List Event) → IsReached c → IsUnfailed c → AllByRecursion IsOfSession events → AreSteps (HeapStep g) c old events d new → ChainEnds c events d old new
  chain_ends c d old new [] reached unfailed of steps = inl (steps.0, subst IsUnfailed (sym steps.0) unfailed, ap g.passed steps.1)
  chain_ends c d old new (event ∷ events) reached unfailed of steps = ⊎_elim
      (λ (whole : (steps.2.reply ≡ answer c event) × (steps.0 ≡ after c event)).
      whole_one c d old new event events steps whole
      (chain_ends steps.0 d steps.1 new events (subst IsReached (sym whole.1) (reached_after c event reached of.0)) (subst IsUnfailed (sym whole.1) (unfailed_after c event reached unfailed of.0)) of.1 steps.3))
      (cut_one c d old new event events steps reached unfailed)
      steps.2.step
