-- Laws of steps on a disk: they are a run of the core, and no moment of them loses what had been acknowledged or forced.
use Rattle.std.specs.Prelude.{nat_lt, if◌then◌else◌}
use Rattle.std.proofs.Common.{◌≡◌, inl, inr, ℕ, ◌+◌, ◌≤◌, ⊎_elim, Bool, true, false, List, [], ◌∷◌, Option, Some, None, refl, sym, ap, ◌∙◌, subst, arith}
use Rattle.std.specs.List.{AllByRecursion}
use Rattle.disk_model.specs.declared.disk.Disk.{Ghosts}
use Rattle.disk_model.specs.Moments.{LeavesOnly}
use Rattle.disk_model.proofs.MomentLaws.{begins, joined, weaker}
use Rattle.graph_model.specs.declared.event.Event.{Event}
use Rattle.gated_log.specs.Log.{records_of}
use Rattle.graph_model.specs.declared.event.Event.TheVariants.{Seal, Flip, Scan, Force, Flush}
use Rattle.graph_model.specs.declared.reply.Entry.{Entry}
use Rattle.graph_model.specs.declared.reply.Refusal.{Refusal}
use Rattle.graph_model.specs.declared.reply.Refusal.TheVariants.{DiskFault, Stopped}
use Rattle.graph_model.specs.declared.reply.Reply.{Reply}
use Rattle.graph_model.specs.declared.reply.Reply.TheVariants.{Begun, Sealed, Aborted, Durable, Refused}
use Rattle.graph_model.specs.History.{Account, account, done, cut_short, answered, acknowledged, IsOfSession}
use Rattle.graph_model.proofs.Runs.History.{account-append}
use Rattle.log_machine.specs.Machine as machine
use Rattle.page_redo.specs.Origin.{commits_in}
use Rattle.log_machine.proofs.MachineLaws.{commits-append}
use Rattle.log_machine.proofs.StateLaws.{commits-start}
use Rattle.heap_model.specs.Core.{Core, barrier_records, moved, own_records, commits_on_disk, core_refusal, Transfer, Lands, Stores, made, noted, transfers, after_refusal, with_entry, cut, IsStep, IsRun}
use Rattle.heap_model.specs.Core as model
use Rattle.log_records.specs.declared.Record.{Record}
use Rattle.heap_model.proofs.Step.Room.{forced-with_batch, records_of-with_batch}
use Rattle.heap_model.proofs.Step.Transfers.{all_made}
use Rattle.heap_model.specs.CoreCrash.{IsCommitPrefix, HasAtLeast}
use Rattle.core_laws.proofs.Crash.Cut.{acknowledged_cut, has_cut}
use Rattle.core_laws.proofs.Crash.Grow.{has_at_least_on}
use Rattle.heap_model.proofs.Step.Grow.{has_fewer}
use Rattle.heap_model.proofs.Run.Calls.{step_history, same_run}
use Rattle.core_laws.proofs.Run.Events.{run_reached}
use Rattle.core_laws.proofs.Step.Sound.{sound_agrees}
use Rattle.core_laws.specs.Valid.{IsSound, IsReached}
use Rattle.heap_core.specs.Refinement.{IsLeftByStep}
use Rattle.heap_program.specs.CrashSafe.{LastingStep}
use Rattle.heap_program.specs.Headline.{lasting}
use Rattle.heap_core.specs.Steps.{AreSteps}
use Rattle.heap_program.specs.Steps.{Step}

done_acknowledges : (a : Account) (event : Event) (reply : Reply) → a.acknowledged ≤ (done a event reply).acknowledged
done_acknowledges a event (Begun n) = omega arith
done_acknowledges a event (Sealed n) = omega arith
done_acknowledges a event Aborted = omega arith
done_acknowledges a event (Durable n) = omega arith
done_acknowledges a event (Refused why) = omega arith
done_acknowledges a event reply = omega arith

cut_acknowledges : (a : Account) (event : Event) → a.acknowledged ≤ (cut_short a event).acknowledged
cut_acknowledges a (Seal s) = omega arith
cut_acknowledges a event = omega arith

answered_acknowledges : (a : Account) (event : Event) (reply : Reply) → a.acknowledged ≤ (answered a event reply).acknowledged
answered_acknowledges a event (Refused DiskFault) = cut_acknowledges a event
answered_acknowledges a event (Refused Stopped) = cut_acknowledges a event
answered_acknowledges a event reply = done_acknowledges a event reply

step_acknowledges : (c d : Core) (event : Event) (reply : Reply) → IsStep c event reply d → acknowledged c.history ≤ acknowledged d.history
step_acknowledges c d event reply step =
    let entry : Entry = record { event = event; reply = reply } in
    let same : acknowledged d.history ≡ (answered (account c.history) event reply).acknowledged =
    ap acknowledged (step_history c d event reply step) ∙ ap (λ (a : Account). a.acknowledged) (account-append c.history entry) in
    let more = answered_acknowledges (account c.history) event reply in
    omega (arith, same, more)

-- What was acknowledged stays so over a run.
pub run_acknowledges : (c d : Core) (events : List Event) → IsRun c events d → acknowledged c.history ≤ acknowledged d.history
run_acknowledges c d [] run = let same : acknowledged d.history ≡ acknowledged c.history = ap (λ (x : Core). acknowledged x.history) run in omega arith
run_acknowledges c d (event ∷ events) run =
    let first = step_acknowledges c run.1 event run.0 run.2 in
    let rest = run_acknowledges run.1 d events run.3 in
    omega (arith, first, rest)

-- how many records of commits the log on the disk holds
abbrev on_disk : Core → ℕ
on_disk c = machine.commits (records_of c.batches)

-- they are as many as the transactions that are committed there
disk_commits : (c : Core) → IsSound c → commits_on_disk c ≡ on_disk c
disk_commits c h =
    let b = sound_agrees c h in
    ap commits_in b.disk.told.reached ∙ commits-start c.pages c.first_number b.disk.state (records_of c.batches) b.disk.told.reached

landed_commits : (c : Core) → on_disk c ≤ on_disk (made c Lands)
landed_commits c =
    let all : on_disk (made c Lands) ≡ on_disk c + machine.commits c.pending =
    ap on_disk (forced-with_batch c) ∙ ap machine.commits (records_of-with_batch c.batches c.pending) ∙ commits-append (records_of c.batches) c.pending in
    omega (arith, all)

made_commits : (c : Core) (t : Transfer) → on_disk c ≤ on_disk (made c t)
made_commits c Lands = landed_commits c
made_commits c (Stores p lsn) = omega arith

moved_commits : (c : Core) (records : List Record) → on_disk c ≤ on_disk (moved c records)
moved_commits c [] = omega arith
moved_commits c (rec ∷ more) = omega arith

noted_commits : (c : Core) (event : Event) → on_disk c ≤ on_disk (noted c event)
noted_commits c Force = omega arith
noted_commits c (Flush p) = omega arith
noted_commits c Flip = moved_commits c (own_records c Flip)
noted_commits c Scan = moved_commits c (own_records c Scan)
noted_commits c event = moved_commits c (barrier_records c event)

done_commits : (c : Core) (event : Event) → on_disk c ≤ on_disk (model.done c event)
done_commits c event =
    all_made (λ d. on_disk c ≤ on_disk d) (λ d t few. omega (arith, few, made_commits d t)) (noted c event) (transfers c event) (noted_commits c event)

refusal_commits : (o : Option Refusal) (c : Core) (event : Event) → on_disk c ≤ on_disk (after_refusal o c event)
refusal_commits None c event = done_commits c event
refusal_commits (Some why) c event = omega arith

step_commits : (c d : Core) (event : Event) (reply : Reply) → IsStep c event reply d → on_disk c ≤ on_disk d
step_commits c d event reply (inl whole) = subst (λ (x : Core). on_disk c ≤ on_disk x) (sym whole.1) (refusal_commits (core_refusal c event) c event)
step_commits c d event reply (inr cut) = let same : on_disk d ≡ on_disk c = ap on_disk cut.1 in omega (arith, same)

-- What was forced stays so over a run.
run_commits : (c d : Core) (events : List Event) → IsRun c events d → on_disk c ≤ on_disk d
run_commits c d [] run = let same : on_disk d ≡ on_disk c = ap on_disk run in omega (arith, same)
run_commits c d (event ∷ events) run =
    let first = step_commits c run.1 event run.0 run.2 in
    let rest = run_commits run.1 d events run.3 in
    omega (arith, first, rest)

-- so what lasts does
pub run_lasting : (c d : Core) (events : List Event) → IsSound c → IsSound d → IsRun c events d → lasting c ≤ lasting d
run_lasting c d events from to run =
    let more = run_acknowledges c d events run in
    let added = run_commits c d events run in
    let same = (same_run c d events run).before in
    omega (arith, more, added, same, disk_commits c from, disk_commits d to)

-- an image that keeps first commits has as many as last
keeps_lasting : (c : Core) (image : List ℕ) → IsCommitPrefix c image → HasAtLeast c (lasting c) image
keeps_lasting c image keeps = record { count = keeps.0; stands = keeps.1.stands; enough = omega (arith, keeps.1.kept, keeps.1.forced); some = keeps.1.some }

-- so it does at a moment of an event that may be cut short
cut_lasting : (c : Core) (event : Event) (image : List ℕ) → IsCommitPrefix (cut c event) image → HasAtLeast (cut c event) (lasting c) image
cut_lasting c event image keeps =
    record { count = keeps.0; stands = keeps.1.stands; enough = omega (arith, acknowledged_cut c event, keeps.1.kept, cut_forced c event keeps.0 keeps.1.forced); some = keeps.1.some }
  where
    cut_forced : (c : Core) (event : Event) (k : ℕ) → commits_on_disk (cut c event) ≤ (cut c event).before + k → commits_on_disk c ≤ c.before + k
    cut_forced c event k = by (nat_lt 0 (model.calls c event))
      where
        by : (some : Bool) → commits_on_disk (if some then with_entry c event (Refused Stopped) else c) ≤ (if some then with_entry c event (Refused Stopped) else c).before + k → commits_on_disk c ≤ c.before + k
        by true forced = forced
        by false forced = forced

module _ {D : Type 0} (g : Ghosts D) (stop : Option ℕ) (start final : D) where
  -- Steps are a run of the core.
  pub steps_run : (c d : Core) (old new : D) (events : List Event) → AreSteps (Step g stop start) c old events d new → IsRun c events d
  steps_run c d old new [] steps = steps.0
  steps_run c d old new (event ∷ events) steps = (steps.2.reply, steps.0, steps.2.step, steps_run steps.0 d steps.1 new events steps.3)

  module _ (only_now : (disk : D) (c : List ℕ) → g.left_since disk (g.moment disk) c → g.may_leave disk c) where
    -- From the moment of the first disk on each image holds at least the commits that were acknowledged or forced by then.
    pub steps_last : (c d : Core) (old new : D) (events : List Event) → IsReached c → AllByRecursion IsOfSession events → ((image : List ℕ) → g.may_leave old image → IsCommitPrefix c image)
        → AreSteps (Step g stop start) c old events d new → LeavesOnly g.moment g.left_since old new (HasAtLeast d (lasting c))
    steps_last c d old new [] reached sessions here steps =
        let P : Core → D → Type 0 = λ x disk. LeavesOnly g.moment g.left_since old disk (HasAtLeast x (lasting c)) in
        subst (λ (x : Core). P x new) (sym steps.0) (subst (λ disk. P c disk) (sym steps.1)
        (begins g.moment g.left_since old (HasAtLeast c (lasting c)) (λ image left. keeps_lasting c image (here image (only_now old image left)))))
    steps_last c d old new (event ∷ events) reached sessions here steps =
        let mid = steps.0 in
        let between = steps.1 in
        let step = steps.2 in
        let one : IsRun c (event ∷ []) mid = (step.reply, mid, step.step, refl) in
        let at_mid = run_reached c mid (event ∷ []) reached (sessions.0, tt) one in
        let more = run_lasting c mid (event ∷ []) reached.sound at_mid.sound one in
        let rest = steps_last mid d between new events at_mid sessions.1 step.kept steps.3 in
        let least = lasting c in
        weaker g.moment g.left_since old new _ (HasAtLeast d least)
        (joined g.moment g.left_since old between new (IsLeftByStep (cut c event) (g.bytes old)) (HasAtLeast d (lasting mid)) step.moments rest)
        (λ image either. ⊎_elim
        (λ (left : IsLeftByStep (cut c event) (g.bytes old) image). has_at_least_on mid d events least image at_mid.sound (steps_run mid d between new events steps.3) (has_cut c mid event step.reply least image reached.sound step.step (cut_lasting c event image left.commits)))
        (λ (has : HasAtLeast d (lasting mid) image). has_fewer d (lasting mid) least image more has)
        either)

    -- So do they until a later moment, up to which a crash keeps all commits that were acknowledged or forced at the end.
    pub last_until : (c d : Core) (old new : D) (events : List Event) → IsReached c → AllByRecursion IsOfSession events → ((image : List ℕ) → g.may_leave old image → IsCommitPrefix c image)
        → AreSteps (Step g stop start) c old events d new → LeavesOnly g.moment g.left_since new final (IsCommitPrefix d) → LeavesOnly g.moment g.left_since old final (HasAtLeast d (lasting c))
    last_until c d old new events reached sessions here steps rest =
        let least = lasting c in
        let run = steps_run c d old new events steps in
        let more = run_lasting c d events reached.sound (run_reached c d events reached sessions run).sound run in
        weaker g.moment g.left_since old final _ (HasAtLeast d least)
        (joined g.moment g.left_since old new final (HasAtLeast d least) (IsCommitPrefix d) (steps_last c d old new events reached sessions here steps) rest)
        (λ image either. ⊎_elim
        (λ (has : HasAtLeast d least image). has)
        (λ (keeps : IsCommitPrefix d image). has_fewer d (lasting d) least image more (keeps_lasting d image keeps))
        either)

    -- Each step of a chain lasts: from its answer on each image holds at least the commits that were acknowledged or forced by then.
    pub lasting_steps : (c d : Core) (old new : D) (events : List Event) → IsReached c → AllByRecursion IsOfSession events
        → AreSteps (Step g stop start) c old events d new → LeavesOnly g.moment g.left_since new final (IsCommitPrefix d) → AreSteps (LastingStep g stop d start final) c old events d new
    lasting_steps c d old new [] reached sessions steps rest = steps
    lasting_steps c d old new (event ∷ events) reached sessions steps rest =
        let mid = steps.0 in
        let step = steps.2 in
        let at_mid = run_reached c mid (event ∷ []) reached (sessions.0, tt) (step.reply, mid, step.step, refl) in
        let here : LastingStep g stop d start final c old event mid steps.1 = record { made = step; lasts = last_until mid d steps.1 new events at_mid sessions.1 step.kept steps.3 rest } in
        (mid, steps.1, here, lasting_steps mid d steps.1 new events at_mid sessions.1 steps.3 rest)
