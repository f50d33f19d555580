use Rattle.std.proofs.Common.{◌≡◌, ◌≢◌, ◌≤◌, ◌<◌, ◌+◌, ℕ, min, inl, inr, true, List, [], Some, rules, arith, refl, sym, ap, ◌∙◌, subst, None}
use Rattle.counts.specs.Count.{Rose, greatest, counted}
use Rattle.disk_model.specs.Disk.{Only}
use Rattle.disk_model.specs.Fuse.{fuse_inner, fuse_passed}
use Rattle.disk_model.proofs.KeepsLaws.{rose_since}
use Rattle.disk_model.specs.Moments.{LeavesOnly}
use Rattle.disk_model.proofs.MomentLaws.{begins}
use Rattle.heap_core.specs.declared.errors.OpenError.TheVariants as opening
use Rattle.heap_core.specs.Causes.{recovery_error}
use Rattle.heap_core.specs.Refinement.{IsHeap, SameBehind, IsLeftByStep}
use Rattle.heap_model.specs.CoreCrash.{IsCommitPrefix}
use Rattle.heap_model.proofs.Run.Calls.{same_run}
use Rattle.heap_model.proofs.Run.Opening.{SameOpening}
use Rattle.heap_model.specs.CoreRuns.{total_calls}
use Rattle.heap_model.specs.Image.{IsLegal, Holds}
use Rattle.heap_model.proofs.Shaped.{shaped_image}
use Rattle.heap_model.specs.Opening.{opened, rollback_of}
use Rattle.page_store.specs.Gates.{open_gates}
use Rattle.heap_program.proofs.CoreSteps.{all_playable}
use Rattle.heap_program.specs.Headline.{IsExact, KeepsThroughout, Reopens, StartsAgain, EndsUnopened, starts_asked, PrintsSome, IsOfImage}
use Rattle.heap_program.specs.Causes.{Unharmed}
use Rattle.heap_program.specs.Output.{Recovers}
use Rattle.heap_program.specs.StatusOf.{open_status, halt_status}
use Rattle.heap_program.specs.Stored.{stored_core, stored_calls}
use Rattle.script_text.specs.Line.{events}
use Rattle.heap_program.proofs.PlayEnds.{run_reached, unfailed_only, kept, halt_part, halt_lines, stopped_lines, ends_early, ends_recovered, ends_made, stops_some, exact_some, passes_some, passes_within}
use Rattle.heap_program.proofs.Behind.{HasImages, opening_behind, played_behind, leaves_both, again_behind, leaves_commits}
use Rattle.heap_program.proofs.PlayFuse.{same_disk, same_limit, rose_some, fuse_since, fuse_passes, fuse_none, fuse_most, fuse_steps_of}
use Rattle.heap_program.proofs.PlayOpen.{few_calls, stored_running, stored_keeps, stored_moments, stored_super, ends_unopened, ends_stopped, unstarted, opened_core}
use Rattle.heap_program.proofs.PrintRecovered.{whole_count, fails_few, fails_none, no_rollback, stops_before}
use Rattle.heap_program.proofs.Statuses.{early_none, early_some, halt_end, halt_not_done, open_not_done, open_fault}
use Rattle.heap_recovery.specs.declared.at.At.TheVariants.{Address}
use Rattle.heap_recovery.proofs.FaultLaws.{shaped_readable}
use Rattle.heap_recovery.specs.Faults.{IsLeftOf}
use Rattle.heap_program.proofs.RefusalLaws.{only_read, not_opened, opens_few}
use Rattle.heap_program.proofs.Reopened.{refused_memory}
use Rattle.heap_program.proofs.RunLaws.{restarts_none, end_sound}
use Rattle.heap_program.proofs.PlayPrints.{prints_unplayed, prints_again, prints_early}
use Rattle.heap_program.proofs.Unfaulted.{sum_stays}
use Rattle.heap_program.specs.Refusals.{IsFault, fault_calls, AnswersImage}
use Rattle.heap_program.proofs.CommandLaws.{starts_some}
use Rattle.heap_program.proofs.ImageLaws.{keeps_opening, answers_refused, answers_opened, answers_again}
use Rattle.heap_recovery.specs.Recovered.{ErrorPasses}
use Rattle.heap_recovery.specs.Causes.{error_device}
use Rattle.heap_program.proofs.playing.play_stopped.Goals as goal

-- the heap was not opened
pub returns-in-Err-clause-played : goal.returns-in-Err-clause-played
returns-in-Err-clause-played g c tells stored only =
    let d = g.D.Disk in
    let s = stored.heap.super in
    let n = stored_calls stored in
    let start = c.args.disk in
    let fuse = c.in-Err.fuse in
    let final = fuse_inner fuse in
    let e = c.in-Err.ensures in
    let inner = c.new.ensures.inner in
    let legal : IsLegal stored.heap (d.bytes (fuse_inner c.new.result)) = record { log = stored.legal.log; held = subst (λ x. Holds stored.heap (d.bytes x)) (sym inner) stored.legal.held } in
    let shaped = shaped_image legal in
    let only_f = subst (λ x. Only (d.bytes x) (d.may_leave x)) (sym inner) only in
    let other : c.in-Err.e ≢ opening.Stopped = search rules in
    let outside = (e.image.shaped tells stored.heap shaped).error in
    let origin = e.image.disk.origin ∙ c.new.ensures.origin in
    let began = same_disk _ _ origin in
    let within = subst (λ m. fuse_passed fuse ≤ m) (same_limit _ _ origin) fuse.within in
    let passes = subst (λ p. ErrorPasses n p (fuse_passed fuse) (recovery_error c.in-Err.e)) c.new.ensures.passed ((e.image.shaped tells stored.heap shaped).passes) in
    let few : fuse_passed fuse ≤ n = fails_few n (fuse_passed fuse) (few_calls stored.heap) c.in-Err.e passes in
    let moments = subst (λ x. LeavesOnly d.moment d.left_since x final (IsCommitPrefix (stored_core stored))) inner
    (stored_moments d stored (fuse_inner c.new.result) final (fuse_since c.new.result fuse _ ((e.image.shaped tells stored.heap shaped).moments only_f))) in
    let behind = subst (λ x. LeavesOnly d.moment d.left_since x final (SameBehind (stored_core stored) (d.bytes x))) inner
    (opening_behind d (stored_core stored) stored.heap (d.bytes (fuse_inner c.new.result)) (fuse_inner c.new.result) final (stored_super d stored) (fuse_since c.new.result fuse _ ((e.image.readable tells stored.heap shaped.log.state (shaped_readable stored.heap (d.bytes (fuse_inner c.new.result)) shaped)).moments only_f))) in
    rw c.into_inner.ensures (ends_unopened d stored (Some c.args.stop) (events c.args.script.now) c.in-Err.e c.from.result start final g.K.Sink.tells (g.K.Sink.written c.args.sink.now) c.from.ensures outside
    moments behind (λ image left. stored_keeps d stored image ((e.image.shaped tells stored.heap shaped).crash only_f image left))
    (λ image since. g.met.D.Disk.only_now tells final image since) (e.image.disk.restarts tells ∙ ap d.restarts inner)
    (λ none. fuse_none fuse start tells began (fails_none n 0 (fuse_passed fuse) c.in-Err.e (ap open_status none) passes))
    (λ some u. u (subst (λ x. Rose (d.faults x + d.stops x) (d.faults final + d.stops final)) inner (open_fault _ _ _ _ c.in-Err.e outside some other e.image.disk.cause)))
    (fuse_most fuse start n tells began few) (fuse_most fuse start (min c.args.stop.after (n + 0)) tells began (omega (arith, within, few)))
    (λ refused. let reads = (e.image.left_alone (refused_memory c.in-Err.e refused)).contents tells in λ image may. only_f image (reads.crash image may) ∙ sym reads.bytes)
    (λ none. let never : Some c.args.stop ≡ None = none in absurd (cc never)))

-- the disk stopped in the opening
pub returns-then-eq-clause-played : goal.returns-then-eq-clause-played
returns-then-eq-clause-played g c tells stored only =
    let d = g.D.Disk in
    let k = g.K.Sink in
    let s = stored.heap.super in
    let n = stored_calls stored in
    let first = stored_core stored in
    let start = c.args.disk in
    let fuse = c.in-Err.fuse in
    let stopped = fuse_inner fuse in
    let final = c.start_again.result.1 in
    let e = c.in-Err.ensures in
    let inner = c.new.ensures.inner in
    let legal : IsLegal stored.heap (d.bytes (fuse_inner c.new.result)) = record { log = stored.legal.log; held = subst (λ x. Holds stored.heap (d.bytes x)) (sym inner) stored.legal.held } in
    let shaped = shaped_image legal in
    let only_f = subst (λ x. Only (d.bytes x) (d.may_leave x)) (sym inner) only in
    let is : c.in-Err.e ≡ opening.Stopped = search rules in
    let origin = e.image.disk.origin ∙ c.new.ensures.origin in
    let began = same_disk _ _ origin in
    let passes = subst (λ p. ErrorPasses n p (fuse_passed fuse) (recovery_error c.in-Err.e)) c.new.ensures.passed ((e.image.shaped tells stored.heap shaped).passes) in
    let some = rose_some c.new.result.stops fuse.stops e.image.disk.cause.stops_kept (e.image.disk.cause.stopped (ap (λ x. error_device (recovery_error x)) is)) in
    let any = λ (none : n ≡ 0). some ((e.image.shaped tells stored.heap shaped).no_first_stop (no_rollback (rollback_of stored.heap) none) c.new.ensures.stops) in
    let less : fuse_passed fuse < n = stops_before n (fuse_passed fuse) (few_calls stored.heap) any c.in-Err.e is passes in
    let blown = fuse.blown some ∙ same_limit _ _ origin in
    let short : c.args.stop.after < n = omega (arith, less, blown) in
    let moments = subst (λ x. LeavesOnly d.moment d.left_since x stopped (IsCommitPrefix first)) inner
    (stored_moments d stored (fuse_inner c.new.result) stopped (fuse_since c.new.result fuse _ ((e.image.shaped tells stored.heap shaped).moments only_f))) in
    let left : (image : List ℕ) → d.may_leave stopped image → IsCommitPrefix first image = λ image may. stored_keeps d stored image ((e.image.shaped tells stored.heap shaped).crash only_f image may) in
    let behind = subst (λ x. LeavesOnly d.moment d.left_since x stopped (SameBehind first (d.bytes x))) inner
    (opening_behind d first stored.heap (d.bytes (fuse_inner c.new.result)) (fuse_inner c.new.result) stopped (stored_super d stored) (fuse_since c.new.result fuse _ ((e.image.readable tells stored.heap shaped.log.state (shaped_readable stored.heap (d.bytes (fuse_inner c.new.result)) shaped)).moments only_f))) in
    let images : HasImages d = record { counts = λ disk t image le may. g.met.D.Disk.counts_now tells disk t image le may; now = λ disk image since. g.met.D.Disk.only_now tells disk image since; reads = λ disk. g.met.D.Disk.reads_an_image tells disk } in
    let base = d.bytes start in
    let back = c.start_again.ensures.recovers tells first left refl in
    let same : SameOpening first first = same_run first first [] refl in
    let rest = c.start_again.ensures.moments tells first base (leaves_both d images base first first start stopped same behind left) in
    ends_stopped d stored c.args.stop stopped final back.0 c.start_again.result.0 k.tells (k.written c.args.sink.now) (k.written c.start_again.new.sink) (events c.args.script.now) start moments left
    (leaves_commits d first base stopped final rest) (again_behind d images base first first start stopped final same behind rest) (e.image.disk.restarts tells ∙ ap d.restarts inner) short
    (fuse_most fuse start c.args.stop.after tells began (omega (arith, blown)))
    (λ u. fuse_passes fuse start c.args.stop.after tells began u blown)
    back.1

-- the heap is opened again
pub returns-in-None-clause-played : goal.returns-in-None-clause-played
returns-in-None-clause-played g c tells stored only =
    let d = g.D.Disk in
    let k = g.K.Sink in
    let s = stored.heap.super in
    let n = stored_calls stored in
    let first = stored_core stored in
    let es = events c.args.script.now in
    let before = k.written c.args.sink.now in
    let after = k.written c.play_lines-played.new.sink in
    let old = c.in-Ok.heap in
    let new = c.play_lines-played.new.heap in
    let start = c.args.disk in
    let e = c.in-Ok.ensures in
    let inner = c.new.ensures.inner in
    let legal : IsLegal stored.heap (d.bytes (fuse_inner c.new.result)) = record { log = stored.legal.log; held = subst (λ x. Holds stored.heap (d.bytes x)) (sym inner) stored.legal.held } in
    let shaped = shaped_image legal in
    let only_f = subst (λ x. Only (d.bytes x) (d.may_leave x)) (sym inner) only in
    let running = stored_running d stored in
    let playable = all_playable (Some c.args.stop.after) first c.args.script.now c.requires in
    let heap = subst (λ x. IsHeap s (opened stored.heap (open_gates s.log_bytes (d.bytes x)) true stored.places stored.graph) old) inner (e.holds tells stored.heap legal only_f stored.places stored.graph stored.found) in
    let plays = c.play_lines-played.ensures.plays tells s first heap running in
    let keep = kept s first running refl es playable old new k.tells before after c.play_lines-played.result plays in
    let stopped = fuse_inner new.disk in
    let final = c.start_again-in-None.result.1 in
    let opening = same_run first plays.core plays.made (run_reached s first running refl es playable old new k.tells before after c.play_lines-played.result plays).0 in
    let ended = early_none c.play_lines-played.result (sym c.early_end.ensures ∙ c.in-None.is) in
    let closed = c.close.ensures in
    let origin = c.play_lines-played.ensures.disk.origin ∙ e.image.disk.origin ∙ c.new.ensures.origin in
    let limit = same_limit _ _ origin in
    let began = same_disk _ _ origin in
    let began_old = same_disk _ _ (e.image.disk.origin ∙ c.new.ensures.origin) in
    let within = subst (λ m. fuse_passed new.disk ≤ m) limit new.disk.within in
    let at_start = subst (λ x. d.faults x + d.stops x ≤ d.faults (fuse_inner old.disk) + d.stops (fuse_inner old.disk)) inner e.image.disk.cause.faults_kept in
    let unrisen = λ (unharmed : Unharmed d start stopped) (rose : Rose (d.faults (fuse_inner old.disk) + d.stops (fuse_inner old.disk)) (d.faults stopped + d.stops stopped)). unharmed (rose_since _ _ _ at_start c.play_lines-played.ensures.disk.cause.faults_kept rose) in
    let few = few_calls stored.heap in
    let passed : fuse_passed old.disk ≡ n = whole_count n (fuse_passed old.disk) few ((e.image.shaped tells stored.heap shaped).passes.ok ∙ ap (counted n) c.new.ensures.passed) in
    let at_limit : new.disk.stops ≢ 0 → fuse_passed new.disk ≡ c.args.stop.after = λ blown. new.disk.blown blown ∙ limit in
    let exact : Unharmed d start stopped → IsExact (Some c.args.stop.after) n first plays.made plays.core = λ u. exact_some s first running refl es playable old new k.tells before after c.play_lines-played.result plays c.args.stop.after n few passed within at_limit (unrisen u) in
    let through = min c.args.stop.after (n + total_calls first plays.made) in
    let most : d.passed stopped ≤ counted through (d.passed start) = fuse_most new.disk start through tells began
    (passes_within s first running refl es playable old new k.tells before after c.play_lines-played.result plays c.args.stop.after n few passed within) in
    let inside : Unharmed d start stopped → d.passed stopped ≡ counted through (d.passed start) = λ u. fuse_passes new.disk start through tells began u
    (passes_some s first running refl es playable old new k.tells before after c.play_lines-played.result plays c.args.stop.after n few passed within at_limit (unrisen u)) in
    let left : (image : List ℕ) → d.may_leave (fuse_inner c.close.result) image → IsCommitPrefix plays.core image = λ image l. keep image (subst (λ x. d.may_leave (fuse_inner x) image) closed l) in
    let plus : first.before + 0 ≡ first.before = omega arith in
    let back = c.start_again-in-None.ensures.recovers tells plays.core left (c.commits-before.ensures first heap.core ∙ ap (λ (m : ℕ). min m greatest) (plus ∙ sym opening.before)) in
    let k_back = back.0 in
    let by = c.start_again-in-None.result.0 in
    let again = c.args.stop.again in
    let recovers = subst (λ x. Recovers plays.core k_back (StartsAgain d again plays.core k_back (Reopens d plays.core k_back) (fuse_inner x) final) (EndsUnopened d again plays.core k_back (fuse_inner x) final by) (d.bytes final) (d.may_leave final) by k.tells after (k.written c.start_again-in-None.new.sink)) closed back.1 in
    let steps = fuse_steps_of c.play_lines-played.ensures.disk (record {
      tells = λ told. told;
      moments = λ core left a b run. fuse_since a b (IsLeftByStep core left) run;
      bytes = λ fuse. refl;
      images = λ fuse image may. may;
      origin = λ a b same. same;
      passed = λ fuse. refl;
      faults = λ fuse. refl;
      stops = λ fuse. refl;
      restarts = λ fuse. refl;
    }) c.args.stop.after start tells first plays.core old.disk new.disk plays.made began_old (same_limit _ _ (e.image.disk.origin ∙ c.new.ensures.origin)) plays.steps in
    let behind = subst (λ x. LeavesOnly d.moment d.left_since x (fuse_inner old.disk) (SameBehind first (d.bytes x))) inner
    (opening_behind d first stored.heap (d.bytes (fuse_inner c.new.result)) (fuse_inner c.new.result) (fuse_inner old.disk) (stored_super d stored) (fuse_since c.new.result old.disk _ ((e.image.readable tells stored.heap shaped.log.state (shaped_readable stored.heap (d.bytes (fuse_inner c.new.result)) shaped)).moments only_f))) in
    let images : HasImages d = record { counts = λ disk t image le may. g.met.D.Disk.counts_now tells disk t image le may; now = λ disk image since. g.met.D.Disk.only_now tells disk image since; reads = λ disk. g.met.D.Disk.reads_an_image tells disk } in
    let base = d.bytes start in
    let played = played_behind d images base (Some c.args.stop.after) start first plays.core start (fuse_inner old.disk) stopped plays.made behind steps in
    let bytes_left = λ (image : List ℕ) (l : d.may_leave (fuse_inner c.close.result) image). leaves_both d images base first plays.core start stopped opening played keep image (subst (λ x. d.may_leave (fuse_inner x) image) closed l) in
    let rest = subst (λ x. LeavesOnly d.moment d.left_since (fuse_inner x) final (IsLeftByStep plays.core base)) closed (c.start_again-in-None.ensures.moments tells plays.core base bytes_left) in
    let keeps : KeepsThroughout d (Some c.args.stop.after) n first plays.made plays.core start final = record {
      opened = fuse_inner old.disk;
      opening = subst (λ x. LeavesOnly d.moment d.left_since x (fuse_inner old.disk) (IsCommitPrefix first)) inner
          (stored_moments d stored (fuse_inner c.new.result) (fuse_inner old.disk) (fuse_since c.new.result old.disk _ ((e.image.shaped tells stored.heap shaped).moments only_f)));
      here = λ image may. stored_keeps d stored image ((e.image.shaped tells stored.heap shaped).crash only_f image may);
      passed = λ u some. fuse_passes old.disk start n tells began_old u passed;
      few = fuse_most old.disk start n tells began_old (omega (arith, passed));
      restarts = e.image.disk.restarts tells ∙ ap d.restarts inner;
      still = λ some.
          let sum = e.image.disk.cause.faults_still (λ is. cc) ∙ ap (λ x. d.faults x + d.stops x) inner in
          let kept = subst (λ x. (d.faults x ≤ d.faults (fuse_inner old.disk)) × (d.stops x ≤ d.stops (fuse_inner old.disk))) began_old (old.disk.faults_kept, old.disk.stops_kept) in
          let same = sum_stays _ _ _ _ kept.0 kept.1 sum in
          record { faults = same.0; stops = same.1 };
      stopped = stopped;
      steps = steps;
      rest = leaves_commits d plays.core base stopped final rest;
      kept = λ image may. (k_back, recovers.kept image may);
      outside = again_behind d images base first plays.core start stopped final opening played rest;
    } in
    ends_recovered s first running refl es playable old new k.tells before after c.play_lines-played.result plays d start final c.args.stop n keeps inside most k_back by (k.written c.start_again-in-None.new.sink)
    (stopped_lines s first running refl es playable old new k.tells before after c.play_lines-played.result plays ended) recovers (ends_made s first running refl es playable old new k.tells before after c.play_lines-played.result plays c.args.stop.after ended) exact
    (stops_some s first running refl es playable old new k.tells before after c.play_lines-played.result plays c.args.stop.after n few passed within at_limit)

-- it ended before
pub returns-in-Some-clause-played : goal.returns-in-Some-clause-played
returns-in-Some-clause-played g c tells stored only =
    let d = g.D.Disk in
    let k = g.K.Sink in
    let s = stored.heap.super in
    let n = stored_calls stored in
    let first = stored_core stored in
    let es = events c.args.script.now in
    let before = k.written c.args.sink.now in
    let after = k.written c.play_lines-played.new.sink in
    let old = c.in-Ok.heap in
    let new = c.play_lines-played.new.heap in
    let start = c.args.disk in
    let e = c.in-Ok.ensures in
    let inner = c.new.ensures.inner in
    let legal : IsLegal stored.heap (d.bytes (fuse_inner c.new.result)) = record { log = stored.legal.log; held = subst (λ x. Holds stored.heap (d.bytes x)) (sym inner) stored.legal.held } in
    let shaped = shaped_image legal in
    let only_f = subst (λ x. Only (d.bytes x) (d.may_leave x)) (sym inner) only in
    let running = stored_running d stored in
    let playable = all_playable (Some c.args.stop.after) first c.args.script.now c.requires in
    let heap = subst (λ x. IsHeap s (opened stored.heap (open_gates s.log_bytes (d.bytes x)) true stored.places stored.graph) old) inner (e.holds tells stored.heap legal only_f stored.places stored.graph stored.found) in
    let plays = c.play_lines-played.ensures.plays tells s first heap running in
    let keep = kept s first running refl es playable old new k.tells before after c.play_lines-played.result plays in
    let final = fuse_inner new.disk in
    let halted = early_some c.play_lines-played.result c.in-Some.status (sym c.early_end.ensures ∙ c.in-Some.is) in
    let origin = c.play_lines-played.ensures.disk.origin ∙ e.image.disk.origin ∙ c.new.ensures.origin in
    let limit = same_limit _ _ origin in
    let began = same_disk _ _ origin in
    let began_old = same_disk _ _ (e.image.disk.origin ∙ c.new.ensures.origin) in
    let within = subst (λ m. fuse_passed new.disk ≤ m) limit new.disk.within in
    let at_start = subst (λ x. d.faults x + d.stops x ≤ d.faults (fuse_inner old.disk) + d.stops (fuse_inner old.disk)) inner e.image.disk.cause.faults_kept in
    let unrisen = λ (unharmed : Unharmed d start final) (rose : Rose (d.faults (fuse_inner old.disk) + d.stops (fuse_inner old.disk)) (d.faults final + d.stops final)). unharmed (rose_since _ _ _ at_start c.play_lines-played.ensures.disk.cause.faults_kept rose) in
    let few = few_calls stored.heap in
    let passed : fuse_passed old.disk ≡ n = whole_count n (fuse_passed old.disk) few ((e.image.shaped tells stored.heap shaped).passes.ok ∙ ap (counted n) c.new.ensures.passed) in
    let at_limit : new.disk.stops ≢ 0 → fuse_passed new.disk ≡ c.args.stop.after = λ blown. new.disk.blown blown ∙ limit in
    let exact : Unharmed d start final → IsExact (Some c.args.stop.after) n first plays.made plays.core = λ u. exact_some s first running refl es playable old new k.tells before after c.play_lines-played.result plays c.args.stop.after n few passed within at_limit (unrisen u) in
    let through = min c.args.stop.after (n + total_calls first plays.made) in
    let most : d.passed final ≤ counted through (d.passed start) = fuse_most new.disk start through tells began
    (passes_within s first running refl es playable old new k.tells before after c.play_lines-played.result plays c.args.stop.after n few passed within) in
    let inside : Unharmed d start final → d.passed final ≡ counted through (d.passed start) = λ u. fuse_passes new.disk start through tells began u
    (passes_some s first running refl es playable old new k.tells before after c.play_lines-played.result plays c.args.stop.after n few passed within at_limit (unrisen u)) in
    let steps = fuse_steps_of c.play_lines-played.ensures.disk (record {
      tells = λ told. told;
      moments = λ core left a b run. fuse_since a b (IsLeftByStep core left) run;
      bytes = λ fuse. refl;
      images = λ fuse image may. may;
      origin = λ a b same. same;
      passed = λ fuse. refl;
      faults = λ fuse. refl;
      stops = λ fuse. refl;
      restarts = λ fuse. refl;
    }) c.args.stop.after start tells first plays.core old.disk new.disk plays.made began_old (same_limit _ _ (e.image.disk.origin ∙ c.new.ensures.origin)) plays.steps in
    let behind = subst (λ x. LeavesOnly d.moment d.left_since x (fuse_inner old.disk) (SameBehind first (d.bytes x))) inner
    (opening_behind d first stored.heap (d.bytes (fuse_inner c.new.result)) (fuse_inner c.new.result) (fuse_inner old.disk) (stored_super d stored) (fuse_since c.new.result old.disk _ ((e.image.readable tells stored.heap shaped.log.state (shaped_readable stored.heap (d.bytes (fuse_inner c.new.result)) shaped)).moments only_f))) in
    let images : HasImages d = record { counts = λ disk t image le may. g.met.D.Disk.counts_now tells disk t image le may; now = λ disk image since. g.met.D.Disk.only_now tells disk image since; reads = λ disk. g.met.D.Disk.reads_an_image tells disk } in
    let base = d.bytes start in
    let keeps : KeepsThroughout d (Some c.args.stop.after) n first plays.made plays.core start final = record {
      opened = fuse_inner old.disk;
      opening = subst (λ x. LeavesOnly d.moment d.left_since x (fuse_inner old.disk) (IsCommitPrefix first)) inner
          (stored_moments d stored (fuse_inner c.new.result) (fuse_inner old.disk) (fuse_since c.new.result old.disk _ ((e.image.shaped tells stored.heap shaped).moments only_f)));
      here = λ image may. stored_keeps d stored image ((e.image.shaped tells stored.heap shaped).crash only_f image may);
      passed = λ u some. fuse_passes old.disk start n tells began_old u passed;
      few = fuse_most old.disk start n tells began_old (omega (arith, passed));
      restarts = e.image.disk.restarts tells ∙ ap d.restarts inner;
      still = λ some.
          let sum = e.image.disk.cause.faults_still (λ is. cc) ∙ ap (λ x. d.faults x + d.stops x) inner in
          let kept = subst (λ x. (d.faults x ≤ d.faults (fuse_inner old.disk)) × (d.stops x ≤ d.stops (fuse_inner old.disk))) began_old (old.disk.faults_kept, old.disk.stops_kept) in
          let same = sum_stays _ _ _ _ kept.0 kept.1 sum in
          record { faults = same.0; stops = same.1 };
      stopped = final;
      steps = steps;
      rest = begins d.moment d.left_since final (IsCommitPrefix plays.core) (λ image since. keep image (g.met.D.Disk.only_now tells final image since));
      kept = keep;
      outside = played_behind d images base (Some c.args.stop.after) start first plays.core start (fuse_inner old.disk) final plays.made behind steps;
    } in
    let part = halt_part s first running refl es playable old new k.tells before after c.play_lines-played.result plays halted.0 halted.1 in
    let closed = c.into_inner-in-Some.ensures ∙ ap fuse_inner c.close-in-Some.ensures in
    rw (closed, halted.3) (ends_early s first running refl es playable old new k.tells before after c.play_lines-played.result plays d start final (Some c.args.stop) n keeps inside most
    _ refl (halt_end halted.0) (halt_not_done halted.0) part
    (halt_lines s first running refl es playable old new k.tells before after c.play_lines-played.result plays halted.0 halted.1) exact
    (stops_some s first running refl es playable old new k.tells before after c.play_lines-played.result plays c.args.stop.after n few passed within at_limit)
    (unfailed_only s first running refl es playable old new k.tells before after c.play_lines-played.result plays)
    (inr (unstarted d c.args.stop.again plays.core _ final _, halt_not_done halted.0, λ t. (part t).0))
    (λ none. let never : Some c.args.stop ≡ None = none in absurd (cc never)))

pub returns-in-Err-clause-prints : goal.returns-in-Err-clause-prints
returns-in-Err-clause-prints g c tells = inl ((λ done. open_not_done c.in-Err.e (sym c.from.ensures ∙ done)), refl)

pub returns-then-eq-clause-prints : goal.returns-then-eq-clause-prints
returns-then-eq-clause-prints g c tells =
    let k = g.K.Sink in
    prints_unplayed c.args.stop.after c.args.script.now c.start_again.result.0 (k.written c.args.sink.now) (k.written c.start_again.new.sink) (c.start_again.ensures.again tells)

-- the disk that stops holds the image
pub returns-in-None-clause-prints : goal.returns-in-None-clause-prints
returns-in-None-clause-prints g c tells =
    let k = g.K.Sink in
    let some = opened_core g.D.Disk.tells (g.D.Disk.bytes (fuse_inner c.new.result)) c.in-Ok.heap c.in-Ok.ensures.opens c.in-Ok.ensures.sound in
    let plays = c.play_lines-played.ensures.core some.0 some.2 some.1.running in
    let ended = early_none c.play_lines-played.result (sym c.early_end.ensures ∙ c.in-None.is) in
    let before = k.written c.args.sink.now in
    let after = k.written c.start_again-in-None.new.sink in
    let by = c.start_again-in-None.result.0 in
    subst (λ x. PrintsSome (IsOfImage g.D.Disk.tells (g.D.Disk.bytes x)) (Some c.args.stop.after) c.args.script.now by before after) c.new.ensures.inner
    (prints_again c.args.stop.after some.0 some.1 c.args.script.now c.requires c.play_lines-played.new.heap k.tells before (k.written c.play_lines-played.new.sink) c.play_lines-played.result plays tells ended by after (c.start_again-in-None.ensures.again tells))

pub returns-in-Some-clause-prints : goal.returns-in-Some-clause-prints
returns-in-Some-clause-prints g c tells =
    let k = g.K.Sink in
    let some = opened_core g.D.Disk.tells (g.D.Disk.bytes (fuse_inner c.new.result)) c.in-Ok.heap c.in-Ok.ensures.opens c.in-Ok.ensures.sound in
    let plays = c.play_lines-played.ensures.core some.0 some.2 some.1.running in
    let halted = early_some c.play_lines-played.result c.in-Some.status (sym c.early_end.ensures ∙ c.in-Some.is) in
    let before = k.written c.args.sink.now in
    let after = k.written c.play_lines-played.new.sink in
    rw halted.3 (subst (λ x. PrintsSome (IsOfImage g.D.Disk.tells (g.D.Disk.bytes x)) (Some c.args.stop.after) c.args.script.now (halt_status halted.0) before after) c.new.ensures.inner
    (prints_early (Some c.args.stop.after) some.0 some.1 c.args.script.now c.requires c.play_lines-played.new.heap k.tells before after c.play_lines-played.result plays tells halted.0 halted.1))

-- What an opening of an image that can't be opened keeps, whether it is stopped or not.
pub returns-in-Err-clause-image : goal.returns-in-Err-clause-image
returns-in-Err-clause-image g c =
    let d = g.D.Disk in
    let start = c.args.disk in
    let inner = c.new.ensures.inner in
    let first = fuse_inner c.new.result in
    let fuse = c.in-Err.fuse in
    let cut = fuse_inner fuse in
    let e = c.in-Err.ensures in
    let asked = starts_asked c.args.stop.again in
    let began = same_disk _ _ (e.image.disk.origin ∙ c.new.ensures.origin) ∙ sym inner in
    let image = answers_refused d asked first cut (c.args.sink.now ≡ c.args.sink.now) c.in-Err.e refl e.image.refused (λ tells none. (e.image.not_heap tells none).told) (λ tells at damage. (e.image.damaged tells at damage).told)
    (λ tells expected fault alone.
    let reads = only_read _ expected (d.bytes first) c.new.result fuse _ fault alone (λ none. (e.image.not_heap tells none).reads) (λ at damage early. (e.image.damaged tells at damage).reads early) in
    let still = reads.contents tells in
    record {
      contents = record {
        bytes = still.bytes;
        crash = still.crash;
        moments = fuse_since c.new.result fuse (d.may_leave first) still.moments;
        passed = fuse_none fuse first tells began (still.passed ∙ c.new.ensures.passed);
      };
      restarts = reads.disk.restarts tells;
    })
    (λ tells only.
    let keeps = keeps_opening _ c.new.result fuse _ e.image tells only in
    record {
      keeps_fault = λ expected fault. fuse_since c.new.result fuse (IsFault expected) (keeps.keeps_fault expected fault);
      keeps_log = λ fault. fuse_since c.new.result fuse (IsLeftOf (d.bytes first)) (keeps.keeps_log fault);
    })
    (λ tells unstopped fault. absurd (starts_some c.args.stop.again unstopped))
    (λ tells fault.
    let n = fault_calls fault in
    let passes = subst (λ p. ErrorPasses n p (fuse_passed fuse) (recovery_error c.in-Err.e)) c.new.ensures.passed ((e.image.readable tells fault.1.0 fault.1.1 fault.1.2).passes) in
    opens_few n (d.passed first) (d.passed cut) (d.bytes first) c.in-Err.e fault (e.image.refused tells)
    (λ memory. fuse_none fuse first tells began (fails_none n 0 (fuse_passed fuse) c.in-Err.e memory passes))
    (fuse_most fuse first n tells began (fails_few n (fuse_passed fuse) (few_calls fault.1.0) c.in-Err.e passes)))
    (λ tells. restarts_none asked _ _ _ (λ done. absurd (open_not_done c.in-Err.e done)) (e.image.disk.restarts tells))
    (λ tells t image le may. g.met.D.Disk.counts_now tells cut t image le may) in
    rw (c.into_inner.ensures, c.from.ensures) (subst (λ x. AnswersImage d (Unit {0}) asked x cut (open_status c.in-Err.e) (c.args.sink.now ≡ c.args.sink.now)) inner image)

-- The opening was stopped: the stop that is asked for does not come in that of an image that is left alone.
pub returns-then-eq-clause-image : goal.returns-then-eq-clause-image
returns-then-eq-clause-image g c =
    let d = g.D.Disk in
    let inner = c.new.ensures.inner in
    let first = fuse_inner c.new.result in
    let fuse = c.in-Err.fuse in
    let stopped = fuse_inner fuse in
    let e = c.in-Err.ensures in
    let asked = starts_asked c.args.stop.again in
    let by = c.start_again.result.0 in
    let is : c.in-Err.e ≡ opening.Stopped = search rules in
    let some = rose_some c.new.result.stops fuse.stops e.image.disk.cause.stops_kept (e.image.disk.cause.stopped (ap (λ x. error_device (recovery_error x)) is)) in
    let image = answers_again d asked first c.start_again.result.1 (c.start_again.new.sink ≡ c.args.sink.now) stopped by (c.start_again.new.sink ≡ c.args.sink.now) (λ tells expected fault same. same) (starts_some c.args.stop.again) c.start_again.ensures.started e.image.disk.restarts
    (λ tells expected fault alone. some ((only_read _ expected (d.bytes first) c.new.result fuse _ fault alone (λ none. (e.image.not_heap tells none).reads) (λ at damage early. (e.image.damaged tells at damage).reads early)).no_first_stop c.new.ensures.stops))
    (λ tells only.
    let keeps = keeps_opening _ c.new.result fuse _ e.image tells only in
    record {
      keeps_fault = λ expected fault. fuse_since c.new.result fuse (IsFault expected) (keeps.keeps_fault expected fault);
      keeps_log = λ fault. fuse_since c.new.result fuse (IsLeftOf (d.bytes first)) (keeps.keeps_log fault);
    })
    (λ tells t image le may. g.met.D.Disk.counts_now tells stopped t image le may) c.start_again.ensures.image in
    subst (λ x. AnswersImage d (Unit {0}) asked x c.start_again.result.1 by (c.start_again.new.sink ≡ c.args.sink.now)) inner image

-- It was opened, and the disk stopped in an event, or after all.
pub returns-in-None-clause-image : goal.returns-in-None-clause-image
returns-in-None-clause-image g c =
    let d = g.D.Disk in
    let inner = c.new.ensures.inner in
    let first = fuse_inner c.new.result in
    let final = c.start_again-in-None.result.1 in
    let e = c.in-Ok.ensures in
    let asked = starts_asked c.args.stop.again in
    let by = c.start_again-in-None.result.0 in
    let image = answers_again d asked first final (c.start_again-in-None.new.sink ≡ c.args.sink.now) (fuse_inner c.close.result) by (c.start_again-in-None.new.sink ≡ c.play_lines-played.new.sink)
    (λ tells expected fault same. absurd (not_opened expected (d.bytes first) fault (λ none. (e.image.not_heap tells none).told) (λ at damage. (e.image.damaged tells at damage).told))) (starts_some c.args.stop.again) c.start_again-in-None.ensures.started
    (λ tells. ap (λ x. d.restarts (fuse_inner x)) c.close.ensures ∙ c.play_lines-played.ensures.disk.restarts tells ∙ e.image.disk.restarts tells)
    (λ tells expected fault alone. not_opened expected (d.bytes first) fault (λ none. (e.image.not_heap tells none).told) (λ at damage. (e.image.damaged tells at damage).told))
    (λ tells only. record {
      keeps_fault = λ expected fault. absurd (not_opened expected (d.bytes first) fault (λ none. (e.image.not_heap tells none).told) (λ at damage. (e.image.damaged tells at damage).told));
      keeps_log = λ fault. absurd (e.image.damaged tells (Address fault.0) fault.1).told;
    })
    (λ tells t image le may. g.met.D.Disk.counts_now tells (fuse_inner c.close.result) t image le may) c.start_again-in-None.ensures.image in
    subst (λ x. AnswersImage d (Unit {0}) asked x final by (c.start_again-in-None.new.sink ≡ c.args.sink.now)) inner image

-- It ended before the disk was restarted.
pub returns-in-Some-clause-image : goal.returns-in-Some-clause-image
returns-in-Some-clause-image g c =
    let d = g.D.Disk in
    let inner = c.new.ensures.inner in
    let first = fuse_inner c.new.result in
    let final = fuse_inner c.play_lines-played.new.heap.disk in
    let e = c.in-Ok.ensures in
    let asked = starts_asked c.args.stop.again in
    let halted = early_some c.play_lines-played.result c.in-Some.status (sym c.early_end.ensures ∙ c.in-Some.is) in
    let image = answers_opened d asked first final (c.play_lines-played.new.sink ≡ c.args.sink.now) (halt_status halted.0) (end_sound _ (halt_end halted.0)) (λ tells none. (e.image.not_heap tells none).told) (λ tells at damage. (e.image.damaged tells at damage).told)
    (λ tells. restarts_none asked _ _ _ (λ done. absurd (halt_not_done halted.0 done)) (c.play_lines-played.ensures.disk.restarts tells ∙ e.image.disk.restarts tells)) in
    rw (c.into_inner-in-Some.ensures ∙ ap fuse_inner c.close-in-Some.ensures, halted.3) (subst (λ x. AnswersImage d (Unit {0}) asked x final (halt_status halted.0) (c.play_lines-played.new.sink ≡ c.args.sink.now)) inner image)
