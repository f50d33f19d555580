-- What is printed of a run that is done is what the disk keeps.
use Rattle.std.proofs.Common.{◌≡◌, inl, inr, ⊎_elim, ℕ, ◌+◌, Bool, List, [], ◌++◌, length, take, Option, None, Some, refl, sym, ap, ◌∙◌, subst, arith}
use Rattle.std.specs.List.{AllByRecursion}
use Rattle.std.proofs.lemmas.List.{append-nil}
use Rattle.disk_model.specs.declared.disk.Disk.{Ghosts}
use Rattle.graph_model.specs.declared.event.Event.{Event}
use Rattle.graph_model.specs.History.{sealed, commits, IsOfSession}
use Rattle.graph_model.specs.Transaction.{Transaction, serial}
use Rattle.gated_log.specs.Log.{records_of}
use Rattle.log_records.specs.declared.Record.{Record}
use Rattle.page_redo.specs.Origin.{commits_in}
use Rattle.heap_model.specs.Core.{Core, commits_on_disk, state_behind, all_records}
use Rattle.heap_model.specs.CoreCrash.{IsCommitPrefix}
use Rattle.heap_model.specs.CoreRuns.{after_events}
use Rattle.heap_model.specs.Ending.{ending, all_events}
use Rattle.heap_model.specs.Image.{StandsFor}
use Rattle.heap_model.proofs.Step.Calls.{after_events-append}
use Rattle.core_laws.proofs.Crash.Image.{commits-sealed}
use Rattle.core_laws.proofs.Run.Calls.{reached_events, unfailed_events}
use Rattle.core_laws.proofs.Run.Ending.{ending_ends, ending_of_session}
use Rattle.core_laws.proofs.Step.Sound.{reached_agrees, sound_valid}
use Rattle.core_laws.specs.Ended.{IsUnfailed}
use Rattle.core_laws.specs.Valid.{IsReached}
use Rattle.command_words.specs.declared.commands.Stop.{Stop}
use Rattle.heap_program.specs.declared.status.Status.{Status}
use Rattle.heap_program.specs.declared.status.Status.TheVariants as status
use Rattle.heap_program.specs.Headline.{IsPlayed, HasMade, StopsOpening, IsFollowed, stop_after}

-- the disk of a core on which nothing is pending holds all that is sealed
all_on_disk : (c : Core) → IsReached c → c.pending ≡ [] → commits_on_disk c ≡ c.before + length (sealed c.history)
all_on_disk c reached none =
    let b = reached_agrees c reached in
    let same : records_of c.batches ≡ all_records c = sym (ap (λ (rs : List Record). records_of c.batches ++ rs) none ∙ append-nil (records_of c.batches)) in
    ap (λ (rs : List Record). commits_in (state_behind c rs)) same ∙ ap commits_in b.told.reached ∙ b.told.count

-- a commit prefix of such a core has all that is sealed
pub whole_count : (c : Core) (image : List ℕ) → IsReached c → IsUnfailed c → c.pending ≡ [] → (prefix : IsCommitPrefix c image) → prefix.0 ≡ length (sealed c.history)
whole_count c image reached unfailed none prefix =
    let forced = prefix.1.forced in
    let some = prefix.1.some in
    let held = all_on_disk c reached none in
    let same : length (commits c.history) ≡ length (sealed c.history) = ap (λ (ts : List Transaction). length ts) (commits-sealed c (sound_valid c reached.sound unfailed)) in
    omega (arith, forced, some, held, same)

-- its image stands for just that
pub whole_prefix : (c : Core) (image : List ℕ) → IsReached c → IsUnfailed c → c.pending ≡ [] → IsCommitPrefix c image → StandsFor (serial c.g0 (take (length (sealed c.history)) (commits c.history))) (c.before + length (sealed c.history)) image
whole_prefix c image reached unfailed none prefix =
    subst (λ (k : ℕ). StandsFor (serial c.g0 (take k (commits c.history))) (c.before + k) image) (whole_count c image reached unfailed none prefix) prefix.1.stands

-- all events of a play without a stop leave nothing pending, if the disk does not fail
pub ended_core : (c d : Core) (made behind asked : List Event) → IsReached c → IsUnfailed c → AllByRecursion IsOfSession asked → all_events None c asked ≡ made ++ behind → behind ≡ [] → d ≡ after_events c made → (d.pending ≡ []) × IsUnfailed d
ended_core c d made behind asked reached unfailed sessions parts none all =
    let mid = after_events c asked in
    let whole : all_events None c asked ≡ made = parts ∙ ap (λ (l : List Event). made ++ l) none ∙ append-nil made in
    let is : d ≡ after_events mid (ending mid) = all ∙ ap (after_events c) (sym whole) ∙ after_events-append c asked (ending mid) in
    let at_mid = reached_events c asked reached sessions in
    let still = unfailed_events c asked reached unfailed sessions in
    (ap (λ (x : Core). x.pending) is ∙ (ending_ends mid at_mid still).settled, subst IsUnfailed (sym is) (unfailed_events mid (ending mid) at_mid still (ending_of_session mid)))

module _ {D : Type 0} (g : Ghosts D) (at_opening : ℕ) (c : Core) (asked : List Event) (start final : D) (result : Status) (told : Bool) (before after : List ℕ) (reached : IsReached c) (unfailed : IsUnfailed c) (sessions : AllByRecursion IsOfSession asked) where
  -- so does each image after a restart, if the heap was opened again
  followed_image : (stop : Stop) (d : Core) (k : ℕ) (stopped : D) (only_lines : Type 0) → IsFollowed g (Some stop) d k stopped final result only_lines → result ≡ status.Done
      → (image : List ℕ) → g.may_leave final image → StandsFor (serial d.g0 (take k (commits d.history))) (d.before + k) image
  followed_image stop d k stopped only_lines (inl again) done image leaves = (again.0.outcome.keeps.still image leaves).stands
  followed_image stop d k stopped only_lines (inr unopened) done image leaves = absurd (unopened.1 done)

  -- Each image that a crash leaves of the disk after a run that is done stands for the commits whose graph was printed.
  pub printed_image : (stop : Option Stop) → (played : IsPlayed g stop at_opening c (all_events (stop_after stop) c asked) start final result told before after) → IsReached played.run.core → result ≡ status.Done
      → (image : List ℕ) → g.may_leave final image → StandsFor (serial played.run.core.g0 (take played.prints.count (commits played.run.core.history))) (played.run.core.before + played.prints.count) image
  printed_image None played at_end done image leaves =
      let d = played.run.core in
      let all = played.prints.all refl in
      let settled : (d.pending ≡ []) × IsUnfailed d = ⊎_elim
      (λ (made : HasMade None c played.run.made played.run.behind d). ended_core c d played.run.made played.run.behind asked reached unfailed sessions played.run.parts made.0 made.1)
      (λ (stopped : StopsOpening None at_opening played.run.made). absurd stopped)
      (played.run.done done) in
      subst (λ (k : ℕ). StandsFor (serial d.g0 (take k (commits d.history))) (d.before + k) image) (sym all) (whole_prefix d image at_end settled.1 settled.0 (played.disk.kept image leaves))
  printed_image (Some stop) played at_end done image leaves = followed_image stop played.run.core played.prints.count played.disk.stopped _ played.prints.behind done image leaves
