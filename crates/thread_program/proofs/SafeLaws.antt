-- What a run of workers says of crashes in short.
use Rattle.std.proofs.Common.{◌≡◌, inl, inr, ⊎_elim, ℕ, ◌+◌, Bool, List, [], length, take, Option, None, Some, refl, sym, ◌∙◌, subst, arith}
use Rattle.std.specs.Prelude.{IfSome}
use Rattle.std.specs.List.{AllByRecursion}
use Rattle.std.proofs.lemmas.List.{append-nil, take_all}
use Rattle.disk_model.specs.declared.disk.Disk.{Ghosts}
use Rattle.disk_model.specs.Disk.{Only}
use Rattle.disk_model.proofs.MomentLaws.{joined, weaker}
use Rattle.graph_model.specs.declared.event.Event.{Event}
use Rattle.graph_model.specs.History.{acknowledged, sealed, commits, IsOfSession}
use Rattle.graph_model.specs.Transaction.{Transaction, serial}
use Rattle.heap_model.specs.Core.{Core}
use Rattle.heap_model.specs.CoreCrash.{IsCommitPrefix, HasAtLeast}
use Rattle.heap_model.specs.Image.{StandsFor}
use Rattle.heap_model.proofs.Step.Grow.{keeps_at_least, has_fewer}
use Rattle.core_laws.specs.Ended.{IsUnfailed}
use Rattle.core_laws.specs.Valid.{IsReached}
use Rattle.core_laws.proofs.Crash.Grow.{has_at_least_on}
use Rattle.core_laws.proofs.Crash.Image.{sealed-first}
use Rattle.core_laws.proofs.Run.Events.{run_reached}
use Rattle.command_words.specs.Limits.{IsPages}
use Rattle.script_text.specs.declared.line.Line.{Line}
use Rattle.heap_program.specs.declared.status.Status.{Status}
use Rattle.heap_program.specs.declared.status.Status.TheVariants as status
use Rattle.heap_program.specs.Causes.{IsInputError}
use Rattle.heap_program.specs.Headline.{lasting, made_core}
use Rattle.heap_program.specs.Stored.{stored_core, stored_calls}
use Rattle.heap_program.proofs.CoreSteps.{made_limits, made_reached}
use Rattle.heap_program.proofs.PlayOpen.{stored_running}
use Rattle.heap_program.proofs.PrintedImage.{whole_prefix, ended_core}
use Rattle.heap_program.proofs.RunLaws.{unmade}
use Rattle.heap_program.proofs.StepsLaws.{steps_run, last_until, lasting_steps}
use Rattle.thread_program.proofs.MadeLaws.{of_sent, done_made}
use Rattle.thread_program.specs.Together.{MakesTogether, IsPlayedTogether, PlaysTogether, RunsTogether, IsSafeTogether, RunsTogetherSafely}

-- Each image that a crash leaves of a core on which nothing is pending stands for all that is sealed.
whole_image : (c : Core) (image : List ℕ) → IsReached c → IsUnfailed c → c.pending ≡ [] → IsCommitPrefix c image → StandsFor (serial c.g0 (sealed c.history)) (c.before + length (sealed c.history)) image
whole_image c image reached unfailed none prefix =
    let all = length (sealed c.history) in
    let first : take all (commits c.history) ≡ sealed c.history = sealed-first all c.history (omega arith) ∙ take_all all (sealed c.history) (omega arith) in
    subst (λ (ts : List Transaction). StandsFor (serial c.g0 ts) (c.before + all) image) first (whole_prefix c image reached unfailed none prefix)

-- a run that is done leaves nothing pending
pub done_settled : (tries : ℕ) (lines : List Line) (c : Core) (made : List Event) (d : Core) (result : Status) → IsReached c → IsUnfailed c → AllByRecursion IsOfSession made → (together : MakesTogether tries lines c made d result)
    → result ≡ status.Done → (d.pending ≡ []) × IsUnfailed d
done_settled tries lines c made d result reached unfailed of together done =
    let parts = sym (done_made tries lines c made d result reached unfailed of together done) ∙ sym (append-nil made) in
    ended_core c d made [] together.sent reached unfailed (of_sent tries lines c made d result reached unfailed of together) parts refl (together.done done).2

module _ {D : Type 0} (g : Ghosts D) (now : (disk : D) (image : List ℕ) → g.left_since disk (g.moment disk) image → g.may_leave disk image) where
  safe_together : (start final : D) (tries : ℕ) (is_script : List Line → Type 0) (at_opening : ℕ) (c : Core) (script : List Line) (result : Status) (told : Bool) (before after : List ℕ) → IsReached c → IsUnfailed c → is_script script
      → IsPlayedTogether g tries script at_opening c start final result told before after → IsSafeTogether g tries is_script at_opening c start final result told before after
  safe_together start final tries is_script at_opening c script result told before after reached unfailed read played =
      let made = played.runs.made in
      let core = played.runs.core in
      let disk = played.disk in
      let of = played.runs.sessions in
      let run = steps_run g None start final c core disk.opened disk.stopped made disk.steps in
      let at_end = run_reached c core made reached of run in
      let least = acknowledged c.history in
      let since = last_until g None start final now c core disk.opened disk.stopped made reached of disk.here disk.steps disk.rest in
      record {
        script = script;
        read = read;
        made = made;
        core = core;
        together = played.runs.together;
        each = weaker g.moment g.left_since start final _ (HasAtLeast core least)
            (joined g.moment g.left_since start disk.opened final (IsCommitPrefix c) (HasAtLeast core (lasting c)) disk.opening since)
            (λ image either. ⊎_elim
            (λ (kept : IsCommitPrefix c image). has_at_least_on c core made least image reached.sound run (keeps_at_least c image kept))
            (λ (has : HasAtLeast core (lasting c) image). has_fewer core (lasting c) least image (omega arith) has)
            either);
        opened = disk.opened;
        few = disk.few;
        stopped = disk.stopped;
        steps = lasting_steps g None start final now c core disk.opened disk.stopped made reached of disk.steps disk.rest;
        replies = played.replies;
        front = λ t. (played.runs.written t).front;
        printed = λ done t.
            let settled = done_settled tries script c made core result reached unfailed of played.runs.together done in
            (played.least, (played.runs.written t).whole done, λ image leaves. whole_image core image at_end settled.1 settled.0 (disk.kept image leaves));
      }

  script_together : (start final : D) (tries : ℕ) (is_script : List Line → Type 0) (at_opening : ℕ) (c : Core) (result : Status) (told : Bool) (before after : List ℕ) → IsReached c → IsUnfailed c
      → PlaysTogether g tries is_script at_opening c start final result told before after → IsSafeTogether g tries is_script at_opening c start final result told before after
  script_together start final tries is_script at_opening c result told before after reached unfailed plays =
      safe_together start final tries is_script at_opening c plays.lines result told before after reached unfailed plays.script plays.played

  -- So it says in short of a new heap and of an existing one, once the script is read.
  pub runs_safely : (fresh : Option ℕ) (tries : ℕ) (is_script : List Line → Type 0) (old new : D) (result : Status) (told : Bool) (before after : List ℕ) → IfSome fresh IsPages
      → RunsTogether g fresh tries is_script old new result told before after → RunsTogetherSafely g fresh tries is_script old new result told before after
  runs_safely (Some pages) tries is_script old new result told before after within (inl none) = inl none
  runs_safely (Some pages) tries is_script old new result told before after within (inr plays) =
      inr (plays.made, plays.format, script_together plays.made new tries is_script 0 (made_core pages (g.bytes plays.made)) result told before after (made_reached pages (g.bytes plays.made) (made_limits pages within.0 within.1)) refl plays.plays)
  runs_safely None tries is_script old new result told before after within (inl none) = inl none
  runs_safely None tries is_script old new result told before after within (inr plays) =
      inr (λ stored. script_together old new tries is_script (stored_calls stored) (stored_core stored) result told before after (stored_running g stored).reached (stored_running g stored).unfailed (plays stored))

-- A run that ended before it did anything with the disk, since its script was bad or could not be read, or memory ran out.
pub not_read : {D : Type 0} (g : Ghosts D) (disk : D) → Only (g.bytes disk) (g.may_leave disk) → ((image : List ℕ) → g.left_since disk (g.moment disk) image → g.may_leave disk image)
    → (fresh : Option ℕ) (tries : ℕ) (is_script : List Line → Type 0) (by : Status) (told : Bool) (before : List ℕ) → IsInputError by → RunsTogether g fresh tries is_script disk disk by told before before
not_read g disk only now None tries is_script by told before input = inl (record { reason = input; same = refl; nothing = λ t. refl })
not_read g disk only now (Some pages) tries is_script by told before input = inl (unmade g disk only now pages by told before input)
