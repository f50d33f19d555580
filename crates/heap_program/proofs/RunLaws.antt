-- What a run promises, from what its parts promise.
use Rattle.std.proofs.Common.{◌≡◌, ◌⊎◌, inl, inr, ⊎_elim, ℕ, ◌<◌, ◌≤◌, Bool, List, Option, None, Some, refl, sym, subst, arith}
use Rattle.std.specs.Prelude.{IfSome}
use Rattle.std.specs.List.{AllByRecursion}
use Rattle.std.proofs.lemmas.Bool.{cases_lt}
use Rattle.counts.specs.Count.{counted}
use Rattle.disk_model.specs.declared.disk.Disk.{Ghosts}
use Rattle.disk_model.specs.Disk.{SameOutside, Only}
use Rattle.disk_model.specs.Moments.{LeavesOnly}
use Rattle.disk_model.proofs.MomentLaws.{begins, joined, weaker}
use Rattle.graph_model.specs.History.{acknowledged, IsOfSession}
use Rattle.heap_model.specs.Core.{Core}
use Rattle.heap_model.specs.CoreCrash.{IsCommitPrefix, HasAtLeast}
use Rattle.core_laws.proofs.Run.Calls.{of_session_front}
use Rattle.core_laws.proofs.Crash.Grow.{has_at_least_on}
use Rattle.core_laws.proofs.Run.Events.{run_reached}
use Rattle.heap_model.proofs.Step.Grow.{keeps_at_least, has_fewer}
use Rattle.core_laws.specs.Valid.{IsReached}
use Rattle.command_words.specs.Limits.{IsPages}
use Rattle.heap_model.specs.Ending.{all_events}
use Rattle.script_text.specs.Line.{events}
use Rattle.heap_program.proofs.CoreSteps.{made_limits, made_reached, script_is, all_playable}
use Rattle.heap_program.specs.CrashSafe.{IsCrashSafe, RunsSafely}
use Rattle.heap_program.specs.Load.{RunsLoad}
use Rattle.heap_program.specs.Playable.{IsReadFrom}
use Rattle.heap_program.specs.Stored.{stored_core, stored_calls}
use Rattle.core_laws.specs.Ended.{IsUnfailed}
use Rattle.heap_program.proofs.PlayOpen.{stored_running}
use Rattle.heap_program.proofs.PrintedImage.{printed_image}
use Rattle.heap_program.proofs.StepsLaws.{steps_run, last_until, lasting_steps}
use Rattle.image_plan.specs.declared.superblock.Super.{Super}
use Rattle.image_plan.specs.Plan.{image_size}
use Rattle.heap_core.specs.declared.errors.FormatError.{FormatError}
use Rattle.heap_core.specs.declared.errors.FormatError.TheVariants as format
use Rattle.heap_core.specs.Format.{IsFormatting}
use Rattle.heap_program.specs.declared.status.Status.{Status}
use Rattle.heap_program.specs.declared.status.Status.TheVariants as status
use Rattle.command_words.specs.declared.commands.Stop.{Stop}
use Rattle.heap_program.specs.Headline.{lasting, made_super, made_core, IsEndOfPlay, BlamesNoImage, IsUnmade, IsNotMade, IsPlayed, PlaysScript, Runs, RestartsDisk, stop_after}
use Rattle.script_text.specs.declared.line.Line.{Line}
use Rattle.heap_program.specs.Causes.{IsInputError}

-- a play says nothing against the image
pub end_sound : (result : Status) → IsEndOfPlay result → BlamesNoImage result
end_sound status.Done h = tt
end_sound status.NoMemory h = tt
end_sound status.Usage h = absurd h
end_sound (status.Script line) h = absurd h
end_sound status.ReadFault h = absurd h
end_sound status.WriteFault h = tt
end_sound status.DiskFault h = tt
end_sound status.NotHeap h = absurd h
end_sound (status.Damaged at) h = absurd h
end_sound (status.TooSmall size need) h = absurd h

-- without a fault it is done, or memory ran out
pub end_done : (disk sink : Type 0) (result : Status) → IsEndOfPlay result → (result ≡ status.DiskFault → disk) → (result ≡ status.WriteFault → sink) → (disk → ⊥) → (sink → ⊥) → (result ≡ status.Done) ⊎ (result ≡ status.NoMemory)
end_done disk sink status.Done h by_disk by_sink no_disk no_sink = inl refl
end_done disk sink status.NoMemory h by_disk by_sink no_disk no_sink = inr refl
end_done disk sink status.Usage h by_disk by_sink no_disk no_sink = absurd h
end_done disk sink (status.Script line) h by_disk by_sink no_disk no_sink = absurd h
end_done disk sink status.ReadFault h by_disk by_sink no_disk no_sink = absurd h
end_done disk sink status.WriteFault h by_disk by_sink no_disk no_sink = absurd (no_sink (by_sink refl))
end_done disk sink status.DiskFault h by_disk by_sink no_disk no_sink = absurd (no_disk (by_disk refl))
end_done disk sink status.NotHeap h by_disk by_sink no_disk no_sink = absurd h
end_done disk sink (status.Damaged at) h by_disk by_sink no_disk no_sink = absurd h
end_done disk sink (status.TooSmall size need) h by_disk by_sink no_disk no_sink = absurd h

-- A disk on which a heap was made is large enough.
pub large_made : (size need : ℕ) → (size < need → ⊥) → need ≤ size
large_made size need small = ⊎_elim (λ (less : size < need). absurd (small less)) (λ (fits : need ≤ size). fits) (cases_lt size need)

-- A format that failed made no heap.
module _ {D : Type 0} (g : Ghosts D) (s : Super) (old new : D) where
  abbrev need : ℕ
  need = image_size s.pages s.log_bytes

  fits : (e : FormatError) → (g.extent old < need → (e ≡ format.TooSmall (g.extent old) need) × (new ≡ old)) → ((size full : ℕ) → e ≡ format.TooSmall size full → ⊥) → need ≤ g.extent old
  fits e small other = ⊎_elim (λ (less : g.extent old < need). absurd (other (g.extent old) need (small less).0)) (λ (large : need ≤ g.extent old). large) (cases_lt (g.extent old) need)

-- A run that ended before it did anything with the disk, since its script was bad or could not be read, or memory ran out.
module _ {D : Type 0} (g : Ghosts D) (disk : D) (only : Only (g.bytes disk) (g.may_leave disk)) (now : (image : List ℕ) → g.left_since disk (g.moment disk) image → g.may_leave disk image) where
  still : (P : List ℕ → Type 0) → P (g.bytes disk) → LeavesOnly g.moment g.left_since disk disk P
  still P here = begins g.moment g.left_since disk P (λ image since. subst P (sym (only image (now image since))) here)

  unread : (s : Super) (by : Status) → IsInputError by → IsUnmade g s disk disk by
  unread s status.Done input = absurd input
  unread s status.NoMemory input = refl
  unread s status.Usage input = absurd input
  unread s (status.Script line) input = refl
  unread s status.ReadFault input = refl
  unread s status.WriteFault input = absurd input
  unread s status.DiskFault input = absurd input
  unread s status.NotHeap input = absurd input
  unread s (status.Damaged at) input = absurd input
  unread s (status.TooSmall size need) input = absurd input

  pub unmade : (pages : ℕ) (by : Status) (told : Bool) (before : List ℕ) → IsInputError by → IsNotMade g (made_super pages) disk disk by told before before
  unmade pages by told before input = record {
    reason = unread (made_super pages) by input;
    nothing = λ t. refl;
    moments = still (IsFormatting (made_super pages) (g.bytes disk)) (inr (inl refl));
    outside = still (SameOutside 0 (image_size pages 1048576) (g.bytes disk)) (record { size = refl; before = λ i low. refl; behind = λ i high. refl });
    restarts = refl;
  }

  pub not_read : (fresh : Option ℕ) (stop : Option Stop) (is_script : List Line → Type 0) (by : Status) (told : Bool) (before : List ℕ) → IsInputError by → Runs g fresh stop is_script disk disk by told before before
  not_read None stop is_script by told before input = inl (record { reason = input; same = refl; nothing = λ t. refl })
  not_read (Some pages) stop is_script by told before input = inl (unmade pages by told before input)

  pub load_not_run : (fresh : Option ℕ) (seed count : ℕ) (by : Status) (told : Bool) (before : List ℕ) → IsInputError by → RunsLoad g fresh seed count disk disk by told before before
  load_not_run None seed count by told before input = inl (record { reason = input; same = refl; nothing = λ t. refl })
  load_not_run (Some pages) seed count by told before input = inl (unmade pages by told before input)

-- What a run says of crashes in short.
module _ {D : Type 0} (g : Ghosts D) (now : (disk : D) (image : List ℕ) → g.left_since disk (g.moment disk) image → g.may_leave disk image) (start final : D) where
  pub crash_safe : (stop : Option Stop) (is_script : List Line → Type 0) (at_opening : ℕ) (c : Core) (script : List Line) (result : Status) (told : Bool) (before after : List ℕ) → IsReached c → IsUnfailed c → is_script script
      → AllByRecursion IsOfSession (events script) → AllByRecursion IsOfSession (all_events (stop_after stop) c (events script))
      → IsPlayed g stop at_opening c (all_events (stop_after stop) c (events script)) start final result told before after → IsCrashSafe g (stop_after stop) is_script at_opening c start final result told before after
  crash_safe stop is_script at_opening c script result told before after reached unfailed read own sessions played =
      let made = played.run.made in
      let core = played.run.core in
      let disk = played.disk in
      let one = of_session_front made played.run.behind (subst (AllByRecursion IsOfSession) played.run.parts sessions) in
      let run = steps_run g (stop_after stop) start final c core disk.opened disk.stopped made disk.steps in
      let at_end = run_reached c core made reached one run in
      let least = acknowledged c.history in
      let since = last_until g (stop_after stop) start final now c core disk.opened disk.stopped made reached one disk.here disk.steps disk.rest in
      record {
        script = script;
        read = read;
        made = made;
        unmade = played.run.behind;
        asked = played.run.parts;
        core = core;
        all = played.run.done;
        each = weaker g.moment g.left_since start final _ (HasAtLeast core least)
            (joined g.moment g.left_since start disk.opened final (IsCommitPrefix c) (HasAtLeast core (lasting c)) disk.opening since)
            (λ image either. ⊎_elim
            (λ (kept : IsCommitPrefix c image). has_at_least_on c core made least image reached.sound run (keeps_at_least c image kept))
            (λ (has : HasAtLeast core (lasting c) image). has_fewer core (lasting c) least image (omega arith) has)
            either);
        opened = disk.opened;
        few = disk.few;
        stopped = disk.stopped;
        steps = lasting_steps g (stop_after stop) start final now c core disk.opened disk.stopped made reached one disk.steps disk.rest;
        replies = played.replies;
        lines = λ t. (played.prints.written t).lines;
        front = λ t. (played.prints.count, (played.prints.written t).front);
        printed = λ done t. (played.prints.count, played.prints.least, played.prints.most, (played.prints.written t).whole done, printed_image g at_opening c (events script) start final result told before after reached unfailed own stop played at_end done);
      }

-- So it says in short of a play on a new heap and on an existing one, once the script is read.
module _ {D : Type 0} (g : Ghosts D) (now : (disk : D) (image : List ℕ) → g.left_since disk (g.moment disk) image → g.may_leave disk image) (reads : Bool) (left : List ℕ) where
  script_safe : (start final : D) (stop : Option Stop) (at_opening : ℕ) (c : Core) (result : Status) (told : Bool) (before after : List ℕ) → IsReached c → IsUnfailed c
      → PlaysScript g stop (IsReadFrom reads left) at_opening c start final result told before after → IsCrashSafe g (stop_after stop) (IsReadFrom reads left) at_opening c start final result told before after
  script_safe start final stop at_opening c result told before after reached unfailed plays =
      let is = script_is plays.script.bytes plays.lines plays.script.script in
      let sessions = (all_playable (stop_after stop) c plays.lines is).sessions in
      crash_safe g now start final stop (IsReadFrom reads left) at_opening c plays.lines result told before after reached unfailed plays.script is.sessions sessions plays.played

  pub runs_safely : (fresh : Option ℕ) (stop : Option Stop) (old new : D) (result : Status) (told : Bool) (before after : List ℕ) → IfSome fresh IsPages
      → Runs g fresh stop (IsReadFrom reads left) old new result told before after → RunsSafely g fresh stop (IsReadFrom reads left) old new result told before after
  runs_safely (Some pages) stop old new result told before after within (inl none) = inl none
  runs_safely (Some pages) stop old new result told before after within (inr plays) =
      inr (plays.made, plays.format, script_safe plays.made new stop 0 (made_core pages (g.bytes plays.made)) result told before after (made_reached pages (g.bytes plays.made) (made_limits pages within.0 within.1)) refl plays.plays)
  runs_safely None stop old new result told before after within (inl none) = inl none
  runs_safely None stop old new result told before after within (inr plays) =
      inr (λ stored. script_safe old new stop (stored_calls stored) (stored_core stored) result told before after (stored_running g stored).reached (stored_running g stored).unfailed (plays stored))

-- How often a run that was asked to has started the disk again.
pub restarts_none : (asked : ℕ) (result : Status) (before now : ℕ) → (result ≡ status.Done → asked ≡ 0) → now ≡ before → RestartsDisk asked result before now
restarts_none asked result before now done same = record { times = 0; most = omega arith; all = λ is. sym (done is); told = same }

pub restarts_all : (asked : ℕ) (result : Status) (before now : ℕ) → now ≡ counted asked before → RestartsDisk asked result before now
restarts_all asked result before now same = record { times = asked; most = omega arith; all = λ is. refl; told = same }
