-- A play opens the heap that was made for it.
use Rattle.std.proofs.Common.{◌≡◌, ◌≢◌, inl, inr, ⊎_elim, ℕ, ◌+◌, ◌<◌, ◌≤◌, min, Bool, false, true, List, [], ◌∷◌, ◌++◌, take, Option, Some, None, Ok, refl, sym, ap, ◌∙◌, subst, arith}
use Rattle.std.proofs.lemmas.Bool.{cases_lt, false≢true}
use Rattle.std.specs.Prelude.{◌⊎◌, IsTrue}
use Rattle.std.proofs.lemmas.List.{append-nil}
use Rattle.disk_model.specs.declared.disk.Disk.{Ghosts}
use Rattle.disk_model.specs.Disk.{Only, HasCause}
use Rattle.disk_model.specs.Moments.{LeavesOnly}
use Rattle.disk_model.proofs.MomentLaws.{begins, joined, weaker}
use Rattle.graph_model.specs.declared.event.Event.{Event}
use Rattle.graph_model.specs.declared.reply.Refusal.TheVariants.{DiskFault, Stopped}
use Rattle.graph_model.specs.declared.reply.Reply.TheVariants.{Refused}
use Rattle.graph_model.specs.Graph.{Graph, new_graph}
use Rattle.graph_model.specs.History.{account}
use Rattle.heap_core.specs.Causes.{recovery_error}
use Rattle.heap_core.specs.declared.errors.OpenError.{OpenError}
use Rattle.heap_core.specs.declared.errors.OpenError.TheVariants as opening
use Rattle.heap_model.specs.Core.{Core, commits_on_disk}
use Rattle.heap_program.specs.declared.status.Status.{Status}
use Rattle.heap_program.specs.declared.status.Status.TheVariants.{Done, NoMemory}
use Rattle.heap_model.specs.CoreCrash.{IsSuperOf, IsCommitPrefix}
use Rattle.heap_model.specs.NewHeap.{new_heap, root_place}
use Rattle.heap_model.proofs.Opening.New.{new_legal, new_found}
use Rattle.heap_program.specs.Stored.{IsStored, stored_core, stored_calls}
use Rattle.core_laws.proofs.Opening.Opened.{opened_reached}
use Rattle.heap_model.proofs.Opening.Opened.{address_found, opened_keeps}
use Rattle.heap_model.proofs.Opening.Rolled.{rolled_commits}
use Rattle.heap_program.proofs.CoreSteps.{running_after, all_playable}
use Rattle.heap_model.specs.CoreRuns.{after_events}
use Rattle.heap_model.specs.Ending.{all_events}
use Rattle.command_words.specs.declared.commands.Stop.{Stop}
use Rattle.heap_program.specs.Headline.{lasting, IsOpened, made_super, end_text, stop_after, let_through, IsExact, StopsInPlace, CountsOpening, IsEndOfPlay, StartsAgain, Reopens, EndsUnopened, IsFollowed, Prints, StopsOnlyOpening, IsPlayed, IsOfImage}
use Rattle.heap_program.specs.Causes.{Unharmed}
use Rattle.heap_program.specs.Output.{Recovers, WroteRecovered, WroteNothing}
use Rattle.heap_program.proofs.Counts.{counted_mono}
use Rattle.heap_program.proofs.Limits.{limits_law}
use Rattle.heap_program.proofs.PlayFaults.{none_cut}
use Rattle.heap_program.proofs.Reopened.{recovered_only, outside_memory}
use Rattle.heap_program.proofs.Lines.{some_writes, all_writes, lines_more}
use Rattle.graph_model.specs.Transaction.{serial}
use Rattle.heap_program.specs.Playable.{IsScript}
use Rattle.page_store.specs.Gates.{open_gates}
use Rattle.heap_model.specs.Image.{StoredHeap, IsShapedLog, IsShaped, IsLegal}
use Rattle.counts.specs.Count.{counted}
use Rattle.log_machine.proofs.MapLaws.{entries_empty}
use Rattle.log_machine.specs.Machine.{abort_each}
use Rattle.log_machine.specs.declared.UndoEntry.{UndoEntry}
use Rattle.heap_model.specs.Core.{force_calls}
use Rattle.heap_model.specs.Opening.{opened, opening_calls, rollback_of, IsFound, IsLeftByOpening}
use Rattle.graph_words.specs.Places.{Places}
use Rattle.heap_core.specs.declared.heap.Heap.{Heap}
use Rattle.heap_core.specs.HeapState.{failed_at}
use Rattle.heap_core.specs.Refinement.{IsCore, SameBehind}
use Rattle.log_records.specs.declared.Record.{Record}
use Rattle.image_plan.specs.declared.superblock.Super.{Super}
use Rattle.script_text.specs.declared.line.Line.{Line}
use Rattle.script_text.specs.Line.{events}
use Rattle.heap_program.specs.Play.{IsRunning, PlaysCore, WroteFront}
use Rattle.heap_program.specs.StatusOf.{open_status}
use Rattle.heap_program.proofs.Statuses.{open_end, open_not_done}
use Rattle.heap_program.proofs.Written.{none_written, whole_front}
use Rattle.heap_recovery.specs.Recovered.{IsFromOutside, ErrorPasses}
use Rattle.heap_recovery.specs.Causes.{error_device}

-- A new heap, as an existing one.
abbrev pub new_stored : (pages : ℕ) (image : List ℕ) → IsLegal (new_heap (made_super pages)) image → IsStored image
new_stored pages image legal =
    let limits = legal.log.shaped.limits in
    record {
      heap = new_heap (made_super pages);
      legal = record { log = new_legal (made_super pages) limits; held = legal.held };
      places = root_place;
      graph = new_graph;
      found = new_found (made_super pages) limits;
    }

-- in a new heap there is nothing to be taken back, so its opening makes no write and no sync
pub no_calls : (s : Super) → opening_calls (new_heap s) ≡ 0
no_calls s = ap force_calls (ap abort_each (entries_empty (List UndoEntry)))

-- no opening makes more than four
pub few_calls : (stored : StoredHeap) → opening_calls stored ≤ 4
few_calls stored = few_forced (rollback_of stored)
  where
    few_forced : (rs : List Record) → force_calls rs ≤ 4
    few_forced [] = omega arith
    few_forced (r ∷ rs) = omega arith

-- two runs, of which the second leaves what the first may leave too
pub opening_then : {D : Type 0} (moment : D → ℕ) (left_since : D → ℕ → List ℕ → Type 0) (old mid new : D) (first all : List ℕ → Type 0) → LeavesOnly moment left_since old mid first → LeavesOnly moment left_since mid new all
    → ((image : List ℕ) → first image → all image) → LeavesOnly moment left_since old new all
opening_then moment left_since old mid new first all before behind implies =
    weaker moment left_since old new (λ image. first image ⊎ all image) all (joined moment left_since old mid new first all before behind) (λ image either. ⊎_elim (implies image) (λ p. p) either)

-- An opening that makes no event is exact: the disk stopped in it, or was to stop after it.
exact_unopened : (stop : Option ℕ) (at_opening : ℕ) (c : Core) → IsExact stop at_opening c [] c
exact_unopened None at_opening c = refl
exact_unopened (Some n) at_opening c = ⊎_elim
    (λ (less : n < at_opening). inr (inr (less, refl)))
    (λ (most : at_opening ≤ n). inl (refl, omega arith))
    (cases_lt n at_opening)

-- Where no event was made, none was answered `stopped`.
none_in_place : (stop : Option ℕ) (at_opening : ℕ) (c : Core) → StopsInPlace stop at_opening c [] c
none_in_place None at_opening c = tt
none_in_place (Some n) at_opening c = λ cut. absurd (none_cut (Refused Stopped) c c cut)

-- the disk was not started again
pub unstarted : {D : Type 0} (g : Ghosts D) (again : Option ℕ) (c : Core) (k : ℕ) (disk : D) (by : Status) → EndsUnopened g again c k disk disk by
unstarted g None c k disk by = inl refl
unstarted g (Some m) c k disk by = inl refl

nothing_follows : {D : Type 0} (g : Ghosts D) (stop : Option Stop) (c : Core) (disk : D) (by : Status) (told : Bool) (before : List ℕ) → (by ≡ Done → ⊥) → IsFollowed g stop c 0 disk disk by (IsTrue told → WroteFront before [] before)
nothing_follows g None c disk by told before early = refl
nothing_follows g (Some stop) c disk by told before early = inr (unstarted g stop.again c 0 disk by, early, λ t. none_written before [])

-- it lets through no call where it makes none
none_through : (stop : Option ℕ) → let_through stop 0 ≡ 0
none_through None = refl
none_through (Some n) = omega arith

-- The calls of an opening that failed: none if memory ran out, and otherwise the disk failed in it.
pub unopened_calls : (stop : Option ℕ) (at_opening before now : ℕ) (unharmed : Type 0) (e : OpenError) (by : Status) → by ≡ open_status e → IsFromOutside (recovery_error e) → (e ≡ opening.NoMemory → now ≡ before) → (e ≢ opening.NoMemory → unharmed → ⊥)
    → (counts : ℕ) × CountsOpening at_opening by [] counts × (unharmed → now ≡ counted (let_through stop (counts + 0)) before)
unopened_calls stop at_opening before now unharmed opening.NoMemory by is outside same harm = (0, inr (is, refl, refl), λ u. same refl ∙ ap (λ (n : ℕ). counted n before) (sym (none_through stop)))
unopened_calls stop at_opening before now unharmed opening.NotHeap by is outside same harm = absurd outside
unopened_calls stop at_opening before now unharmed (opening.Damaged at) by is outside same harm = absurd outside
unopened_calls stop at_opening before now unharmed opening.DiskFault by is outside same harm = (at_opening, inl refl, λ u. absurd (harm (λ other. cc) u))
unopened_calls stop at_opening before now unharmed opening.Stopped by is outside same harm = (at_opening, inl refl, λ u. absurd (harm (λ other. cc) u))

-- An opening that failed was stopped with calls left, if its disk met its first stop in it.
pub opening_stops : {D : Type 0} (g : Ghosts D) (n : ℕ) (start final : D) (e : OpenError) → IsFromOutside (recovery_error e) → ErrorPasses n (g.passed start) (g.passed final) (recovery_error e)
    → HasCause {T = Unit {0}} (g.faults start) (g.faults final) (g.stops start) (g.stops final) (error_device (recovery_error e)) → (n ≡ 0 → g.stops start ≡ 0 → g.stops final ≡ 0) → StopsOnlyOpening g n start final
opening_stops g n start final opening.NoMemory outside passes cause first none = inl (cause.stops_still (λ is. cc) ∙ none)
opening_stops g n start final opening.NotHeap outside passes cause first none = absurd outside
opening_stops g n start final (opening.Damaged at) outside passes cause first none = absurd outside
opening_stops g n start final opening.DiskFault outside passes cause first none = inl (cause.stops_still (λ is. cc) ∙ none)
opening_stops g n start final opening.Stopped outside passes cause first none = ⊎_elim
    (λ (some : 0 < n). inr (passes.stopped refl some))
    (λ (few : n ≤ 0). inl (first (omega arith) none))
    (cases_lt 0 n)

module _ {D : Type 0} (g : Ghosts D) {bytes : List ℕ} (stored : IsStored bytes) where
  abbrev c : Core
  c = stored_core stored

  abbrev n : ℕ
  n = stored_calls stored

  abbrev gates : ℕ → ℕ
  gates = open_gates stored.heap.super.log_bytes bytes

  -- an existing heap runs when it is opened
  pub stored_running : IsRunning c
  stored_running = record { reached = opened_reached stored.heap stored.legal.log.shaped gates true stored.places stored.graph stored.found; unfailed = refl }

  -- an opening of its image leaves one of its first commits
  pub stored_keeps : (image : List ℕ) → IsLeftByOpening stored.heap image → IsCommitPrefix c image
  stored_keeps image left = opened_keeps stored.heap stored.legal.log stored.places stored.graph stored.found gates image left

  -- so it does at each moment
  pub stored_moments : (old new : D) → LeavesOnly g.moment g.left_since old new (IsLeftByOpening stored.heap) → LeavesOnly g.moment g.left_since old new (IsCommitPrefix c)
  stored_moments old new moments = weaker g.moment g.left_since old new (IsLeftByOpening stored.heap) (IsCommitPrefix c) moments stored_keeps

  -- the superblock is that of its heap
  pub stored_super : IsSuperOf stored.heap.super c
  stored_super = record { limits = stored.legal.log.shaped.limits; pages = refl; room = refl; first = refl }

  -- The heap was not opened: no event was made, and nothing was written.
  pub ends_unopened : (stop : Option Stop) (events : List Event) (e : OpenError) (by : Status) (start final : D) (told : Bool) (before : List ℕ) → by ≡ open_status e → IsFromOutside (recovery_error e)
      → LeavesOnly g.moment g.left_since start final (IsCommitPrefix c) → LeavesOnly g.moment g.left_since start final (SameBehind c (g.bytes start)) → ((image : List ℕ) → g.may_leave final image → IsCommitPrefix c image)
      → ((image : List ℕ) → g.left_since final (g.moment final) image → g.may_leave final image) → g.restarts final ≡ g.restarts start
      → (e ≡ opening.NoMemory → g.passed final ≡ g.passed start) → (e ≢ opening.NoMemory → Unharmed g start final → ⊥)
      → g.passed final ≤ counted n (g.passed start) → g.passed final ≤ counted (let_through (stop_after stop) (n + 0)) (g.passed start) → (open_status e ≡ NoMemory → Only (g.bytes final) (g.may_leave final))
      → (stop ≡ None → StopsOnlyOpening g n start final) → IsPlayed g stop n c events start final by told before before
  ends_unopened stop events e by start final told before is outside moments behind left now restarts same harm few most only first =
      let early = λ (done : by ≡ Done). open_not_done e (sym is ∙ done) in
      let calls = unopened_calls (stop_after stop) n (g.passed start) (g.passed final) (Unharmed g start final) e by is outside same harm in
      record {
        run = record { made = []; behind = events; parts = refl; core = c; last = inl refl; limits = limits_law c stored_running.reached refl [] tt c; done = λ done. absurd (early done); in_place = none_in_place (stop_after stop) n c };
        exact = λ u. exact_unopened (stop_after stop) n c;
        disk = record {
          opened = final;
          opening = moments;
          here = left;
          passed = λ u some. absurd (some refl);
          few = few;
          restarts = restarts;
          still = λ some. absurd (some refl);
          stopped = final;
          steps = (refl, refl);
          rest = begins g.moment g.left_since final (IsCommitPrefix c) (λ image since. left image (now image since));
          kept = left;
          outside = behind;
        };
        counts = calls.0;
        opens = calls.1;
        calls = calls.2;
        most = most;
        replies = refl;
        prints = record {
          count = 0;
          least = let same : commits_on_disk c ≡ c.before = rolled_commits stored.heap stored.legal.log.shaped in omega (arith, same);
          most = omega arith;
          all = λ none. refl;
          behind = nothing_follows g stop c final by told before early;
          written = λ t. record {
            front = none_written before (end_text (stop_after stop) 0 stored.graph);
            lines = ([], [], [], refl, omega arith, sym (append-nil (before ++ []) ∙ append-nil before));
            fault = λ fault. sym (append-nil before);
            whole = λ done. absurd (early done);
          };
        };
        no_first_stop = λ none empty. first none;
        faulted = λ cut. absurd (none_cut (Refused DiskFault) c c cut);
        durable = λ done. absurd (early done);
        settled = λ other free. only (outside_memory e outside (λ fault. other (is ∙ fault)));
        end = subst IsEndOfPlay (sym is) (open_end e outside);
      }

  -- The disk after the last event was restarted, and what came back printed, or nothing was.
  module _ (stop : Stop) (stopped final : D) (k : ℕ) (by : Status) (told : Bool) (before after : List ℕ) where
    abbrev opens : Type 0
    opens = StartsAgain g stop.again c k (Reopens g c k) stopped final

    abbrev fails : Type 0
    fails = EndsUnopened g stop.again c k stopped final by

    found_unplayed : lasting c ≤ k → k ≤ 0 → WroteRecovered c k opens by told before after → Prints g (Some stop) c stopped final by told before after
    found_unplayed least most found = record {
      count = k;
      least = least;
      most = most;
      all = λ none. cc;
      behind = inl (found.opened, found.sound);
      written = λ t. all_writes [] before before by (end_text (Some stop.after) k (serial stored.graph (take k []))) after found.sound (sym (append-nil before)) (found.written t) (found.whole t);
    }

    nothing_unplayed : lasting c ≤ k → k ≤ 0 → WroteNothing fails by told before after → Prints g (Some stop) c stopped final by told before after
    nothing_unplayed least most nothing =
        let out = λ (t : IsTrue told). nothing.nothing t ∙ sym (append-nil before) in
        record {
          count = k;
          least = least;
          most = most;
          all = λ none. cc;
          behind = inr (nothing.failed, nothing.early, λ t. whole_front before [] after (out t));
          written = λ t. some_writes [] before after by (end_text (Some stop.after) k (serial stored.graph (take k []))) after nothing.early (whole_front before [] after (out t))
              (lines_more [] before before after [] (sym (append-nil before)) (out t)) (λ is. out t);
        }

    -- The disk stopped in the opening: no event was made.
    pub ends_stopped : (events : List Event) (start : D) → LeavesOnly g.moment g.left_since start stopped (IsCommitPrefix c) → ((image : List ℕ) → g.may_leave stopped image → IsCommitPrefix c image)
        → LeavesOnly g.moment g.left_since stopped final (IsCommitPrefix c) → LeavesOnly g.moment g.left_since start final (SameBehind c (g.bytes start)) → g.restarts stopped ≡ g.restarts start → stop.after < n
        → g.passed stopped ≤ counted stop.after (g.passed start) → (Unharmed g start stopped → g.passed stopped ≡ counted stop.after (g.passed start))
        → Recovers c k opens fails (g.bytes final) (g.may_leave final) by told before after
        → IsPlayed g (Some stop) n c events start final by told before after
    ends_stopped events start moments left rest behind restarts less most exact recovers =
        let through : min stop.after (n + 0) ≡ stop.after = omega arith in
        let more = counted_mono stop.after n (g.passed start) (omega arith) in
        record {
          run = record { made = []; behind = events; parts = refl; core = c; last = inl refl; limits = limits_law c stored_running.reached refl [] tt c; done = λ done. inr (less, refl); in_place = none_in_place (Some stop.after) n c };
          exact = λ u. inr (inr (less, refl));
          disk = record {
            opened = stopped;
            opening = moments;
            here = left;
            passed = λ u some. absurd (some refl);
            few = omega (arith, most, more);
            restarts = restarts;
            still = λ some. absurd (some refl);
            stopped = stopped;
            steps = (refl, refl);
            rest = rest;
            kept = λ image may. (k, recovers.kept image may);
            outside = behind;
          };
          counts = n;
          opens = inl refl;
          calls = λ u. exact u ∙ ap (λ (m : ℕ). counted m (g.passed start)) (sym through);
          most = subst (λ (m : ℕ). g.passed stopped ≤ counted m (g.passed start)) (sym through) most;
          replies = refl;
          prints = ⊎_elim (found_unplayed recovers.least recovers.most) (nothing_unplayed recovers.least recovers.most) recovers.found;
          no_first_stop = λ none. let never : Some stop ≡ None = none in absurd (cc never);
          faulted = λ cut. absurd (none_cut (Refused DiskFault) c c cut);
          durable = λ done. recovered_only g stop.again c k stopped final by told before after recovers.found done;
          settled = λ other free. recovers.settled other;
          end = recovers.end;
        }

-- What is opened on any disk is a core that runs, whatever its graph.
pub record IsNew (from : StoredHeap → (ℕ → ℕ) → Type 0) (c : Core) : Type 0 where
  pub running : IsRunning c
  pub nothing : c.history ≡ []
  pub opened : IsOpened c
  pub image : from opened.heap opened.gates

opened_as : {D : Type 0} {g : Ghosts D} (from : StoredHeap → (ℕ → ℕ) → Type 0) (heap : Heap D g) (stored : StoredHeap) (gates : ℕ → ℕ) (shaped : IsShapedLog stored)
    → from stored gates → ((born : Bool) (places : Places) (graph : Graph) → IsFound stored shaped born places graph → IsCore (opened stored gates born places graph) heap)
    → (c : Core) × IsNew from c × IsCore c heap
opened_as from heap stored gates shaped image is =
    let found = address_found stored shaped in
    let c = opened stored gates false found.0 found.1 in
    let running : IsRunning c = record { reached = opened_reached stored shaped gates false found.0 found.1 found.2; unfailed = refl } in
    let new : IsOpened c = record { heap = stored; gates = gates; shaped = shaped; born = false; places = found.0; graph = found.1; found = found.2; is = refl } in
    (c, record { running = running; nothing = refl; opened = new; image = image }, is false found.0 found.1 found.2)

pub opened_core : {D : Type 0} {g : Ghosts D} (tells : Bool) (bytes : List ℕ) (heap : Heap D g)
    → (stored : StoredHeap) × (gates : ℕ → ℕ) × (shaped : IsShapedLog stored)
    × ((born : Bool) (places : Places) (graph : Graph) → IsFound stored shaped born places graph → IsCore (opened stored gates born places graph) heap)
    → (IsTrue tells → (stored : StoredHeap) × (shaped : IsShaped stored bytes)
    × ((born : Bool) (places : Places) (graph : Graph) → IsFound stored shaped.log born places graph → IsCore (opened stored (open_gates stored.super.log_bytes bytes) born places graph) heap))
    → (c : Core) × IsNew (IsOfImage tells bytes) c × IsCore c heap
opened_core true bytes heap any own = let is = own cc in opened_as (IsOfImage true bytes) heap is.0 (open_gates is.0.super.log_bytes bytes) is.1.log (λ t. (is.1, refl)) is.2
opened_core false bytes heap is own = opened_as (IsOfImage false bytes) heap is.0 is.1 is.2 (λ told. absurd (false≢true told)) is.3

-- it has not failed
pub opened_unfailed : {D : Type 0} {g : Ghosts D} (heap : Heap D g) {from : StoredHeap → (ℕ → ℕ) → Type 0} (c : Core) → IsNew from c → IsCore c heap → failed_at heap ≡ None
opened_unfailed heap c new is = is.memory.failure ∙ new.running.unfailed

-- nor has it after a play that made all events
pub played_unfailed : {D : Type 0} {g : Ghosts D} (c : Core) (lines : List Line) (heap : Heap D g) (told : Bool) (before after : List ℕ) → IsRunning c → IsScript lines
    → PlaysCore c (all_events None c (events lines)) heap told before after (Ok tt) → failed_at heap ≡ None
played_unfailed c lines heap told before after running is plays =
    let es = all_events None c (events lines) in
    let same : es ≡ plays.made = plays.parts ∙ ap (λ (l : List Event). plays.made ++ l) plays.ends.0 ∙ append-nil plays.made in
    let whole : plays.core ≡ after_events c es = subst (λ (l : List Event). plays.core ≡ after_events c l) (sym same) plays.ends.1 in
    let after_all = running_after c es (record { running = running; sessions = (all_playable None c lines is).sessions }) in
    plays.is.memory.failure ∙ ap (λ (x : Core). (account x.history).failed) whole ∙ after_all.unfailed
