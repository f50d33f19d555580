-- How a stopped run ends: the heap is opened again, and what came back is printed.
use Rattle.std.proofs.Common.{◌≡◌, ◌≢◌, inl, inr, ⊎_elim, ℕ, ◌+◌, ◌≤◌, ◌<◌, min, List, [], ◌∷◌, ◌++◌, length, take, Bool, Option, Some, None, Result, refl, sym, ap, ◌∙◌, subst, arith, length-append}
use Rattle.std.specs.Int.{w32, to_le_bytes}
use Rattle.std.specs.Prelude.{◌⊎◌, IsTrue}
use Rattle.counts.specs.Count.{Rose, greatest, counted}
use Rattle.disk_model.specs.declared.disk.Disk.{Ghosts}
use Rattle.disk_model.specs.declared.disk.DiskError.{DiskError}
use Rattle.disk_model.specs.declared.disk.DiskError.TheVariants as device
use Rattle.disk_model.specs.Moments.{LeavesOnly}
use Rattle.disk_model.proofs.MomentLaws.{weaker}
use Rattle.disk_model.specs.Disk.{Only, HasCause}
use Rattle.gate_slot.specs.Passing.{Passes}
use Rattle.gated_log.specs.Log.{batch, batches_bytes, records_of}
use Rattle.graph_model.specs.declared.reply.Entry.{Entry}
use Rattle.graph_model.specs.Transaction.{serial}
use Rattle.graph_model.specs.History as history
use Rattle.log_records.specs.declared.Record.{Record}
use Rattle.log_records.specs.declared.Record.TheVariants.{Commit}
use Rattle.log_records.specs.Record.{spelling, spellings}
use Rattle.log_records.proofs.RecordLaws.{some_spelling}
use Rattle.log_machine.specs.Machine.{commits}
use Rattle.log_machine.proofs.MachineLaws.{commits-append}
use Rattle.log_machine.proofs.StateLaws.{commits-start}
use Rattle.heap_core.specs.Causes.{recovery_error}
use Rattle.heap_core.specs.declared.errors.OpenError.{OpenError}
use Rattle.heap_core.specs.declared.errors.OpenError.TheVariants as opening
use Rattle.heap_program.specs.declared.output.WriteError.{WriteError}
use Rattle.heap_program.specs.declared.status.Status.{Status}
use Rattle.heap_program.specs.declared.status.Status.TheVariants.{NoMemory, DiskFault}
use Rattle.heap_model.specs.Core.{Core, force_calls}
use Rattle.heap_model.specs.CoreCrash.{StandsForFirst}
use Rattle.heap_model.specs.Image.{StoredHeap, IsLegalLog, IsLegal, records_in}
use Rattle.heap_model.proofs.Opening.Held.{left_first}
use Rattle.heap_model.proofs.Opening.Rolled.{commits_are}
use Rattle.heap_model.specs.Opening.{commits_of, IsLeftByOpening}
use Rattle.heap_recovery.specs.Faults.{IsLogLeft}
use Rattle.heap_program.specs.Causes.{DiskRose}
use Rattle.heap_program.specs.Headline.{recovered_line, graph_text, IsEndOfPlay, IsOfDisk, KeepsFirst, calls_to_open, Reopens, FailsToOpen, Restarts, IsCutBefore, StartsAgain, EndsUnopened}
use Rattle.heap_program.specs.Output.{IsBefore, commits_since, WroteText, Recovers, WroteRecovered, WroteNothing, status_after}
use Rattle.heap_program.specs.StatusOf.{open_status}
use Rattle.heap_program.proofs.Causes.{disk_rose}
use Rattle.heap_program.proofs.Counts.{counted-sum}
use Rattle.heap_program.proofs.PlayFuse.{rose_some}
use Rattle.heap_program.proofs.Behind.{opening_behind}
use Rattle.heap_program.proofs.PlayOpen.{opening_then}
use Rattle.heap_program.proofs.Reopened.{outside_memory}
use Rattle.heap_program.proofs.Statuses.{written_end, written_sound, wrote_all, open_end, open_not_done}
use Rattle.heap_program.proofs.Written.{wrote_some}
use Rattle.heap_recovery.specs.Recovered.{IsFromOutside, ErrorPasses}
use Rattle.heap_recovery.specs.Causes.{error_device}

-- Commits take bytes of the log, so they can be counted.
few_of_one : (r : Record) → commits (r ∷ []) ≤ 1
few_of_one (Commit t) = omega arith
few_of_one r = omega arith

few_in : (rs : List Record) → commits rs ≤ length (spellings rs)
few_in [] = omega arith
few_in (r ∷ rs) =
    let both : commits (r ∷ rs) ≡ commits (r ∷ []) + commits rs = commits-append (r ∷ []) rs in
    let one = few_of_one r in
    let more = few_in rs in
    let some = some_spelling r in
    let long = length-append (spelling r) (spellings rs) in
    omega arith

few_in_batches : (bs : List (List Record)) → commits (records_of bs) ≤ length (batches_bytes bs)
few_in_batches [] = omega arith
few_in_batches (b ∷ bs) =
    let both : commits (records_of (b ∷ bs)) ≡ commits b + commits (records_of bs) = commits-append b (records_of bs) in
    let one = few_in b in
    let more = few_in_batches bs in
    let long = length-append (batch b) (batches_bytes bs) in
    let inside = length-append (to_le_bytes w32 (length (spellings b))) (spellings b) in
    omega arith

pub few_commits : (stored : StoredHeap) → IsLegalLog stored → commits_of stored ≤ 1073741824
few_commits stored legal =
    let few = few_in_batches stored.batches in
    let are = commits_are stored legal.shaped in
    let all = commits-start stored.super.pages stored.super.first legal.shaped.state (records_in stored) legal.shaped.reached in
    let room = legal.shaped.room in
    let small = legal.shaped.limits.small_log in
    omega arith

-- The commits since a core's opening: leaving out those before leaves k of them.
pub since_before : (before : Option ℕ) (c : Core) (n k : ℕ) → IsBefore before c → n ≡ c.before + k → k ≤ length (history.commits c.history) → n ≤ 1073741824 → commits_since before (min (n + 0) greatest) ≡ k
since_before None c n k same count most few =
    let none : length (history.commits c.history) ≡ 0 = ap (λ (h : List Entry). length (history.commits h)) same in
    omega arith
since_before (Some before) c n k same count most few = omega arith

-- Why an opening of a legal image fails.
fails_reason : (f s f' s' : ℕ) (e : OpenError) → IsFromOutside (recovery_error e) → HasCause {T = Unit {0}} f f' s s' (error_device (recovery_error e)) → (open_status e ≡ NoMemory) ⊎ ((open_status e ≡ DiskFault) × DiskRose f s f' s')
fails_reason f s f' s' opening.NoMemory outside cause = inl refl
fails_reason f s f' s' opening.NotHeap outside cause = absurd outside
fails_reason f s f' s' (opening.Damaged at) outside cause = absurd outside
fails_reason f s f' s' opening.DiskFault outside cause = inr (refl, disk_rose f s f' s' (error_device (recovery_error opening.DiskFault)) device.Failed cause refl)
fails_reason f s f' s' opening.Stopped outside cause = inr (refl, disk_rose f s f' s' (error_device (recovery_error opening.Stopped)) device.Stopped cause refl)

-- It made no more calls than one that succeeds.
pub fails_most : (n before now : ℕ) (e : OpenError) → ErrorPasses n before now (recovery_error e) → (k : ℕ) × (k ≤ n) × (now ≡ counted k before)
fails_most n before now opening.NoMemory passes = (0, omega arith, passes)
fails_most n before now opening.NotHeap passes = passes.some
fails_most n before now (opening.Damaged at) passes = passes.some
fails_most n before now opening.DiskFault passes = passes.some
fails_most n before now opening.Stopped passes = passes.some

pub fails_none : (n before now : ℕ) (e : OpenError) → open_status e ≡ NoMemory → ErrorPasses n before now (recovery_error e) → now ≡ before
fails_none n before now opening.NoMemory is passes = passes
fails_none n before now opening.NotHeap is passes = cc
fails_none n before now (opening.Damaged at) is passes = cc
fails_none n before now opening.DiskFault is passes = cc
fails_none n before now opening.Stopped is passes = cc

-- the legal image in one of first commits
abbrev pub legal_of : {c : Core} {k : ℕ} {image : List ℕ} → (first : StandsForFirst c k image) → IsLegal first.stands.stored image
legal_of first = record { log = first.stands.says.legal; held = first.stands.held }

module _ {D : Type 0} (g : Ghosts D) (c : Core) (k : ℕ) (old new : D) (first : StandsForFirst c k (g.bytes old)) where
  -- what an opening may leave of it
  abbrev pub Left : List ℕ → Type 0
  Left = IsLeftByOpening first.stands.stored

  -- the bytes of its log, and all others as they were
  abbrev pub LogLeft : List ℕ → Type 0
  LogLeft = IsLogLeft first.stands.stored (g.bytes old)

  -- it keeps the commits
  abbrev pub keeps_first : LeavesOnly g.moment g.left_since old new Left → LeavesOnly g.moment g.left_since old new LogLeft → ((left : List ℕ) → g.may_leave new left → Left left) → g.restarts new ≡ g.restarts old → KeepsFirst g c k old new
  keeps_first moments log leaves restarts = record {
    first = first;
    moments = weaker g.moment g.left_since old new Left (StandsForFirst c k) moments (left_first c k (g.bytes old) first);
    outside = opening_behind g c first.stands.stored (g.bytes old) old new first.of log;
    still = λ left may. left_first c k (g.bytes old) first left (leaves left may);
    restarts = restarts;
  }

-- What an opening that failed says.
pub fails_to_open : {D : Type 0} (g : Ghosts D) (c : Core) (k : ℕ) (old new : D) (keeps : KeepsFirst g c k old new) (e : OpenError) → IsFromOutside (recovery_error e)
    → HasCause {T = Unit {0}} (g.faults old) (g.faults new) (g.stops old) (g.stops new) (error_device (recovery_error e)) → ErrorPasses (calls_to_open g keeps.first) (g.passed old) (g.passed new) (recovery_error e)
    → (open_status e ≡ NoMemory → Only (g.bytes new) (g.may_leave new)) → FailsToOpen g c k (open_status e) old new
fails_to_open g c k old new keeps e outside cause passes only = record {
  reason = fails_reason (g.faults old) (g.stops old) (g.faults new) (g.stops new) e outside cause;
  keeps = keeps;
  most = fails_most (calls_to_open g keeps.first) (g.passed old) (g.passed new) e passes;
  none = λ refused. fails_none (calls_to_open g keeps.first) (g.passed old) (g.passed new) e refused passes;
  only = only;
}

module _ {D : Type 0} (g : Ghosts D) (c : Core) (k : ℕ) (old new : D) (keeps : KeepsFirst g c k old new) where
  -- it couldn't be opened
  pub recovers_nothing : (opens : Type 0) (e : OpenError) (s : Status) (told : Bool) (before : List ℕ) → IsFromOutside (recovery_error e) → s ≡ open_status e
      → HasCause {T = Unit {0}} (g.faults old) (g.faults new) (g.stops old) (g.stops new) (error_device (recovery_error e)) → ErrorPasses (calls_to_open g keeps.first) (g.passed old) (g.passed new) (recovery_error e)
      → (open_status e ≡ NoMemory → Only (g.bytes new) (g.may_leave new)) → Recovers c k opens (FailsToOpen g c k s old new) (g.bytes new) (g.may_leave new) s told before before
  recovers_nothing opens e s told before outside is cause passes only = record {
    end = subst IsEndOfPlay (sym is) (open_end e outside);
    least = omega (arith, keeps.first.kept, keeps.first.forced);
    most = keeps.first.some;
    kept = keeps.still;
    settled = λ other. only (outside_memory e outside (λ fault. other (is ∙ fault)));
    found = inr (record {
      failed = subst (λ (x : Status). FailsToOpen g c k x old new) (sym is) (fails_to_open g c k old new keeps e outside cause passes only);
      early = λ done. open_not_done e (sym is ∙ done);
      nothing = λ t. refl;
    });
  }

  -- it was opened, and what came back printed, as far as the sink took it
  pub recovers_first : (fails : Type 0) (r : Result (Unit {0}) WriteError) (s : Status) (told : Bool) (before after : List ℕ) → s ≡ status_after r → g.passed new ≡ counted (calls_to_open g keeps.first) (g.passed old) → Only (g.bytes new) (g.may_leave new)
      → (IsTrue told → WroteText r before (recovered_line k ++ graph_text (serial c.g0 (take k (history.commits c.history)))) after) → Recovers c k (Reopens g c k old new) fails (g.bytes new) (g.may_leave new) s told before after
  recovers_first fails r s told before after is passes only wrote = record {
    end = subst IsEndOfPlay (sym is) (written_end r);
    least = omega (arith, keeps.first.kept, keeps.first.forced);
    most = keeps.first.some;
    kept = keeps.still;
    settled = λ other. only;
    found = inl (record {
      opened = record { keeps = keeps; passed = passes; only = only };
      sound = λ d. written_sound r (subst IsOfDisk is d);
      written = λ t. wrote_some r before _ after (wrote t);
      whole = λ t done. wrote_all r before _ after (sym is ∙ done) (wrote t);
    });
  }

-- What is said of the last opening is said of the disk as it was stopped.
pub recovers_again : {D : Type 0} (g : Ghosts D) (again : Option ℕ) (c : Core) (k : ℕ) (stopped first last new : D) (by : Status) (told : Bool) (before after : List ℕ) → Restarts g stopped first → IsCutBefore g again c k first last
    → Recovers c k (Reopens g c k last new) (FailsToOpen g c k by last new) (g.bytes new) (g.may_leave new) by told before after
    → Recovers c k (StartsAgain g again c k (Reopens g c k) stopped new) (EndsUnopened g again c k stopped new by) (g.bytes new) (g.may_leave new) by told before after
recovers_again {D} g again c k stopped first last new by told before after started cut recovers = record {
  end = recovers.end;
  least = recovers.least;
  most = recovers.most;
  kept = recovers.kept;
  settled = recovers.settled;
  found = ⊎_elim
      (λ (found : WroteRecovered c k (Reopens g c k last new) by told before after). inl (record { opened = starts (Reopens g c k) found.opened; sound = found.sound; written = found.written; whole = found.whole }))
      (λ (none : WroteNothing (FailsToOpen g c k by last new) by told before after). inr (record { failed = unopened again (starts (FailsToOpen g c k by) none.failed); early = none.early; nothing = none.nothing }))
      recovers.found;
}
  where
    starts : (opening : D → D → Type 0) → opening last new → StartsAgain g again c k opening stopped new
    starts opening outcome = record { first = first; started = started; last = last; cut = cut; outcome = outcome }

    unopened : (o : Option ℕ) → StartsAgain g o c k (FailsToOpen g c k by) stopped new → EndsUnopened g o c k stopped new by
    unopened None fails = inr fails
    unopened (Some m) fails = inr (inl fails)

-- An opening that was to be cut off had no memory: nothing was written.
pub recovers_no_memory : {D : Type 0} (g : Ghosts D) (m : ℕ) (c : Core) (k : ℕ) (stopped first new : D) (told : Bool) (before : List ℕ) → Restarts g stopped first → FailsToOpen g c k NoMemory first new
    → Recovers c k (StartsAgain g (Some m) c k (Reopens g c k) stopped new) (EndsUnopened g (Some m) c k stopped new NoMemory) (g.bytes new) (g.may_leave new) NoMemory told before before
recovers_no_memory g m c k stopped first new told before started fails = record {
  end = tt;
  least = omega (arith, fails.keeps.first.kept, fails.keeps.first.forced);
  most = fails.keeps.first.some;
  kept = fails.keeps.still;
  settled = λ other. fails.only refl;
  found = inr (record {
    failed = inr (inr (refl, record { first = first; started = started; last = first; cut = refl; outcome = fails }));
    early = λ done. cc;
    nothing = λ t. refl;
  });
}

-- an opening makes no more calls than a force
pub few_to_open : (rs : List Record) → force_calls rs ≤ 4
few_to_open [] = omega arith
few_to_open (r ∷ rs) = omega arith

-- from none on, an opening of n counts as many
pub whole_count : (n now : ℕ) → n ≤ 4 → now ≡ counted n 0 → now ≡ n
whole_count n now few all = let same = counted-sum n 0 (omega arith) in omega (arith, same, all)

-- one that fails no more
pub fails_few : (n now : ℕ) → n ≤ 4 → (e : OpenError) → ErrorPasses n 0 now (recovery_error e) → now ≤ n
fails_few n now few e passes = let some = fails_most n 0 now e passes in let same = counted-sum some.0 0 (omega (arith, some.1)) in omega (arith, same, some.1, some.2)

-- an opening that makes none takes nothing back
pub no_rollback : (rs : List Record) → force_calls rs ≡ 0 → rs ≡ []
no_rollback [] none = refl
no_rollback (r ∷ rs) none = cc

-- and one that is stopped fewer
pub stops_before : (n now : ℕ) → n ≤ 4 → (n ≡ 0 → ⊥) → (e : OpenError) → e ≡ opening.Stopped → ErrorPasses n 0 now (recovery_error e) → now < n
stops_before n now few any e is passes =
    let stopped = subst (λ x. ErrorPasses n 0 now (recovery_error x)) is passes in
    let some : 0 < n = omega (arith, any) in
    let short = stopped.stopped refl some in
    let same = counted-sum short.0 0 (omega (arith, short.1)) in
    omega (arith, same, short.1, short.2)

-- How many calls a disk lets through that stops after m, in an opening of n that succeeds, and in one that does not.
pub whole_passes : (m n now : ℕ) → n ≤ 4 → now ≤ m → now ≡ counted n 0 → now ≡ min m n
whole_passes m n now few within all = let same = counted-sum n 0 (omega arith) in omega (arith, same, all)

module _ (m n now : ℕ) (few : n ≤ 4) (within : now ≤ m) where
  few_of : (answer : Result (Unit {0}) DiskError) → Passes n 0 now answer → now ≤ n
  few_of answer passes = let some = passes.some in let same = counted-sum some.0 0 (omega (arith, some.1)) in omega (arith, same, some.1, some.2)

  pub error_cut : (faults faults' stops stops' : ℕ) (e : OpenError) → (stops' ≢ 0 → now ≡ m) → HasCause {T = Unit {0}} faults faults' stops stops' (error_device (recovery_error e)) → IsFromOutside (recovery_error e) → (e ≢ opening.NoMemory)
      → ErrorPasses n 0 now (recovery_error e) → (now ≤ min m n) × ((Rose faults faults' → ⊥) → now ≡ min m n)
  error_cut faults faults' stops stops' opening.NoMemory at cause outside other passes = absurd (other refl)
  error_cut faults faults' stops stops' opening.NotHeap at cause outside other passes = absurd outside
  error_cut faults faults' stops stops' (opening.Damaged at_place) at cause outside other passes = absurd outside
  error_cut faults faults' stops stops' opening.DiskFault at cause outside other passes =
      let some = few_of (error_device (recovery_error opening.DiskFault)) passes in
      (omega arith, λ unharmed. absurd (unharmed (cause.failed refl)))
  error_cut faults faults' stops stops' opening.Stopped at cause outside other passes =
      let some = few_of (error_device (recovery_error opening.Stopped)) passes in
      let blown = at (rose_some stops stops' cause.stops_kept (cause.stopped refl)) in
      (omega arith, λ unharmed. omega arith)

-- A restart leaves what the disk could leave before,
module _ {D : Type 0} (g : Ghosts D) (P : List ℕ → Type 0) where
  pub restart_keeps : (old new : D) → Restarts g old new → ((image : List ℕ) → g.may_leave old image → P image) → LeavesOnly g.moment g.left_since old new P
  restart_keeps old new started leaves = weaker g.moment g.left_since old new (g.may_leave old) P started.moments leaves

  -- and so does what follows it, if an opening keeps that.
  pub keeps_then : (old mid new : D) → LeavesOnly g.moment g.left_since old mid P → LeavesOnly g.moment g.left_since mid new P → LeavesOnly g.moment g.left_since old new P
  keeps_then old mid new before behind = opening_then g.moment g.left_since old mid new P P before behind (λ image keep. keep)
