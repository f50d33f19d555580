-- One event of a play.
use Rattle.std.proofs.Common.{◌≡◌, inl, inr, ⊎_elim, ℕ, ◌+◌, Bool, true, false, List, [], ◌∷◌, ◌++◌, Option, None, Some, Result, Ok, Err, refl, sym, ap, ◌∙◌, subst, arith}
use Rattle.std.specs.Prelude.{IsTrue, if◌then◌else◌}
use Rattle.counts.specs.Count.{counted}
use Rattle.disk_model.specs.declared.disk.Disk.{Ghosts}
use Rattle.disk_model.specs.Keeps.{KeepsDisk}
use Rattle.disk_model.specs.Moments.{LeavesOnly}
use Rattle.gate_slot.specs.Passing.{Passes}
use Rattle.graph_model.specs.declared.event.Event.{Event}
use Rattle.graph_model.specs.declared.event.Event.TheVariants.{Flip, Flush, Scan}
use Rattle.graph_model.specs.declared.reply.Refusal.TheVariants.{DiskFault, Stopped}
use Rattle.graph_model.specs.declared.reply.Reply.{Reply}
use Rattle.graph_model.specs.declared.reply.Reply.TheVariants.{Flushed, Clean, Refused}
use Rattle.graph_model.specs.History.{account}
use Rattle.graph_model.proofs.Refusals.Plain.{IsSoundReply, granted_sound, sound_either}
use Rattle.graph_model.specs.Text.{line}
use Rattle.image_plan.specs.declared.superblock.Super.{Super}
use Rattle.heap_core.specs.declared.heap.Heap.{Heap}
use Rattle.heap_program.specs.declared.play.Halt.TheVariants as halt
use Rattle.heap_program.specs.declared.output.WriteError.{WriteError}
use Rattle.heap_core.specs.Causes.{reply_device}
use Rattle.log_machine.specs.Machine.{State}
use Rattle.log_records.specs.declared.Record.{Record}
use Rattle.heap_spaces.specs.Collection.{Collection}
use Rattle.heap_model.specs.Collecting.{flip_reply, next_page, scan_reply, scan_reply_in}
use Rattle.heap_model.specs.Core.{Core, ground, own_records, next_number, is_dirty, granted_by, answer, with_entry, after, IsCutShort, IsStep, calls, cut}
use Rattle.heap_model.proofs.Run.Calls.{step_history}
use Rattle.heap_model.proofs.Step.Step.{core_refusal-HasNoFault}
use Rattle.heap_core.specs.Refinement.{IsLeftByStep, DiskHolds, IsCore, IsHeap}
use Rattle.heap_program.proofs.Ready.{AreReady}
use Rattle.heap_program.specs.Play.{MakesAll, MakesShort, Makes, Ends, Plays, ended_by, WroteFront}
use Rattle.heap_program.specs.StatusOf.{write_halt}
use Rattle.heap_program.specs.declared.output.WriteError.TheVariants as writing
use Rattle.disk_model.specs.declared.disk.DiskError.{DiskError}
use Rattle.heap_program.proofs.Unfaulted.{keeps_counts}
use Rattle.heap_core.proofs.StepsLaws.{one_steps}
use Rattle.heap_program.proofs.Lines.{nothing_since, one_since, part_since}

-- a reply that reports no fault of the disk
pub sound_device : (reply : Reply) → IsSoundReply reply → (reply_device reply ≡ Ok tt) × (ended_by reply ≡ Ok tt)
sound_device (Refused DiskFault) sound = absurd sound
sound_device (Refused Stopped) sound = absurd sound
sound_device reply sound = (refl, refl)

-- what an event is answered that isn't refused, also where it is a flush
flush_sound : (dirty : Bool) (p : ℕ) → IsSoundReply (if dirty then Flushed p else Clean p)
flush_sound true p = tt
flush_sound false p = tt

flip_sound : (records : List Record) → IsSoundReply (flip_reply records)
flip_sound [] = tt
flip_sound (rec ∷ more) = tt

scan_sound_in : (s : State) (records : List Record) (o : Option Collection) (page : Option ℕ) → IsSoundReply (scan_reply_in s records o page)
scan_sound_in s records None page = tt
scan_sound_in s records (Some k) None = tt
scan_sound_in s records (Some k) (Some page) = tt

scan_sound : (o : Option State) (records : List Record) → IsSoundReply (scan_reply o records)
scan_sound None records = tt
scan_sound (Some s) records = scan_sound_in s records s.collection (next_page s.collection)

granted_by_sound : (c : Core) (event : Event) → IsSoundReply (granted_by c event)
granted_by_sound c Flip = flip_sound (own_records c Flip)
granted_by_sound c Scan = scan_sound (ground c).state (own_records c Scan)
granted_by_sound c (Flush p) = flush_sound (is_dirty c p) p
granted_by_sound c event = granted_sound (next_number c) c.g0 (account c.history) event

pub answer_sound : (c : Core) (event : Event) → IsSoundReply (answer c event)
answer_sound c event = sound_either _ _ (core_refusal-HasNoFault c event) (granted_by_sound c event)

-- the reply of a disk that did what it was asked lets a play continue
pub whole_reply : (c : Core) (event : Event) (reply : Reply) → reply ≡ answer c event → ended_by reply ≡ Ok tt
whole_reply c event reply is = (sound_device reply (subst IsSoundReply (sym is) (answer_sound c event))).1

one_call : (n m k : ℕ) → n ≡ counted m k → n ≡ counted (m + 0) k
one_call n m k e = let same : m ≡ m + 0 = omega arith in e ∙ ap (λ (i : ℕ). counted i k) same

module _ {D : Type 0} {g : Ghosts D} (s : Super) (c d : Core) (event : Event) (reply : Reply) (old new : Heap D g) (ready : AreReady c (event ∷ [])) (step : IsStep c event reply d)
    (keeps : KeepsDisk g old.disk new.disk (reply_device reply)) (passes : Passes (calls c event) (g.passed old.disk) (g.passed new.disk) (reply_device reply))
    (moments : LeavesOnly g.moment g.left_since old.disk new.disk (IsLeftByStep (cut c event) (g.bytes old.disk))) (heap : IsHeap s d new) where
  abbrev one : List Event
  one = event ∷ []

  abbrev own : List ℕ
  own = line (record { event = event; reply = reply })

  whole_ends : reply ≡ answer c event → d ≡ after c event → (ended_by reply ≡ Ok tt) × MakesAll c one d old new
  whole_ends replied reached =
      let sound = sound_device reply (subst IsSoundReply (sym replied) (answer_sound c event)) in
      let P : Result (Unit {0}) _ → Type 0 = λ r. Passes (calls c event) (g.passed old.disk) (g.passed new.disk) r in
      (sound.1, record { reached = reached; passes = one_call _ (calls c event) _ (subst P sound.0 passes).ok; still = keeps_counts g old.disk new.disk tt (subst (λ (r : Result (Unit {0}) DiskError). KeepsDisk g old.disk new.disk r) sound.0 keeps) })

  short_ends : IsCutShort c event reply → d ≡ with_entry c event reply → MakesShort c one d old new reply
  short_ends cut reached = record {
    before = [];
    event = event;
    parts = refl;
    cut = cut;
    reached = reached;
    cause = keeps.cause;
    passes = λ stopped.
        let short = passes.stopped (ap reply_device stopped) cut.some in
        let same : short.0 ≡ 0 + short.0 = omega arith in (short.0, short.1, short.2 ∙ ap (λ (i : ℕ). counted i (g.passed old.disk)) same);
    most = let some = passes.some in let same : some.0 ≡ 0 + some.0 = omega arith in (some.0, some.1, some.2 ∙ ap (λ (i : ℕ). counted i (g.passed old.disk)) same);
  }

  told_ends : IsCutShort c event reply → MakesShort c one d old new reply → Ends c one [] d old new (ended_by reply)
  told_ends cut short = ⊎_elim
      (λ (is : reply ≡ Refused DiskFault).
      let P : Reply → Type 0 = λ r. MakesShort c one d old new r → Ends c one [] d old new (ended_by r) in
      subst P (sym is) (λ m. m) short)
      (λ (is : reply ≡ Refused Stopped).
      let P : Reply → Type 0 = λ r. MakesShort c one d old new r → Ends c one [] d old new (ended_by r) in
      subst P (sym is) (λ m. m) short)
      cut.told

  -- the event's reply says how the play continues
  pub one_ends : Ends c one [] d old new (ended_by reply)
  one_ends = ⊎_elim
      (λ (whole : (reply ≡ answer c event) × (d ≡ after c event)).
      let is = whole_ends whole.0 whole.1 in
      subst (Ends c one [] d old new) (sym is.0) (refl, is.1))
      (λ (cut : IsCutShort c event reply × (d ≡ with_entry c event reply)). told_ends cut.0 (short_ends cut.0 cut.1))
      step

  pub one_makes : Makes c one d old new
  one_makes = ⊎_elim
      (λ (whole : (reply ≡ answer c event) × (d ≡ after c event)). inl (whole_ends whole.0 whole.1).1)
      (λ (cut : IsCutShort c event reply × (d ≡ with_entry c event reply)). inr (reply, short_ends cut.0 cut.1))
      step

  -- the event was made and its line written
  pub plays_one : (told : Bool) (before after : List ℕ) → (IsTrue told → after ≡ before ++ own) → Plays s c one old new told before after (ended_by reply)
  plays_one told before after wrote = record {
    made = one;
    behind = [];
    parts = refl;
    core = d;
    steps = one_steps s c d event reply old new ready.running.reached ready.sessions.0 step keeps passes moments heap;
    ends = one_ends;
    heap = heap;
    written = λ t. one_since c.history d.history event reply before after (step_history c d event reply step) (wrote t);
  }

  unwritten_ends : (e : WriteError) → Ends c one [] d old new (Err (write_halt e))
  unwritten_ends writing.NoMemory = one_makes
  unwritten_ends writing.SinkFailed = one_makes

  -- the event was made, and its line not wholly written
  pub plays_unwritten : (told : Bool) (before after : List ℕ) (e : WriteError) → (IsTrue told → WroteFront before own after) → Plays s c one old new told before after (Err (write_halt e))
  plays_unwritten told before after e wrote = record {
    made = one;
    behind = [];
    parts = refl;
    core = d;
    steps = one_steps s c d event reply old new ready.running.reached ready.sessions.0 step keeps passes moments heap;
    ends = unwritten_ends e;
    heap = heap;
    written = λ t. part_since c.history d.history event reply before after (step_history c d event reply step) e (wrote t);
  }

-- memory ran out: nothing was made
pub plays_nothing : {D : Type 0} {g : Ghosts D} (s : Super) (c : Core) (events : List Event) (old new : Heap D g) (told : Bool) (before : List ℕ) → IsHeap s c old → IsCore c new → new.disk ≡ old.disk
    → Plays s c events old new told before before (Err halt.NoMemory)
plays_nothing {g = g} s c events old new told before heap core same = record {
  made = [];
  behind = events;
  parts = refl;
  core = c;
  steps = (refl, same);
  ends = inl (record { reached = refl; passes = ap g.passed same; still = record { faults = ap g.faults same; stops = ap g.stops same } });
  heap = record { core = core; disk = subst (λ x. DiskHolds s c (g.bytes x) (g.may_leave x)) (sym same) heap.disk };
  written = λ t. nothing_since c.history before;
}
