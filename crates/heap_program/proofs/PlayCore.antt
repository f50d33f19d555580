-- How plays continue, on every disk.
use Rattle.std.proofs.Common.{◌≡◌, ◌⊎◌, inl, inr, ⊎_elim, ℕ, ◌+◌, ◌<◌, Bool, List, [], ◌∷◌, ◌++◌, length, get_or, take, drop, Result, Ok, Err, refl, sym, ap, ◌∙◌, subst, append_assoc}
use Rattle.std.specs.Prelude.{IsTrue}
use Rattle.std.proofs.lemmas.List.{append-nil}
use Rattle.disk_model.specs.declared.disk.Disk.{Ghosts}
use Rattle.graph_model.specs.declared.event.Event.{Event}
use Rattle.graph_model.specs.declared.reply.Refusal.TheVariants.{DiskFault, Stopped}
use Rattle.graph_model.specs.declared.reply.Reply.{Reply}
use Rattle.graph_model.specs.declared.reply.Reply.TheVariants.{Refused}
use Rattle.graph_model.specs.Text.{line}
use Rattle.heap_core.specs.declared.heap.Heap.{Heap}
use Rattle.heap_program.specs.declared.output.WriteError.{WriteError}
use Rattle.heap_program.specs.declared.output.WriteError.TheVariants as writing
use Rattle.heap_program.specs.declared.play.Halt.{Halt}
use Rattle.heap_program.specs.declared.play.Halt.TheVariants as halt
use Rattle.script_text.specs.declared.line.Line.{Line}
use Rattle.script_text.specs.Line.{line_events, events}
use Rattle.heap_model.specs.Core.{Core, answer, after, with_entry, IsCutShort, IsStep, IsRun}
use Rattle.heap_model.proofs.Step.Calls.{after_events-append, run_append}
use Rattle.heap_model.proofs.Run.Calls.{step_history}
use Rattle.heap_model.specs.CoreRuns.{after_events}
use Rattle.heap_core.specs.Refinement.{IsCore}
use Rattle.heap_program.proofs.CoreSteps.{ready_behind, ready_front}
use Rattle.heap_program.proofs.Lines.{none_since, nothing_since, one_since, part_since, then_since}
use Rattle.heap_program.proofs.Ready.{AreReady}
use Rattle.heap_program.specs.Play.{MadeAll, IsCutBy, EndsAs, PlaysCore, WroteFront, ended_by}
use Rattle.heap_program.specs.StatusOf.{write_halt}
use Rattle.heap_program.proofs.PlayEvent.{whole_reply}
use Rattle.heap_program.proofs.PlayLoop.{events_next, events_parts}

ends_on : (c : Core) (made behind more : List Event) (d : Core) (result : Result (Unit {0}) Halt) → ((result ≡ Ok tt) → ⊥) → EndsAs c made behind d result → EndsAs c made (behind ++ more) d result
ends_on c made behind more d (Ok done) early ends = absurd (early refl)
ends_on c made behind more d (Err halt.Stopped) early ends = ends
ends_on c made behind more d (Err halt.DiskFault) early ends = ends
ends_on c made behind more d (Err halt.NoMemory) early ends = ends
ends_on c made behind more d (Err halt.WriteFault) early ends = ends

module _ (c m : Core) (events : List Event) (first : MadeAll c events m) where
  whole_then : (made : List Event) (d : Core) → MadeAll m made d → MadeAll c (events ++ made) d
  whole_then made d second = second ∙ ap (λ (x : Core). after_events x made) first ∙ sym (after_events-append c events made)

  cut_then : (made : List Event) (d : Core) (reply : Reply) → IsCutBy reply m made d → IsCutBy reply c (events ++ made) d
  cut_then made d reply second =
      let same : after_events m second.before ≡ after_events c (events ++ second.before) = ap (λ (x : Core). after_events x second.before) first ∙ sym (after_events-append c events second.before) in
      record {
        before = events ++ second.before;
        event = second.event;
        parts = ap (λ (l : List Event). events ++ l) second.parts ∙ sym (append_assoc events second.before (second.event ∷ []));
        cut = subst (λ (x : Core). IsCutShort x second.event reply) same second.cut;
        reached = second.reached ∙ ap (λ (x : Core). with_entry x second.event reply) same;
      }

  ends_then : (made behind : List Event) (d : Core) (result : Result (Unit {0}) Halt) → EndsAs m made behind d result → EndsAs c (events ++ made) behind d result
  ends_then made behind d (Ok done) ends = (ends.0, whole_then made d ends.1)
  ends_then made behind d (Err halt.Stopped) ends = cut_then made d (Refused Stopped) ends
  ends_then made behind d (Err halt.DiskFault) ends = cut_then made d (Refused DiskFault) ends
  ends_then made behind d (Err halt.NoMemory) ends = either_then made d ends
    where
      either_then : (made : List Event) (d : Core) → MadeAll m made d ⊎ ((reply : Reply) × IsCutBy reply m made d) → MadeAll c (events ++ made) d ⊎ ((reply : Reply) × IsCutBy reply c (events ++ made) d)
      either_then made d (inl whole) = inl (whole_then made d whole)
      either_then made d (inr cut) = inr (cut.0, cut_then made d cut.0 cut.1)
  ends_then made behind d (Err halt.WriteFault) ends = either_too made d ends
    where
      either_too : (made : List Event) (d : Core) → MadeAll m made d ⊎ ((reply : Reply) × IsCutBy reply m made d) → MadeAll c (events ++ made) d ⊎ ((reply : Reply) × IsCutBy reply c (events ++ made) d)
      either_too made d (inl whole) = inl (whole_then made d whole)
      either_too made d (inr cut) = inr (cut.0, cut_then made d cut.0 cut.1)

module _ {D : Type 0} {g : Ghosts D} where
  -- A play that ends early ends so when more events were asked.
  pub core_on : (c : Core) (events more : List Event) (new : Heap D g) (told : Bool) (before after : List ℕ) (result : Result (Unit {0}) Halt) → ((result ≡ Ok tt) → ⊥)
      → PlaysCore c events new told before after result → PlaysCore c (events ++ more) new told before after result
  core_on c events more new told before after result early play = record {
    made = play.made;
    behind = play.behind ++ more;
    parts = ap (λ (l : List Event). l ++ more) play.parts ∙ append_assoc play.made play.behind more;
    core = play.core;
    run = play.run;
    ends = ends_on c play.made play.behind more play.core result early play.ends;
    is = play.is;
    written = play.written;
  }

  -- A whole play, and then another.
  pub core_then : (c : Core) (events more : List Event) (mid new : Heap D g) (told : Bool) (before between after : List ℕ) (result : Result (Unit {0}) Halt) → AreReady c (events ++ more)
      → PlaysCore c events mid told before between (Ok tt) → ((d : Core) → d ≡ after_events c events → IsCore d mid → AreReady d more → PlaysCore d more new told between after result)
      → PlaysCore c (events ++ more) new told before after result
  core_then c events more mid new told before between after result ready first rest =
      let m = first.core in
      let same : events ≡ first.made = first.parts ∙ ap (λ (l : List Event). first.made ++ l) first.ends.0 ∙ append-nil first.made in
      let whole : MadeAll c events m = subst (λ (l : List Event). MadeAll c l m) (sym same) first.ends.1 in
      let run : IsRun c events m = subst (λ (l : List Event). IsRun c l m) (sym same) first.run in
      let ready_mid = subst (λ (x : Core). AreReady x more) (sym whole) (ready_behind c events more ready) in
      let second = rest m whole first.is ready_mid in
      record {
        made = events ++ second.made;
        behind = second.behind;
        parts = ap (λ (l : List Event). events ++ l) second.parts ∙ sym (append_assoc events second.made second.behind);
        core = second.core;
        run = run_append c m second.core events second.made run second.run;
        ends = ends_then c m events whole second.made second.behind second.core result second.ends;
        is = second.is;
        written = λ tells. then_since result c.history m.history second.core.history before between after (first.written tells) (second.written tells);
      }

  -- A play of no events.
  pub core_none : (c : Core) (heap : Heap D g) (told : Bool) (before : List ℕ) → IsCore c heap → PlaysCore c [] heap told before before (Ok tt)
  core_none c heap told before is = record { made = []; behind = []; parts = refl; core = c; run = refl; ends = (refl, refl); is = is; written = λ tells. none_since c.history before }

  -- memory ran out: nothing was made
  pub core_nothing : (c : Core) (events : List Event) (new : Heap D g) (told : Bool) (before : List ℕ) → IsCore c new → PlaysCore c events new told before before (Err halt.NoMemory)
  core_nothing c events new told before is = record {
    made = [];
    behind = events;
    parts = refl;
    core = c;
    run = refl;
    ends = inl refl;
    is = is;
    written = λ t. nothing_since c.history before;
  }

  module _ (c d : Core) (event : Event) (reply : Reply) (new : Heap D g) (step : IsStep c event reply d) (is : IsCore d new) where
    abbrev one : List Event
    one = event ∷ []

    cut_one : IsCutShort c event reply → d ≡ with_entry c event reply → IsCutBy reply c one d
    cut_one cut reached = record { before = []; event = event; parts = refl; cut = cut; reached = reached }

    told_ends : (r : Reply) → (r ≡ Refused DiskFault) ⊎ (r ≡ Refused Stopped) → IsCutBy r c one d → EndsAs c one [] d (ended_by r)
    told_ends r (inl fault) cut = let P : Reply → Type 0 = λ x. IsCutBy x c one d → EndsAs c one [] d (ended_by x) in subst P (sym fault) (λ m. m) cut
    told_ends r (inr stopped) cut = let P : Reply → Type 0 = λ x. IsCutBy x c one d → EndsAs c one [] d (ended_by x) in subst P (sym stopped) (λ m. m) cut

    one_ends : EndsAs c one [] d (ended_by reply)
    one_ends = ⊎_elim
        (λ (whole : (reply ≡ answer c event) × (d ≡ after c event)). subst (EndsAs c one [] d) (sym (whole_reply c event reply whole.0)) (refl, whole.1))
        (λ (cut : IsCutShort c event reply × (d ≡ with_entry c event reply)). told_ends reply cut.0.told (cut_one cut.0 cut.1))
        step

    one_made : MadeAll c one d ⊎ ((r : Reply) × IsCutBy r c one d)
    one_made = ⊎_elim
        (λ (whole : (reply ≡ answer c event) × (d ≡ after c event)). inl whole.1)
        (λ (cut : IsCutShort c event reply × (d ≡ with_entry c event reply)). inr (reply, cut_one cut.0 cut.1))
        step

    -- the event's line
    abbrev own : List ℕ
    own = line (record { event = event; reply = reply })

    -- the event was made and its line written
    pub core_one : (told : Bool) (before after : List ℕ) → (IsTrue told → after ≡ before ++ own) → PlaysCore c one new told before after (ended_by reply)
    core_one told before after wrote = record {
      made = one;
      behind = [];
      parts = refl;
      core = d;
      run = (reply, d, step, refl);
      ends = one_ends;
      is = is;
      written = λ t. one_since c.history d.history event reply before after (step_history c d event reply step) (wrote t);
    }

    unwritten_ends : (e : WriteError) → EndsAs c one [] d (Err (write_halt e))
    unwritten_ends writing.NoMemory = one_made
    unwritten_ends writing.SinkFailed = one_made

    -- the event was made, and its line not wholly written
    pub core_unwritten : (told : Bool) (before after : List ℕ) (e : WriteError) → (IsTrue told → WroteFront before own after) → PlaysCore c one new told before after (Err (write_halt e))
    core_unwritten told before after e wrote = record {
      made = one;
      behind = [];
      parts = refl;
      core = d;
      run = (reply, d, step, refl);
      ends = unwritten_ends e;
      is = is;
      written = λ t. part_since c.history d.history event reply before after (step_history c d event reply step) e (wrote t);
    }

  -- A play continues line by line.
  module _ (c : Core) (lines : List Line) (i : ℕ) (d : Line) (lt : i < length lines) (ready : AreReady c (events lines)) (mid new : Heap D g) (told : Bool) (before between after : List ℕ) (result : Result (Unit {0}) Halt)
      (so_far : PlaysCore c (events (take i lines)) mid told before between (Ok tt))
      (next : (core : Core) → IsCore core mid → AreReady core (line_events (get_or lines i d)) → PlaysCore core (line_events (get_or lines i d)) new told between after result) where
    abbrev own_events : List Event
    own_events = line_events (get_or lines i d)

    core_here : PlaysCore c (events (take i lines) ++ own_events) new told before after result
    core_here =
        let front = ready_front c (events (take i lines) ++ own_events) (events (drop (i + 1) lines)) (subst (AreReady c) (events_parts lines i d lt) ready) in
        core_then c (events (take i lines)) own_events mid new told before between after result front so_far (λ core reached. next core)

    -- with that line
    pub core_more : PlaysCore c (events (take (i + 1) lines)) new told before after result
    core_more = subst (λ (l : List Event). PlaysCore c l new told before after result) (sym (events_next lines i d lt)) core_here

    -- the play ends with that line
    pub core_last : ((result ≡ Ok tt) → ⊥) → PlaysCore c (events lines) new told before after result
    core_last early =
        subst (λ (l : List Event). PlaysCore c l new told before after result) (sym (events_parts lines i d lt))
        (core_on c (events (take i lines) ++ own_events) (events (drop (i + 1) lines)) new told before after result early core_here)
