-- How plays continue.
use Rattle.std.proofs.Common.{◌≡◌, inl, inr, ℕ, ◌+◌, ◌≤◌, ◌<◌, Bool, List, [], ◌∷◌, ◌++◌, Result, Ok, Err, refl, sym, ap, ◌∙◌, subst, arith, append_assoc}
use Rattle.std.proofs.lemmas.List.{append-nil}
use Rattle.counts.specs.Count.{counted}
use Rattle.disk_model.specs.declared.disk.Disk.{Ghosts}
use Rattle.gate_slot.proofs.PassingLaws.{counted-add}
use Rattle.graph_model.specs.declared.event.Event.{Event}
use Rattle.graph_model.specs.declared.reply.Refusal.TheVariants.{DiskFault, Stopped}
use Rattle.graph_model.specs.declared.reply.Reply.{Reply}
use Rattle.graph_model.specs.declared.reply.Reply.TheVariants.{Refused}
use Rattle.image_plan.specs.declared.superblock.Super.{Super}
use Rattle.heap_core.specs.declared.heap.Heap.{Heap}
use Rattle.heap_program.specs.declared.play.Halt.{Halt}
use Rattle.heap_program.specs.declared.play.Halt.TheVariants as halt
use Rattle.heap_model.specs.Core.{Core, with_entry, IsCutShort, calls}
use Rattle.heap_model.specs.CoreRuns.{after_events, total_calls}
use Rattle.heap_model.proofs.Step.Calls.{after_events-append, total_calls-append}
use Rattle.heap_program.proofs.CoreSteps.{ready_behind}
use Rattle.heap_program.proofs.Lines.{none_since, then_since}
use Rattle.heap_core.specs.Refinement.{IsHeap}
use Rattle.heap_program.proofs.Ready.{AreReady}
use Rattle.heap_program.specs.Play.{MakesAll, MakesShort, Makes, Ends, Plays}
use Rattle.heap_core.specs.Steps.{HeapStep, AreSteps}
use Rattle.heap_core.specs.Causes.{reply_device}
use Rattle.heap_program.proofs.Unfaulted.{counts_none, counts_on, cause_since}
use Rattle.heap_core.proofs.StepsLaws.{steps_append}

-- the passes of two runs, one after the other
counted_then : (m n both before mid now : ℕ) → n + m ≡ both → mid ≡ counted n before → now ≡ counted m mid → now ≡ counted both before
counted_then m n both before mid now sum first second =
    second ∙ ap (counted m) first ∙ counted-add m n before ∙ ap (λ (k : ℕ). counted k before) sum

module _ {D : Type 0} {g : Ghosts D} where
  ends_on : (c : Core) (made behind more : List Event) (d : Core) (old new : Heap D g) (result : Result (Unit {0}) Halt) → ((result ≡ Ok tt) → ⊥)
      → Ends c made behind d old new result → Ends c made (behind ++ more) d old new result
  ends_on c made behind more d old new (Ok tt) early ends = absurd (early refl)
  ends_on c made behind more d old new (Err halt.Stopped) early ends = ends
  ends_on c made behind more d old new (Err halt.DiskFault) early ends = ends
  ends_on c made behind more d old new (Err other) early ends = ends

  -- A play that ends early ends so when more events were asked.
  pub plays_on : (s : Super) (c : Core) (events more : List Event) (old new : Heap D g) (told : Bool) (before after : List ℕ) (result : Result (Unit {0}) Halt)
      → ((result ≡ Ok tt) → ⊥) → Plays s c events old new told before after result → Plays s c (events ++ more) old new told before after result
  plays_on s c events more old new told before after result early play = record {
    made = play.made;
    behind = play.behind ++ more;
    parts = ap (λ (l : List Event). l ++ more) play.parts ∙ append_assoc play.made play.behind more;
    core = play.core;
    steps = play.steps;
    ends = ends_on c play.made play.behind more play.core old new result early play.ends;
    heap = play.heap;
    written = play.written;
  }

  -- however a play ended, it made what it made
  pub ends_makes : (c : Core) (made behind : List Event) (d : Core) (old new : Heap D g) (result : Result (Unit {0}) Halt) → Ends c made behind d old new result → Makes c made d old new
  ends_makes c made behind d old new (Ok tt) ends = inl ends.1
  ends_makes c made behind d old new (Err halt.Stopped) ends = inr (Refused Stopped, ends)
  ends_makes c made behind d old new (Err halt.DiskFault) ends = inr (Refused DiskFault, ends)
  ends_makes c made behind d old new (Err other) ends = ends

  module _ (c m : Core) (events : List Event) (old mid new : Heap D g) (first : MakesAll c events m old mid) where
    same_core : (more : List Event) → after_events c (events ++ more) ≡ after_events m more
    same_core more = after_events-append c events more ∙ ap (λ (x : Core). after_events x more) (sym first.reached)

    same_calls : (more : List Event) → total_calls c events + total_calls m more ≡ total_calls c (events ++ more)
    same_calls more = ap (λ (x : Core). total_calls c events + total_calls x more) first.reached ∙ sym (total_calls-append c events more)

    pub all_then : (made : List Event) (d : Core) → MakesAll m made d mid new → MakesAll c (events ++ made) d old new
    all_then made d second = record {
      reached = second.reached ∙ sym (same_core made);
      passes = counted_then (total_calls m made) (total_calls c events) (total_calls c (events ++ made)) (g.passed old.disk) (g.passed mid.disk) (g.passed new.disk) (same_calls made) first.passes second.passes;
      still = counts_on g old.disk mid.disk new.disk first.still second.still;
    }

    module _ (faults_kept : g.faults old.disk ≤ g.faults mid.disk) (stops_kept : g.stops old.disk ≤ g.stops mid.disk) where
      short_then : (made : List Event) (d : Core) (reply : Reply) → MakesShort m made d mid new reply → MakesShort c (events ++ made) d old new reply
      short_then made d reply second = record {
        before = events ++ second.before;
        event = second.event;
        parts = ap (λ (l : List Event). events ++ l) second.parts ∙ sym (append_assoc events second.before (second.event ∷ []));
        cut = subst (λ (x : Core). IsCutShort x second.event reply) (sym (same_core second.before)) second.cut;
        reached = second.reached ∙ ap (λ (x : Core). with_entry x second.event reply) (sym (same_core second.before));
        cause = cause_since g old.disk mid.disk new.disk (reply_device reply) first.still second.cause;
        passes = λ is. let short = second.passes is in let sum = same_calls second.before in (
          short.0,
          subst (λ (x : Core). short.0 < calls x second.event) (sym (same_core second.before)) short.1,
          counted_then (total_calls m second.before + short.0) (total_calls c events) (total_calls c (events ++ second.before) + short.0) (g.passed old.disk) (g.passed mid.disk) (g.passed new.disk) (omega arith) first.passes short.2,
        );
        most = let some = second.most in let sum = same_calls second.before in (
          some.0,
          subst (λ (x : Core). some.0 ≤ calls x second.event) (sym (same_core second.before)) some.1,
          counted_then (total_calls m second.before + some.0) (total_calls c events) (total_calls c (events ++ second.before) + some.0) (g.passed old.disk) (g.passed mid.disk) (g.passed new.disk) (omega arith) first.passes some.2,
        );
      }

      pub makes_then : (made : List Event) (d : Core) → Makes m made d mid new → Makes c (events ++ made) d old new
      makes_then made d (inl all) = inl (all_then made d all)
      makes_then made d (inr short) = inr (short.0, short_then made d short.0 short.1)

      pub ends_then : (made behind : List Event) (d : Core) (result : Result (Unit {0}) Halt) → Ends m made behind d mid new result → Ends c (events ++ made) behind d old new result
      ends_then made behind d (Ok done) ends = (ends.0, all_then made d ends.1)
      ends_then made behind d (Err halt.Stopped) ends = short_then made d (Refused Stopped) ends
      ends_then made behind d (Err halt.DiskFault) ends = short_then made d (Refused DiskFault) ends
      ends_then made behind d (Err other) ends = makes_then made d ends

  whole_parts : (c : Core) (events made behind : List Event) (d : Core) (old new : Heap D g) → events ≡ made ++ behind → Ends c made behind d old new (Ok tt) → MakesAll c events d old new
  whole_parts c events made behind d old new parts ends =
      let same : events ≡ made = parts ∙ ap (λ (l : List Event). made ++ l) ends.0 ∙ append-nil made in
      subst (λ (l : List Event). MakesAll c l d old new) (sym same) ends.1

  whole_steps : (c : Core) (events made behind : List Event) (d : Core) (old new : Heap D g) → events ≡ made ++ behind → Ends c made behind d old new (Ok tt) → AreSteps (HeapStep g) c old.disk made d new.disk
      → AreSteps (HeapStep g) c old.disk events d new.disk
  whole_steps c events made behind d old new parts ends steps =
      let same : events ≡ made = parts ∙ ap (λ (l : List Event). made ++ l) ends.0 ∙ append-nil made in
      subst (λ (l : List Event). AreSteps (HeapStep g) c old.disk l d new.disk) (sym same) steps

  -- A whole play, and then another.
  pub plays_then : (s : Super) (c : Core) (events more : List Event) (old mid new : Heap D g) (told : Bool) (before between after : List ℕ) (result : Result (Unit {0}) Halt)
      → AreReady c (events ++ more) → Plays s c events old mid told before between (Ok tt)
      → ((d : Core) → d ≡ after_events c events → IsHeap s d mid → AreReady d more → Plays s d more mid new told between after result)
      → g.faults old.disk ≤ g.faults mid.disk → g.stops old.disk ≤ g.stops mid.disk
      → Plays s c (events ++ more) old new told before after result
  plays_then s c events more old mid new told before between after result ready first rest faults_kept stops_kept =
      let m = first.core in
      let all = whole_parts c events first.made first.behind m old mid first.parts first.ends in
      let steps = whole_steps c events first.made first.behind m old mid first.parts first.ends first.steps in
      let ready_mid = subst (λ (x : Core). AreReady x more) (sym all.reached) (ready_behind c events more ready) in
      let second = rest m all.reached first.heap ready_mid in
      record {
        made = events ++ second.made;
        behind = second.behind;
        parts = ap (λ (l : List Event). events ++ l) second.parts ∙ sym (append_assoc events second.made second.behind);
        core = second.core;
        steps = steps_append (HeapStep g) c m second.core old.disk mid.disk new.disk events second.made steps second.steps;
        ends = ends_then c m events old mid new all faults_kept stops_kept second.made second.behind second.core result second.ends;
        heap = second.heap;
        written = λ tells. then_since result c.history m.history second.core.history before between after (first.written tells) (second.written tells);
      }

  -- A play of no events.
  pub plays_none : (s : Super) (c : Core) (heap : Heap D g) (told : Bool) (before : List ℕ) → IsHeap s c heap → Plays s c [] heap heap told before before (Ok tt)
  plays_none s c heap told before is = record {
    made = [];
    behind = [];
    parts = refl;
    core = c;
    steps = (refl, refl);
    ends = (refl, record { reached = refl; passes = refl; still = counts_none g heap.disk });
    heap = is;
    written = λ tells. none_since c.history before;
  }
