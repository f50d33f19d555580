-- What is played on a modelled disk is played as on any disk.
use Rattle.std.proofs.Common.{◌≡◌, inl, inr, ℕ, Bool, List, [], ◌∷◌, ◌++◌, Option, Some, Result, Ok, Err, refl, sym, ap, ◌∙◌, subst}
use Rattle.std.specs.Prelude.{◌⊎◌, IsTrue}
use Rattle.std.proofs.lemmas.List.{append-nil}
use Rattle.disk_model.specs.declared.disk.Disk.{Ghosts}
use Rattle.graph_model.specs.declared.event.Event.{Event}
use Rattle.graph_model.specs.declared.reply.Refusal.TheVariants.{DiskFault, Stopped}
use Rattle.graph_model.specs.declared.reply.Reply.{Reply}
use Rattle.graph_model.specs.declared.reply.Reply.TheVariants.{Refused}
use Rattle.image_plan.specs.declared.superblock.Super.{Super}
use Rattle.heap_core.specs.declared.heap.Heap.{Heap}
use Rattle.heap_core.specs.Refinement.{IsHeap}
use Rattle.heap_model.specs.Core.{Core, IsRun}
use Rattle.heap_program.proofs.Unfaulted.{counts_none}
use Rattle.heap_program.specs.declared.output.WriteError.{WriteError}
use Rattle.heap_program.specs.declared.output.WriteError.TheVariants as writing
use Rattle.heap_program.specs.declared.play.Halt.{Halt}
use Rattle.heap_program.specs.declared.play.Halt.TheVariants as halt
use Rattle.heap_program.specs.Play.{MadeAll, IsCutBy, EndsAs, MakesShort, Makes, Ends, Plays, PlaysCore, WroteFront}
use Rattle.heap_program.specs.StatusOf.{write_halt}
use Rattle.heap_core.specs.Steps.{HeapStep, AreSteps}
use Rattle.heap_program.proofs.Lines.{nothing_since}
use Rattle.heap_program.proofs.PlayLaws.{plays_none}
use Rattle.heap_program.proofs.Written.{none_written}
use Rattle.script_text.specs.declared.line.Line.{Line}
use Rattle.script_text.specs.Line.{line_events}
use Rattle.session_program.specs.Lines.{named, fault_of}
use Rattle.session_program.specs.Session.{Answers, AnswersOn}
use Rattle.session_program.proofs.OneLine.{wrote_none, stops_since}

pub steps_run : {D : Type 0} (g : Ghosts D) (c d : Core) (old new : D) (events : List Event) → AreSteps (HeapStep g) c old events d new → IsRun c events d
steps_run g c d old new [] steps = steps.0
steps_run g c d old new (event ∷ events) steps = (steps.2.reply, steps.0, steps.2.step, steps_run g steps.0 d steps.1 new events steps.3)

module _ {D : Type 0} {g : Ghosts D} where
  short_cut : (c : Core) (made : List Event) (d : Core) (old new : Heap D g) (reply : Reply) → MakesShort c made d old new reply → IsCutBy reply c made d
  short_cut c made d old new reply short = record { before = short.before; event = short.event; parts = short.parts; cut = short.cut; reached = short.reached }

  -- all events were made, or the last one was cut short
  pub makes_last : (c : Core) (made : List Event) (d : Core) (old new : Heap D g) → Makes c made d old new → MadeAll c made d ⊎ ((reply : Reply) × IsCutBy reply c made d)
  makes_last c made d old new (inl all) = inl all.reached
  makes_last c made d old new (inr short) = inr (short.0, short_cut c made d old new short.0 short.1)

  pub ends_core : (c : Core) (made behind : List Event) (d : Core) (old new : Heap D g) (result : Result (Unit {0}) Halt) → Ends c made behind d old new result → EndsAs c made behind d result
  ends_core c made behind d old new (Ok done) ends = (ends.0, ends.1.reached)
  ends_core c made behind d old new (Err halt.Stopped) ends = short_cut c made d old new (Refused Stopped) ends
  ends_core c made behind d old new (Err halt.DiskFault) ends = short_cut c made d old new (Refused DiskFault) ends
  ends_core c made behind d old new (Err halt.NoMemory) ends = makes_last c made d old new ends
  ends_core c made behind d old new (Err halt.WriteFault) ends = makes_last c made d old new ends

  abbrev pub plays_core : (s : Super) (c : Core) (events : List Event) (old new : Heap D g) (told : Bool) (before after : List ℕ) (result : Result (Unit {0}) Halt)
      → Plays s c events old new told before after result → PlaysCore c events new told before after result
  plays_core s c events old new told before after result plays = record {
    made = plays.made;
    behind = plays.behind;
    parts = plays.parts;
    core = plays.core;
    run = steps_run g c plays.core old.disk new.disk plays.made plays.steps;
    ends = ends_core c plays.made plays.behind plays.core old new result plays.ends;
    is = plays.heap.core;
    written = plays.written;
  }

  abbrev pub answers_core : (s : Super) (c : Core) (number : ℕ) (text : Option (List ℕ)) (old new : Heap D g) (told : Bool) (before after : List ℕ) (result : Result (Unit {0}) Halt)
      → AnswersOn s c number text old new told before after result → Answers c number text new told before after result
  answers_core s c number text old new told before after result answers = record {
    between = answers.between;
    fault = answers.fault;
    plays = plays_core s c (named text) old new told answers.between after result answers.plays;
  }

  module _ (s : Super) (c : Core) where
    -- memory ran out: nothing was made
    plays_nothing : (events : List Event) (heap : Heap D g) (told : Bool) (before : List ℕ) → IsHeap s c heap → Plays s c events heap heap told before before (Err halt.NoMemory)
    plays_nothing events heap told before is = record {
      made = [];
      behind = events;
      parts = refl;
      core = c;
      steps = (refl, refl);
      ends = inl (record { reached = refl; passes = refl; still = counts_none g heap.disk });
      heap = is;
      written = λ t. nothing_since c.history before;
    }

    -- the sink failed before any event was made
    plays_stops : (heap : Heap D g) (told : Bool) (before : List ℕ) (e : WriteError) → IsHeap s c heap → Plays s c [] heap heap told before before (Err (write_halt e))
    plays_stops heap told before writing.NoMemory is = plays_nothing [] heap told before is
    plays_stops heap told before writing.SinkFailed is = record {
      made = [];
      behind = [];
      parts = refl;
      core = c;
      steps = (refl, refl);
      ends = inl (record { reached = refl; passes = refl; still = counts_none g heap.disk });
      heap = is;
      written = λ t. stops_since c.history before;
    }

    module _ (number : ℕ) (text : Option (List ℕ)) (old heap : Heap D g) (told : Bool) (before after : List ℕ) where
      -- the line's events were played
      pub played_on : (line : Line) (result : Result (Unit {0}) Halt) → named text ≡ line_events line → fault_of number text ≡ [] → Plays s c (line_events line) old heap told before after result
          → AnswersOn s c number text old heap told before after result
      played_on line result names none plays = record {
        between = before;
        fault = λ t. wrote_none result before (fault_of number text) none;
        plays = subst (λ (l : List Event). Plays s c l old heap told before after result) (sym names) plays;
      }

      module _ (is : IsHeap s c heap) where
        -- memory ran out
        pub nothing_on : AnswersOn s c number text heap heap told before before (Err halt.NoMemory)
        nothing_on = record { between = before; fault = λ t. none_written before (fault_of number text); plays = plays_nothing (named text) heap told before is }

        module _ (none : named text ≡ []) where
          -- an empty line
          pub empty_on : fault_of number text ≡ [] → AnswersOn s c number text heap heap told before before (Ok tt)
          empty_on quiet = record {
            between = before;
            fault = λ t. wrote_none (Ok tt) before (fault_of number text) quiet;
            plays = subst (λ (l : List Event). Plays s c l heap heap told before before (Ok tt)) (sym none) (plays_none s c heap told before is);
          }

          module _ (said : List ℕ) (fault : fault_of number text ≡ said) where
            -- one that is not in the grammar, or too long
            pub refused_on : (IsTrue told → after ≡ before ++ said) → AnswersOn s c number text heap heap told before after (Ok tt)
            refused_on wrote = record {
              between = after;
              fault = λ t. wrote t ∙ ap (λ (l : List ℕ). before ++ l) (sym fault);
              plays = subst (λ (l : List Event). Plays s c l heap heap told after after (Ok tt)) (sym none) (plays_none s c heap told after is);
            }

            -- and that was not wholly written
            pub part_on : (e : WriteError) → (IsTrue told → WroteFront before said after) → AnswersOn s c number text heap heap told before after (Err (write_halt e))
            part_on e wrote = record {
              between = after;
              fault = λ t. subst (λ (l : List ℕ). WroteFront before l after) (sym fault) (wrote t);
              plays = subst (λ (l : List Event). Plays s c l heap heap told after after (Err (write_halt e))) (sym none) (plays_stops heap told after e is);
            }
