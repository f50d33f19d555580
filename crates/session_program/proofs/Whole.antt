-- A session from its first line to its end.
use Rattle.std.proofs.Common.{inl, inr, ℕ, Bool, List, map, Option, Result, Ok, Err, sym, ◌∙◌, subst}
use Rattle.disk_model.specs.declared.disk.Disk.{Ghosts}
use Rattle.graph_model.specs.declared.event.Event.{Event}
use Rattle.heap_core.specs.declared.heap.Heap.{Heap}
use Rattle.heap_core.specs.Refinement.{IsCore}
use Rattle.heap_model.specs.Core.{Core}
use Rattle.heap_model.specs.Ending.{ending}
use Rattle.heap_program.specs.declared.play.Halt.{Halt}
use Rattle.heap_program.specs.Play.{IsRunning, PlaysCore}
use Rattle.heap_program.proofs.CoreSteps.{running_after}
use Rattle.heap_program.proofs.PlayCore.{core_none}
use Rattle.session_program.specs.declared.ending.Break.{Break}
use Rattle.session_program.specs.declared.ending.Break.TheVariants.{Halted, ReadFault}
use Rattle.session_program.specs.declared.parts.Next.{Next}
use Rattle.session_program.specs.declared.parts.Next.TheVariants as next
use Rattle.session_program.specs.Lines.{asked}
use Rattle.session_program.specs.Session.{Serves, ServesLines, EndsLines, Ends, HasAnswered}
use Rattle.session_program.proofs.Answering.{asked_sessions}

-- how a session ends whose last events ended so
abbrev pub ended_as : Next → Result (Unit {0}) Halt → Result Next Break
ended_as n (Ok done) = Ok n
ended_as n (Err h) = Err (Halted h)

module _ {D : Type 0} {g : Ghosts D} (tells : Bool) (left rest : List ℕ) (c : Core) (told : Bool) (before : List ℕ) where
  -- how it ended at a line
  abbrev pub widen : (new : Heap D g) (after : List ℕ) (b : Break) (texts : List (Option (List ℕ))) (core : Core) (between : List ℕ) → EndsLines tells left rest new told after (Err b) texts core between → Ends tells left rest new told after (Err b) texts core between
  widen new after ReadFault texts core between ended = ended
  widen new after (Halted h) texts core between (inl there) = inl there
  widen new after (Halted h) texts core between (inr nothing) = inr (inr nothing)

  -- it ended at a line
  abbrev pub session_early : (new : Heap D g) (after : List ℕ) (b : Break) → ServesLines tells left rest c new told before after (Err b) → Serves tells left rest c new told before after (Err b)
  session_early new after b lines = record {
    answered = lines.answered;
    core = lines.core;
    between = lines.between;
    answers = lines.answers;
    first = lines.first;
    ended = widen new after b (map (λ a. a.text) lines.answered) lines.core lines.between lines.ended;
  }

  -- it answered all lines
  module _ (running : IsRunning c) (mid new : Heap D g) (now after : List ℕ) (n : Next) (lines : ServesLines tells left rest c mid told before now (Ok n)) where
    abbrev core : Core
    core = lines.core

    pub still : IsRunning core
    still = subst IsRunning (sym lines.answers.made) (running_after c (asked lines.answered) (record { running = running; sessions = asked_sessions lines.answered }))

    pub answers : HasAnswered c lines.answered core told before now
    answers = record {
      made = lines.answers.made;
      heard = lines.answers.heard;
      own = lines.answers.own;
      refused = lines.answers.refused;
      written = λ t. lines.ended.1.nothing t ∙ lines.answers.written t;
    }

    -- and then played the events that end it
    abbrev pub session_ended : (result : Result (Unit {0}) Halt) → PlaysCore core (ending core) new told now after result → Serves tells left rest c new told before after (ended_as n result)
    session_ended (Ok done) plays = record {
      answered = lines.answered;
      core = core;
      between = now;
      answers = answers;
      first = lines.first;
      ended = (record { all = lines.ended.0; plays = plays }, lines.ended.2);
    }
    session_ended (Err h) plays = record {
      answered = lines.answered;
      core = core;
      between = now;
      answers = answers;
      first = lines.first;
      ended = inr (inl (record { all = lines.ended.0; plays = plays }));
    }

    pub session_whole : (result : Result (Unit {0}) Halt) → ((d : Core) → IsCore d mid → IsRunning d → PlaysCore d (ending d) new told now after result) → Serves tells left rest c new told before after (ended_as n result)
    session_whole result ending_plays = session_ended result (ending_plays core lines.ended.1.is still)

  -- a line parted it, where nothing was to be done
  pub session_parted : (running : IsRunning c) (mid : Heap D g) (now : List ℕ) → ServesLines tells left rest c mid told before now (Ok next.Reopen) → Serves tells left rest c mid told before now (Ok next.Reopen)
  session_parted running mid now lines =
      let plays = core_none lines.core mid told now lines.ended.1.is in
      session_ended running mid mid now now next.Reopen lines (Ok tt) (subst (λ (l : List Event). PlaysCore lines.core l mid told now now (Ok tt)) (sym lines.ended.2) plays)
