-- A session between two lines, on a modelled disk.
use Rattle.std.proofs.Common.{◌≡◌, inl, inr, ℕ, ◌+◌, ◌≤◌, Bool, false, List, [], ◌∷◌, ◌++◌, map, Option, None, Some, Result, Ok, Err, refl, sym, ap, ◌∙◌, subst}
use Rattle.std.specs.Prelude.{IsTrue, IsFalse}
use Rattle.std.specs.List.{AllByRecursion}
use Rattle.std.proofs.lemmas.List.{append-nil}
use Rattle.disk_model.specs.declared.disk.Disk.{Ghosts}
use Rattle.graph_model.specs.declared.event.Event.{Event}
use Rattle.graph_model.specs.History.{IsOfSession}
use Rattle.image_plan.specs.declared.superblock.Super.{Super}
use Rattle.log_machine.proofs.ListLaws.{AllByRecursion-append}
use Rattle.heap_core.specs.declared.heap.Heap.{Heap}
use Rattle.heap_core.specs.Refinement.{IsHeap}
use Rattle.heap_model.specs.Core.{Core}
use Rattle.heap_model.specs.Ending.{ending}
use Rattle.heap_program.proofs.Unfaulted.{counts_none}
use Rattle.heap_program.specs.declared.play.Halt.{Halt}
use Rattle.heap_program.specs.declared.play.Halt.TheVariants as halt
use Rattle.heap_program.specs.Play.{IsRunning, MakesAll, Makes, Plays}
use Rattle.heap_core.specs.Steps.{HeapStep, AreSteps}
use Rattle.heap_program.proofs.PlayLaws.{all_then, makes_then, ends_makes}
use Rattle.heap_core.proofs.StepsLaws.{steps_append}
use Rattle.core_laws.proofs.Run.Calls.{of_session_front}
use Rattle.line_reader.specs.Taking.{IsWithinLine, IsFirstLine, EndsTooLong, PassesPart}
use Rattle.line_reader.specs.declared.reader.LineError.{LineError}
use Rattle.line_reader.specs.declared.reader.LineError.TheVariants as reading
use Rattle.session_program.specs.Ending.{line_break}
use Rattle.session_program.specs.declared.ending.Break.{Break}
use Rattle.session_program.specs.declared.ending.Break.TheVariants.{Halted, ReadFault}
use Rattle.session_program.specs.declared.parts.Next.{Next}
use Rattle.session_program.specs.declared.parts.Next.TheVariants as next
use Rattle.session_program.specs.Lines.{Answered, asked, named, reopen_line}
use Rattle.session_program.specs.Session.{Answers, AnswersOn, MakesSession, ServesLinesOn, MayRefuse, OfInput}
use Rattle.session_program.proofs.Answering.{named_sessions, asked_sessions, asked_more, its}
use Rattle.session_program.proofs.OnDisk.{answers_core}
use Rattle.session_program.proofs.SoFar.{SoFar, texts_of, so_far_none, so_far_next, so_far_part, part_next, behind_line, behind_long, never, part, is_part, lines_done, lines_parted, lines_unread, lines_nothing, lines_halted}
use Rattle.session_program.proofs.Unread.{Unread}

module _ {D : Type 0} {g : Ghosts D} (s : Super) where
  -- Events that all were made, and others after them.
  module _ (c core : Core) (events named_events : List Event) (old heap new : Heap D g) (told : Bool) (now after : List ℕ)
      (steps : AreSteps (HeapStep g) c old.disk events core heap.disk) (makes : MakesAll c events core old heap) where
    -- where all of the others were made too
    module _ (plays : Plays s core named_events heap new told now after (Ok tt)) where
      same : plays.made ≡ named_events
      same = sym (plays.parts ∙ ap (λ (l : List Event). plays.made ++ l) plays.ends.0 ∙ append-nil plays.made)

      pub steps_more : AreSteps (HeapStep g) c old.disk (events ++ named_events) plays.core new.disk
      steps_more =
          steps_append (HeapStep g) c core plays.core old.disk heap.disk new.disk events named_events steps
          (subst (λ (l : List Event). AreSteps (HeapStep g) core heap.disk l plays.core new.disk) same plays.steps)

      pub makes_more : MakesAll c (events ++ named_events) plays.core old new
      makes_more = all_then c core events old heap new makes named_events plays.core (subst (λ (l : List Event). MakesAll core l plays.core heap new) same plays.ends.1)

    -- where the others were played
    module _ (own : AllByRecursion IsOfSession events) (sessions : AllByRecursion IsOfSession named_events) (faults_kept : g.faults old.disk ≤ g.faults heap.disk) (stops_kept : g.stops old.disk ≤ g.stops heap.disk)
        (answered : List Answered) (are : events ≡ asked answered) (made behind : List Event) (d : Core) (parts : named_events ≡ made ++ behind) where
      pub makes_behind : (result : Result Next Break) → AreSteps (HeapStep g) core heap.disk made d new.disk → Makes core made d heap new → ((n : Next) → result ≡ Ok n → MakesAll core made d heap new) → IsHeap s d new → MakesSession s c old new answered (made, d) result
      makes_behind result its_steps its_makes all is =
          let front = of_session_front made behind (subst (AllByRecursion IsOfSession) parts sessions) in
          record {
            own = subst (λ (l : List Event). AllByRecursion IsOfSession (l ++ made)) are (AllByRecursion-append IsOfSession events made own front);
            steps = subst (λ (l : List Event). AreSteps (HeapStep g) c old.disk (l ++ made) d new.disk) are (steps_append (HeapStep g) c core d old.disk heap.disk new.disk events made steps its_steps);
            makes = subst (λ (l : List Event). Makes c (l ++ made) d old new) are (makes_then c core events old heap new makes faults_kept stops_kept made d its_makes);
            whole = λ n done. subst (λ (l : List Event). MakesAll c (l ++ made) d old new) are (all_then c core events old heap new makes made d (all n done));
            heap = is;
          }

  -- Lines were answered from a core on, and the next one has that number.
  pub record SoFarOn (tells : Bool) (left : List ℕ) (c : Core) (old heap : Heap D g) (passing : Bool) (stream : List ℕ) (number : ℕ) (told : Bool) (before now : List ℕ) : Type 0 where
    pub so_far : SoFar tells left c heap passing stream number told before now
    pub steps : AreSteps (HeapStep g) c old.disk (asked so_far.answered) so_far.core heap.disk
    pub makes : MakesAll c (asked so_far.answered) so_far.core old heap
    pub is : IsHeap s so_far.core heap

  pub on_none : (tells : Bool) (left : List ℕ) (c : Core) (heap : Heap D g) (passing : Bool) (fresh : IsTrue tells → IsFalse passing) (told : Bool) (before : List ℕ) → IsHeap s c heap → IsRunning c → SoFarOn tells left c heap heap passing left 1 told before before
  on_none tells left c heap passing fresh told before is running = record {
    so_far = so_far_none tells left c heap passing fresh told before is.core running;
    steps = (refl, refl);
    makes = record { reached = refl; passes = refl; still = counts_none g heap.disk };
    is = is;
  }

  module _ (tells : Bool) (left : List ℕ) (c : Core) (old heap new : Heap D g) (passing passing' : Bool) (stream rest : List ℕ) (number : ℕ) (told : Bool) (before now after : List ℕ)
      (on : SoFarOn tells left c old heap passing stream number told before now) where
    abbrev so_far : SoFar tells left c heap passing stream number told before now
    so_far = on.so_far

    abbrev core : Core
    core = so_far.core

    -- one more line
    on_next : (text : Option (List ℕ)) → MayRefuse core text → AnswersOn s core number text heap new told now after (Ok tt) → (IsTrue tells → Unread left (texts_of so_far.answered ++ text ∷ []) passing' rest)
        → SoFarOn tells left c old new passing' rest (number + 1) told before after
    on_next text may answers unread =
        let plain = answers_core s core number text heap new told now after (Ok tt) answers in
        let a = its c core so_far.answered told before now after so_far.answers number so_far.count text new plain in
        let more : asked so_far.answered ++ named text ≡ asked (so_far.answered ++ a ∷ []) = sym (asked_more so_far.answered a) in
        record {
          so_far = so_far_next tells left c heap new passing passing' stream rest number told before now after so_far text may plain unread;
          steps = subst (λ (l : List Event). AreSteps (HeapStep g) c old.disk l answers.plays.core new.disk) more (steps_more c core (asked so_far.answered) (named text) old heap new told answers.between after on.steps on.makes answers.plays);
          makes = subst (λ (l : List Event). MakesAll c l answers.plays.core old new) more (makes_more c core (asked so_far.answered) (named text) old heap new told answers.between after on.steps on.makes answers.plays);
          is = answers.plays.heap;
        }

    pub line_on : (text : List ℕ) → MayRefuse core (Some text) → (IsTrue tells → IsFalse passing × IsFalse passing' × IsFirstLine text stream rest) → AnswersOn s core number (Some text) heap new told now after (Ok tt) → SoFarOn tells left c old new passing' rest (number + 1) told before after
    line_on text may taken answers = on_next (Some text) may answers (behind_line tells left c heap new passing passing' stream rest number told before now after so_far text taken)

    pub long_on : (IsTrue tells → IsFalse passing' × EndsTooLong passing stream rest) → AnswersOn s core number None heap new told now after (Ok tt) → SoFarOn tells left c old new passing' rest (number + 1) told before after
    long_on taken answers = on_next None (never tells left c heap new passing passing' stream rest number told before now after so_far) answers (behind_long tells left c heap new passing passing' stream rest number told before now after so_far taken)

    -- a part of a line went
    pub part_on : (IsTrue tells → IsTrue passing' × PassesPart stream rest) → SoFarOn tells left c old heap passing' rest number told before now
    part_on taken = record {
      so_far = part_next tells left c heap new passing passing' stream rest number told before now after so_far taken;
      steps = on.steps;
      makes = on.makes;
      is = on.is;
    }

    -- nothing more was played
    still_makes : (result : Result Next Break) → MakesSession s c old heap so_far.answered ([], core) result
    still_makes result =
        let all = sym (append-nil (asked so_far.answered)) in
        record {
          own = subst (AllByRecursion IsOfSession) all (asked_sessions so_far.answered);
          steps = subst (λ (l : List Event). AreSteps (HeapStep g) c old.disk l core heap.disk) all on.steps;
          makes = subst (λ (l : List Event). Makes c l core old heap) all (inl on.makes);
          whole = λ n done. subst (λ (l : List Event). MakesAll c l core old heap) all on.makes;
          heap = on.is;
        }

    -- the next line parts the session
    pub parted_on : ending core ≡ [] → (IsTrue tells → IsFalse passing × IsFalse passing' × IsFirstLine reopen_line stream rest) → (left' : List ℕ)
        → OfInput tells next.Reopen left rest left' (λ part rest'. ServesLinesOn s tells part rest' c old heap told before now (Ok next.Reopen))
    parted_on idle taken left' = record {
      part = part tells left c heap new passing passing' stream rest number told before now after so_far;
      rest = [];
      input = (is_part tells left c heap new passing passing' stream rest number told before now after so_far taken, refl);
      is = record { lines = lines_parted tells left c heap new passing passing' stream rest number told before now after so_far idle; makes = still_makes (Ok next.Reopen) };
    }

    -- that many bytes are left in the source now
    module _ (left' : List ℕ) where
      -- no line is left
      pub done_on : (IsTrue tells → IsFalse passing × (stream ≡ [])) → ServesLinesOn s tells left left' c old heap told before now (Ok next.End)
      done_on end = record { lines = lines_done tells left c heap new passing passing' stream rest number told before now after so_far left' end; makes = still_makes (Ok next.End) }

      -- there was no memory
      pub memory_on : ServesLinesOn s tells left left' c old heap told before now (Err (Halted halt.NoMemory))
      memory_on = record { lines = lines_nothing tells left c heap new passing passing' stream rest number told before now after so_far left'; makes = still_makes (Err (Halted halt.NoMemory)) }

      -- no line was read
      pub stopped_on : (e : LineError) (held : List ℕ) → (IsTrue tells → stream ≡ held ++ left') → (e ≡ reading.SourceFailed → IsWithinLine held) → ServesLinesOn s tells left left' c old heap told before now (Err (line_break e))
      stopped_on reading.NoMemory held streams within = memory_on
      stopped_on reading.SourceFailed held streams within = record { lines = lines_unread tells left c heap new passing passing' stream rest number told before now after so_far left' held streams (within refl); makes = still_makes (Err ReadFault) }

      -- the answer of the next line halted
      module _ (faults_kept : g.faults old.disk ≤ g.faults heap.disk) (stops_kept : g.stops old.disk ≤ g.stops heap.disk) where
        halted_on : (text : Option (List ℕ)) (h : Halt) → MayRefuse core text → AnswersOn s core number text heap new told now after (Err h) → (IsTrue tells → Unread left (texts_of so_far.answered ++ text ∷ []) passing' rest)
            → ServesLinesOn s tells left left' c old new told before after (Err (Halted h))
        halted_on text h may answers unread =
            let plays = answers.plays in
            record {
              lines = lines_halted tells left c heap new passing passing' stream rest number told before now after so_far left' text h may (answers_core s core number text heap new told now after (Err h) answers) unread;
              makes = makes_behind c core (asked so_far.answered) (named text) old heap new told answers.between after on.steps on.makes (asked_sessions so_far.answered) (named_sessions text) faults_kept stops_kept
                  so_far.answered refl plays.made plays.behind plays.core plays.parts (Err (Halted h)) plays.steps (ends_makes core plays.made plays.behind plays.core heap new (Err h) plays.ends) (λ n done. cc) plays.heap;
            }

        pub line_halted_on : (text : List ℕ) (h : Halt) → MayRefuse core (Some text) → (IsTrue tells → IsFalse passing × IsFalse passing' × IsFirstLine text stream rest) → AnswersOn s core number (Some text) heap new told now after (Err h) → ServesLinesOn s tells left left' c old new told before after (Err (Halted h))
        line_halted_on text h may taken answers = halted_on (Some text) h may answers (behind_line tells left c heap new passing passing' stream rest number told before now after so_far text taken)

        pub long_halted_on : (h : Halt) → (IsTrue tells → IsFalse passing' × EndsTooLong passing stream rest) → AnswersOn s core number None heap new told now after (Err h) → ServesLinesOn s tells left left' c old new told before after (Err (Halted h))
        long_halted_on h taken answers = halted_on None h (never tells left c heap new passing passing' stream rest number told before now after so_far) answers (behind_long tells left c heap new passing passing' stream rest number told before now after so_far taken)
