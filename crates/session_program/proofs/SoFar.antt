-- A session between two lines.
use Rattle.std.proofs.Common.{◌≡◌, inl, inr, ℕ, ◌+◌, Bool, false, true, List, [], ◌∷◌, ◌++◌, length, map, Option, None, Some, Ok, Err, refl, sym, ap, ◌∙◌, subst, arith, append_assoc, length-append}
use Rattle.std.specs.Prelude.{IsTrue, IsFalse}
use Rattle.std.proofs.lemmas.List.{append-nil}
use Rattle.disk_model.specs.declared.disk.Disk.{Ghosts}
use Rattle.heap_core.specs.declared.heap.Heap.{Heap}
use Rattle.heap_core.specs.Refinement.{IsCore}
use Rattle.heap_model.specs.Core.{Core}
use Rattle.heap_model.specs.Ending.{ending}
use Rattle.heap_program.specs.declared.play.Halt.{Halt}
use Rattle.heap_program.specs.declared.play.Halt.TheVariants as halt
use Rattle.heap_program.specs.Play.{IsRunning}
use Rattle.heap_program.proofs.CoreSteps.{running_after}
use Rattle.heap_program.proofs.Ready.{AreReady}
use Rattle.line_reader.specs.Taking.{IsWithinLine, IsFirstLine, EndsTooLong, PassesPart}
use Rattle.line_reader.specs.declared.reader.LineError.{LineError}
use Rattle.line_reader.specs.declared.reader.LineError.TheVariants as reading
use Rattle.script_text.specs.Script.{lines}
use Rattle.session_program.specs.Ending.{line_break}
use Rattle.session_program.specs.declared.ending.Break.TheVariants.{Halted, ReadFault}
use Rattle.session_program.specs.declared.parts.Next.TheVariants as next
use Rattle.session_program.specs.Lines.{Answered, as_taken, fault_of, reopen_line}
use Rattle.session_program.specs.Session.{HasAnswered, Answers, Wrote, AreFirst, AnswersTaken, ServesLines, StopsThere, MayRefuse, IsPart, OfInput}
use Rattle.session_program.proofs.Answering.{named_sessions, texts_more, answered_none, answered_next, its, whole}
use Rattle.session_program.proofs.Unread.{Unread, unread_all, unread_line, unread_long, unread_part, unread_cut, unread_none, within_both}

-- their texts
abbrev pub texts_of : List Answered → List (Option (List ℕ))
texts_of answered = map (λ (a : Answered). a.text) answered

pub same_length : (answered : List Answered) → length (texts_of answered) ≡ length answered
same_length [] = refl
same_length (a ∷ answered) = let e = same_length answered in omega (arith, e)

-- what was taken of a modelled input
abbrev pub part_of : (tells : Bool) (left : List ℕ) (texts : List (Option (List ℕ))) (passing : Bool) (stream : List ℕ) → (IsTrue tells → Unread left texts passing stream) → List ℕ
part_of true left texts passing stream unread = (unread refl).taken
part_of false left texts passing stream unread = []

pub part_answered : (tells : Bool) (left : List ℕ) (texts : List (Option (List ℕ))) (passing : Bool) (stream : List ℕ) (unread : IsTrue tells → Unread left texts passing stream) → IsTrue tells
    → map as_taken (lines (part_of tells left texts passing stream unread)) ≡ texts
part_answered true left texts passing stream unread t = (unread refl).answered
part_answered false left texts passing stream unread t = absurd (cc t)

pub part_is : (tells : Bool) (left : List ℕ) (texts : List (Option (List ℕ))) (passing passing' : Bool) (stream rest : List ℕ) (unread : IsTrue tells → Unread left texts passing stream)
    → (IsTrue tells → IsFalse passing × IsFalse passing' × IsFirstLine reopen_line stream rest) → IsTrue tells → IsPart (part_of tells left texts passing stream unread) left rest
part_is true left texts passing passing' stream rest unread taken t = let u = taken refl in unread_cut left texts passing passing' stream rest (unread refl) u.0 u.2
part_is false left texts passing passing' stream rest unread taken t = absurd (cc t)

module _ {D : Type 0} {g : Ghosts D} where
  -- Lines were answered from a core on, and the next one has that number.
  pub record SoFar (tells : Bool) (left : List ℕ) (c : Core) (heap : Heap D g) (passing : Bool) (stream : List ℕ) (number : ℕ) (told : Bool) (before now : List ℕ) : Type 0 where
    pub answered : List Answered
    pub core : Core
    pub answers : HasAnswered c answered core told before now
    pub is : IsCore core heap
    pub running : IsRunning core
    pub count : number ≡ length answered + 1
    pub unread : IsTrue tells → Unread left (texts_of answered) passing stream

  abbrev pub so_far_none : (tells : Bool) (left : List ℕ) (c : Core) (heap : Heap D g) (passing : Bool) (fresh : IsTrue tells → IsFalse passing) (told : Bool) (before : List ℕ) → IsCore c heap → IsRunning c → SoFar tells left c heap passing left 1 told before before
  so_far_none tells left c heap passing fresh told before is running = record {
    answered = [];
    core = c;
    answers = answered_none c told before;
    is = is;
    running = running;
    count = omega arith;
    unread = λ t. unread_all left passing (fresh t);
  }

  module _ (tells : Bool) (left : List ℕ) (c : Core) (heap new : Heap D g) (passing passing' : Bool) (stream rest : List ℕ) (number : ℕ) (told : Bool) (before now after : List ℕ)
      (so_far : SoFar tells left c heap passing stream number told before now) where
    -- one more line
    abbrev pub so_far_next : (text : Option (List ℕ)) → MayRefuse so_far.core text → Answers so_far.core number text new told now after (Ok tt) → (IsTrue tells → Unread left (texts_of so_far.answered ++ text ∷ []) passing' rest)
        → SoFar tells left c new passing' rest (number + 1) told before after
    so_far_next text may answers unread =
        let a = its c so_far.core so_far.answered told before now after so_far.answers number so_far.count text new answers in
        let made = whole c so_far.core so_far.answered told before now after so_far.answers number so_far.count text new answers in
        let ready : AreReady so_far.core _ = record { running = so_far.running; sessions = named_sessions text } in
        record {
          answered = so_far.answered ++ a ∷ [];
          core = answers.plays.core;
          answers = answered_next c so_far.core so_far.answered told before now after so_far.answers number so_far.count text new answers may;
          is = answers.plays.is;
          running = subst IsRunning (sym made) (running_after so_far.core _ ready);
          count = omega (arith, so_far.count, length-append so_far.answered (a ∷ []));
          unread = λ t. subst (λ (l : List (Option (List ℕ))). Unread left l passing' rest) (sym (texts_more so_far.answered a)) (unread t);
        }

    -- a part of a line went
    abbrev pub so_far_part : (IsTrue tells → Unread left (texts_of so_far.answered) passing' rest) → SoFar tells left c heap passing' rest number told before now
    so_far_part unread = record {
      answered = so_far.answered;
      core = so_far.core;
      answers = so_far.answers;
      is = so_far.is;
      running = so_far.running;
      count = so_far.count;
      unread = unread;
    }

    -- a line that is too long is no `reopen`
    abbrev pub never : MayRefuse so_far.core None
    never is = absurd (cc is)

    -- what is unread after the next line
    pub behind_line : (text : List ℕ) → (IsTrue tells → IsFalse passing × IsFalse passing' × IsFirstLine text stream rest) → IsTrue tells → Unread left (texts_of so_far.answered ++ Some text ∷ []) passing' rest
    behind_line text taken t = let u = taken t in unread_line left (texts_of so_far.answered) passing passing' stream rest (so_far.unread t) text u.0 u.1 u.2

    -- and after one that is too long
    pub behind_long : (IsTrue tells → IsFalse passing' × EndsTooLong passing stream rest) → IsTrue tells → Unread left (texts_of so_far.answered ++ None ∷ []) passing' rest
    behind_long taken t = let u = taken t in unread_long left (texts_of so_far.answered) passing passing' stream rest (so_far.unread t) u.0 u.1

    abbrev pub line_next : (text : List ℕ) → MayRefuse so_far.core (Some text) → (IsTrue tells → IsFalse passing × IsFalse passing' × IsFirstLine text stream rest) → Answers so_far.core number (Some text) new told now after (Ok tt) → SoFar tells left c new passing' rest (number + 1) told before after
    line_next text may taken answers = so_far_next (Some text) may answers (behind_line text taken)

    abbrev pub long_next : (IsTrue tells → IsFalse passing' × EndsTooLong passing stream rest) → Answers so_far.core number None new told now after (Ok tt) → SoFar tells left c new passing' rest (number + 1) told before after
    long_next taken answers = so_far_next None never answers (behind_long taken)

    abbrev pub part_next : (IsTrue tells → IsTrue passing' × PassesPart stream rest) → SoFar tells left c heap passing' rest number told before now
    part_next taken = so_far_part (λ t. let u = taken t in unread_part left (texts_of so_far.answered) passing passing' stream rest (so_far.unread t) u.0 u.1)

    pub first : IsTrue tells → AreFirst (texts_of so_far.answered) left
    first t = let u = so_far.unread t in (_, u.left_lines)

    pub there : now ≡ now → StopsThere so_far.core heap told now now
    there e = record { is = so_far.is; nothing = λ t. refl }

    -- the bytes of the lines that were answered
    abbrev pub part : List ℕ
    part = part_of tells left (texts_of so_far.answered) passing stream so_far.unread

    -- the next line parts the session
    abbrev pub lines_parted : ending so_far.core ≡ [] → ServesLines tells part [] c heap told before now (Ok next.Reopen)
    lines_parted idle =
        let all = part_answered tells left (texts_of so_far.answered) passing stream so_far.unread in
        record {
          answered = so_far.answered;
          core = so_far.core;
          between = now;
          answers = so_far.answers;
          first = λ t. ([], all t ∙ sym (append-nil (texts_of so_far.answered)));
          ended = (all, there refl, idle);
        }

    pub is_part : (IsTrue tells → IsFalse passing × IsFalse passing' × IsFirstLine reopen_line stream rest) → IsTrue tells → IsPart part left rest
    is_part taken = part_is tells left (texts_of so_far.answered) passing passing' stream rest so_far.unread taken

    pub parted : ending so_far.core ≡ [] → (IsTrue tells → IsFalse passing × IsFalse passing' × IsFirstLine reopen_line stream rest) → (left' : List ℕ)
        → OfInput tells next.Reopen left rest left' (λ part rest'. ServesLines tells part rest' c heap told before now (Ok next.Reopen))
    parted idle taken left' = record { part = part; rest = []; input = (is_part taken, refl); is = lines_parted idle }

    -- that many bytes are left in the source now
    module _ (left' : List ℕ) where
      -- no line is left
      abbrev pub lines_done : (IsTrue tells → IsFalse passing × (stream ≡ [])) → ServesLines tells left left' c heap told before now (Ok next.End)
      lines_done end = record {
        answered = so_far.answered;
        core = so_far.core;
        between = now;
        answers = so_far.answers;
        first = first;
        ended = ((λ t. unread_none left (texts_of so_far.answered) passing passing stream stream (so_far.unread t) (end t).0 (end t).1), there refl, tt);
      }

      -- what was taken but not answered is no whole line
      pub taken : (held : List ℕ) → (IsTrue tells → stream ≡ held ++ left') → IsWithinLine held → IsTrue tells → AnswersTaken (texts_of so_far.answered) left left'
      taken held same within t =
          let u = so_far.unread t in record {
            taken = u.taken;
            hand = u.front ++ held;
            parts = u.parts ∙ ap (λ (l : List ℕ). u.taken ++ (u.front ++ l)) (same t) ∙ ap (λ (l : List ℕ). u.taken ++ l) (sym (append_assoc u.front held left'))
                ∙ sym (append_assoc u.taken (u.front ++ held) left');
            answered = u.answered;
            within = within_both u.front held u.within within;
          }

      -- the next line could not be read
      abbrev pub lines_unread : (held : List ℕ) → (IsTrue tells → stream ≡ held ++ left') → IsWithinLine held → ServesLines tells left left' c heap told before now (Err ReadFault)
      lines_unread held same within = record { answered = so_far.answered; core = so_far.core; between = now; answers = so_far.answers; first = first; ended = (there refl, taken held same within) }

      -- nor did memory suffice
      abbrev pub lines_nothing : ServesLines tells left left' c heap told before now (Err (Halted halt.NoMemory))
      lines_nothing = record { answered = so_far.answered; core = so_far.core; between = now; answers = so_far.answers; first = first; ended = inr (refl, there refl) }

      -- the answer of the next line halted
      abbrev pub lines_halted : (text : Option (List ℕ)) (h : Halt) → MayRefuse so_far.core text → Answers so_far.core number text new told now after (Err h) → (IsTrue tells → Unread left (texts_of so_far.answered ++ text ∷ []) passing' rest)
          → ServesLines tells left left' c new told before after (Err (Halted h))
      lines_halted text h may answers unread =
          let count : number ≡ length (texts_of so_far.answered) + 1 = so_far.count ∙ ap (λ (n : ℕ). n + 1) (sym (same_length so_far.answered)) in
          record {
            answered = so_far.answered;
            core = so_far.core;
            between = now;
            answers = so_far.answers;
            first = first;
            ended = inl (record {
              text = text;
              next = λ t. (_, (unread t).left_lines);
              refused = may;
              answers = record {
                between = answers.between;
                fault = subst (λ (n : ℕ). IsTrue told → Wrote (Err h) now (fault_of n text) answers.between) count answers.fault;
                plays = answers.plays;
              };
            });
          }

      abbrev pub line_halted : (text : List ℕ) (h : Halt) → MayRefuse so_far.core (Some text) → (IsTrue tells → IsFalse passing × IsFalse passing' × IsFirstLine text stream rest) → Answers so_far.core number (Some text) new told now after (Err h) → ServesLines tells left left' c new told before after (Err (Halted h))
      line_halted text h may taken answers = lines_halted (Some text) h may answers (behind_line text taken)

      abbrev pub long_halted : (h : Halt) → (IsTrue tells → IsFalse passing' × EndsTooLong passing stream rest) → Answers so_far.core number None new told now after (Err h) → ServesLines tells left left' c new told before after (Err (Halted h))
      long_halted h taken answers = lines_halted None h never answers (behind_long taken)

      -- no line was read
      pub lines_stopped : (e : LineError) (held : List ℕ) → (IsTrue tells → stream ≡ held ++ left') → (e ≡ reading.SourceFailed → IsWithinLine held) → ServesLines tells left left' c heap told before now (Err (line_break e))
      lines_stopped reading.NoMemory held same within = lines_nothing
      lines_stopped reading.SourceFailed held same within = lines_unread held same (within refl)
