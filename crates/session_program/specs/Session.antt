-- What a session promises.
use Rattle.std.specs.Prelude.{◌≡◌, ◌≢◌, ◌⊎◌, ℕ, ◌+◌, List, [], ◌∷◌, ◌++◌, length, map, Bool, IsTrue, Option, Some, Result, Ok, Err}
use Rattle.std.specs.List.{AllByRecursion}
use Rattle.std.proofs.Common.{inl, inr}
use Rattle.disk_model.specs.declared.disk.Disk.{Ghosts}
use Rattle.graph_model.specs.declared.event.Event.{Event}
use Rattle.graph_model.specs.History.{IsOfSession}
use Rattle.image_plan.specs.declared.superblock.Super.{Super}
use Rattle.heap_core.specs.declared.heap.Heap.{Heap}
use Rattle.heap_core.specs.HeapState.{heap_disk}
use Rattle.heap_core.specs.Refinement.{IsCore, IsHeap}
use Rattle.heap_model.specs.Core.{Core}
use Rattle.heap_model.specs.CoreRuns.{after_events}
use Rattle.heap_model.specs.Ending.{ending}
use Rattle.heap_program.specs.declared.play.Halt.{Halt}
use Rattle.heap_program.specs.declared.play.Halt.TheVariants as halt
use Rattle.heap_program.specs.declared.status.Status.{Status}
use Rattle.heap_program.specs.Headline.{IsOpened}
use Rattle.heap_program.specs.Limits.{KeepsLimits}
use Rattle.heap_program.specs.Play.{MadeAll, PlaysCore, Plays, MakesAll, Makes, WroteFront}
use Rattle.heap_core.specs.Steps.{HeapStep, AreSteps}
use Rattle.line_reader.specs.Taking.{IsWithinLine, IsCutAt}
use Rattle.script_text.specs.Script.{lines}
use Rattle.session_program.specs.declared.ending.Break.{Break}
use Rattle.session_program.specs.declared.ending.Break.TheVariants.{Halted, ReadFault}
use Rattle.session_program.specs.declared.parts.Next.{Next}
use Rattle.session_program.specs.declared.parts.Next.TheVariants as next
use Rattle.session_program.specs.Ending.{session_status, next_of}
use Rattle.session_program.specs.Lines.{reopen_line, Answered, IsOfItsEvents, asked, heard_of, answers_text, named, fault_of, as_taken}
use Rattle.heap_model.specs.Image.{StoredHeap}

-- A line `reopen` may be refused there: a session has a transaction, or records are pending.
abbrev pub MayRefuse : Core → Option (List ℕ) → Type 0
MayRefuse c text = text ≡ Some reopen_line → ending c ≢ []

-- Each line `reopen` among these was refused as it may be.
abbrev pub RefusesReopens : Core → List Answered → Type 0
RefusesReopens c [] = Unit {0}
RefusesReopens c (a ∷ answered) = MayRefuse c a.text × RefusesReopens (after_events c (named a.text)) answered

-- Lines were answered from a core on: the disk did what it was asked in all of their events, which are a run of the core, and each
-- answer was written after the one before it.
pub record HasAnswered (c : Core) (answered : List Answered) (d : Core) (told : Bool) (before after : List ℕ) : Type 0 where
  pub made : MadeAll c (asked answered) d
  pub heard : d.history ≡ c.history ++ heard_of answered
  pub own : AllByRecursion IsOfItsEvents answered
  pub refused : RefusesReopens c answered
  pub written : IsTrue told → after ≡ before ++ answers_text 1 answered

-- A text was written, or a prefix of it if that halted.
abbrev pub Wrote : Result (Unit {0}) Halt → List ℕ → List ℕ → List ℕ → Type 0
Wrote (Ok done) before text after = after ≡ before ++ text
Wrote (Err h) before text after = WroteFront before text after

-- These are the first lines of an input.
abbrev pub AreFirst : List (Option (List ℕ)) → List ℕ → Type 0
AreFirst texts left = (behind : List (Option (List ℕ))) × (map as_taken (lines left) ≡ texts ++ behind)

-- All lines of an input were answered of which a whole one was taken from its source, which has the rest left: what was taken is these lines and, in hand,
-- bytes without a newline.
pub record AnswersTaken (texts : List (Option (List ℕ))) (left rest : List ℕ) : Type 0 where
  pub taken : List ℕ
  pub hand : List ℕ
  pub parts : left ≡ taken ++ hand ++ rest
  pub answered : map as_taken (lines taken) ≡ texts
  pub within : IsWithinLine hand

-- A part of a stream, up to a line `reopen`, and the rest of the stream after that line.
pub record IsPart (part stream rest : List ℕ) : Type 0 where
  pub behind : List ℕ
  pub parts : stream ≡ part ++ behind
  pub cut : IsCutAt reopen_line behind rest
  pub are : lines stream ≡ lines part ++ reopen_line ∷ lines rest

-- What a part of a session had as its input, and what of it is left in the source: its stream, or the part of that up to a line `reopen`.
abbrev pub InputOf : Bool → Next → List ℕ → List ℕ → List ℕ → List ℕ → List ℕ → Type 0
InputOf tells next.End stream stream' left' part rest = (part ≡ stream) × (rest ≡ left')
InputOf tells next.Reopen stream stream' left' part rest = (IsTrue tells → IsPart part stream stream') × (rest ≡ [])

-- A part of a session had some input, of which something holds.
pub record OfInput (tells : Bool) (n : Next) (stream stream' left' : List ℕ) (holds : List ℕ → List ℕ → Type 0) : Type 0 where
  pub part : List ℕ
  pub rest : List ℕ
  pub input : InputOf tells n stream stream' left' part rest
  pub is : holds part rest

-- If the heap is to be opened again, nothing has to be done before.
abbrev pub IsIdle : Next → Core → Type 0
IsIdle next.End c = Unit {0}
IsIdle next.Reopen c = ending c ≡ []

-- Lines were answered from a core on, the first ones of a modelled input, and then it ended so.
pub record Session (tells : Bool) (left : List ℕ) (c : Core) (told : Bool) (before : List ℕ) (ends : List (Option (List ℕ)) → Core → List ℕ → Type 0) : Type 0 where
  pub answered : List Answered
  pub core : Core
  pub between : List ℕ
  pub answers : HasAnswered c answered core told before between
  pub first : IsTrue tells → AreFirst (map (λ a. a.text) answered) left
  pub ended : ends (map (λ a. a.text) answered) core between

module _ {D : Type 0} {g : Ghosts D} where
  -- The line with that number was answered, or that halted: what is answered to it was written, and its events were played.
  pub record Answers (c : Core) (number : ℕ) (text : Option (List ℕ)) (new : Heap D g) (told : Bool) (before after : List ℕ) (result : Result (Unit {0}) Halt) : Type 0 where
    pub between : List ℕ
    pub fault : IsTrue told → Wrote result before (fault_of number text) between
    pub plays : PlaysCore c (named text) new told between after result

  -- On a modelled disk: likewise, and each step says what it left on the disk.
  pub record AnswersOn (s : Super) (c : Core) (number : ℕ) (text : Option (List ℕ)) (old new : Heap D g) (told : Bool) (before after : List ℕ) (result : Result (Unit {0}) Halt) : Type 0 where
    pub between : List ℕ
    pub fault : IsTrue told → Wrote result before (fault_of number text) between
    pub plays : Plays s c (named text) old new told between after result

  -- The next line was taken, and its answer halted.
  pub record HaltsAtLine (tells : Bool) (left : List ℕ) (texts : List (Option (List ℕ))) (c : Core) (new : Heap D g) (told : Bool) (before after : List ℕ) (h : Halt) : Type 0 where
    pub text : Option (List ℕ)
    pub next : IsTrue tells → AreFirst (texts ++ text ∷ []) left
    pub refused : MayRefuse c text
    pub answers : Answers c (length texts + 1) text new told before after (Err h)

  -- These were all lines, and the events that end a session were played.
  pub record PlaysEnding (tells : Bool) (left : List ℕ) (texts : List (Option (List ℕ))) (c : Core) (new : Heap D g) (told : Bool) (before after : List ℕ) (result : Result (Unit {0}) Halt) : Type 0 where
    pub all : IsTrue tells → map as_taken (lines left) ≡ texts
    pub plays : PlaysCore c (ending c) new told before after result

  -- No further line was taken, and nothing was written.
  pub record StopsThere (c : Core) (new : Heap D g) (told : Bool) (before after : List ℕ) : Type 0 where
    pub is : IsCore c new
    pub nothing : IsTrue told → after ≡ before

  module _ (tells : Bool) (left rest : List ℕ) (new : Heap D g) (told : Bool) (after : List ℕ) where
    -- How the answering of lines ends.
    abbrev pub EndsLines : Result Next Break → List (Option (List ℕ)) → Core → List ℕ → Type 0
    EndsLines (Ok n) texts c between = (IsTrue tells → map as_taken (lines left) ≡ texts) × StopsThere c new told between after × IsIdle n c
    EndsLines (Err ReadFault) texts c between = StopsThere c new told between after × (IsTrue tells → AnswersTaken texts left rest)
    EndsLines (Err (Halted h)) texts c between = HaltsAtLine tells left texts c new told between after h ⊎ ((h ≡ halt.NoMemory) × StopsThere c new told between after)

    -- How a session ends.
    abbrev pub Ends : Result Next Break → List (Option (List ℕ)) → Core → List ℕ → Type 0
    Ends (Ok n) texts c between = PlaysEnding tells left texts c new told between after (Ok tt) × IsIdle n c
    Ends (Err ReadFault) texts c between = StopsThere c new told between after × (IsTrue tells → AnswersTaken texts left rest)
    Ends (Err (Halted h)) texts c between =
        HaltsAtLine tells left texts c new told between after h ⊎ PlaysEnding tells left texts c new told between after (Err h) ⊎ ((h ≡ halt.NoMemory) × StopsThere c new told between after)

    -- what was played after the lines that were answered: the events that were made, and the core that they led to
    abbrev pub lines_last : (result : Result Next Break) (texts : List (Option (List ℕ))) (c : Core) (between : List ℕ) → EndsLines result texts c between → List Event × Core
    lines_last (Ok n) texts c between ended = ([], c)
    lines_last (Err ReadFault) texts c between ended = ([], c)
    lines_last (Err (Halted h)) texts c between (inl line) = (line.answers.plays.made, line.answers.plays.core)
    lines_last (Err (Halted h)) texts c between (inr nothing) = ([], c)

    abbrev pub session_last : (result : Result Next Break) (texts : List (Option (List ℕ))) (c : Core) (between : List ℕ) → Ends result texts c between → List Event × Core
    session_last (Ok n) texts c between ended = (ended.0.plays.made, ended.0.plays.core)
    session_last (Err ReadFault) texts c between ended = ([], c)
    session_last (Err (Halted h)) texts c between (inl line) = (line.answers.plays.made, line.answers.plays.core)
    session_last (Err (Halted h)) texts c between (inr (inl whole)) = (whole.plays.made, whole.plays.core)
    session_last (Err (Halted h)) texts c between (inr (inr nothing)) = ([], c)

  -- On any disk: lines were answered.
  abbrev pub ServesLines : Bool → List ℕ → List ℕ → Core → Heap D g → Bool → List ℕ → List ℕ → Result Next Break → Type 0
  ServesLines tells left rest c new told before after result = Session tells left c told before (EndsLines tells left rest new told after result)

  -- On any disk: a session was served.
  abbrev pub Serves : Bool → List ℕ → List ℕ → Core → Heap D g → Bool → List ℕ → List ℕ → Result Next Break → Type 0
  Serves tells left rest c new told before after result = Session tells left c told before (Ends tells left rest new told after result)

  -- what was played last in them
  abbrev pub last_of_lines : (tells : Bool) (left rest : List ℕ) (c : Core) (new : Heap D g) (told : Bool) (before after : List ℕ) (result : Result Next Break) → ServesLines tells left rest c new told before after result → List Event × Core
  last_of_lines tells left rest c new told before after result lines = lines_last tells left rest new told after result (map (λ a. a.text) lines.answered) lines.core lines.between lines.ended

  abbrev pub last_of : (tells : Bool) (left rest : List ℕ) (c : Core) (new : Heap D g) (told : Bool) (before after : List ℕ) (result : Result Next Break) → Serves tells left rest c new told before after result → List Event × Core
  last_of tells left rest c new told before after result serves = session_last tells left rest new told after result (map (λ a. a.text) serves.answered) serves.core serves.between serves.ended

  -- On a modelled disk: the events of the lines that were answered were made, and those that were played last, and each step says what it
  -- left on the disk.
  pub record MakesSession (s : Super) (c : Core) (old new : Heap D g) (answered : List Answered) (last : List Event × Core) (result : Result Next Break) : Type 0 where
    pub own : AllByRecursion IsOfSession (asked answered ++ last.0)
    pub steps : AreSteps (HeapStep g) c old.disk (asked answered ++ last.0) last.1 new.disk
    pub makes : Makes c (asked answered ++ last.0) last.1 old new
    pub whole : (n : Next) → result ≡ Ok n → MakesAll c (asked answered ++ last.0) last.1 old new
    pub heap : IsHeap s last.1 new

  -- Lines were answered so.
  pub record ServesLinesOn (s : Super) (tells : Bool) (left rest : List ℕ) (c : Core) (old new : Heap D g) (told : Bool) (before after : List ℕ) (result : Result Next Break) : Type 0 where
    pub lines : ServesLines tells left rest c new told before after result
    pub makes : MakesSession s c old new lines.answered (last_of_lines tells left rest c new told before after result lines) result

  -- A session was served so.
  pub record ServesOn (s : Super) (tells : Bool) (left rest : List ℕ) (c : Core) (old new : Heap D g) (told : Bool) (before after : List ℕ) (result : Result Next Break) : Type 0 where
    pub serves : Serves tells left rest c new told before after result
    pub makes : MakesSession s c old new serves.answered (last_of tells left rest c new told before after result serves) result

-- A heap was opened, with some graph, on a shaped log beside stored pages as `from` says, and a session was served on it.
pub record ServesHeap {D : Type 0} (g : Ghosts D) (from : StoredHeap → (ℕ → ℕ) → Type 0) (tells : Bool) (left rest : List ℕ) (final : D) (by : Status) (n : Next) (told : Bool) (before after : List ℕ) : Type 0 where
  pub first : Core
  pub opened : IsOpened first
  pub image : from opened.heap opened.gates
  pub heap : Heap D g
  pub disk : final ≡ heap_disk heap
  pub result : Result Next Break
  pub status : by ≡ session_status result
  pub next : n ≡ next_of result
  pub serves : Serves tells left rest first heap told before after result
  -- the events of the lines that were answered, and those that were played last, keep to the limits of a heap
  pub limits : KeepsLimits first (asked serves.answered ++ (last_of tells left rest first heap told before after result serves).0) (last_of tells left rest first heap told before after result serves).1
