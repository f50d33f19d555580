-- Each session keeps to the limits of a heap that was just opened.
use Rattle.std.proofs.Common.{◌≡◌, inl, inr, ℕ, Bool, List, [], ◌++◌, map, Option, Result, Ok, Err, subst}
use Rattle.std.specs.List.{AllByRecursion}
use Rattle.disk_model.specs.declared.disk.Disk.{Ghosts}
use Rattle.graph_model.specs.declared.event.Event.{Event}
use Rattle.graph_model.specs.History.{IsOfSession}
use Rattle.heap_core.specs.declared.heap.Heap.{Heap}
use Rattle.heap_model.specs.Core.{Core}
use Rattle.log_machine.proofs.ListLaws.{AllByRecursion-append}
use Rattle.core_laws.specs.Valid.{IsReached}
use Rattle.core_laws.proofs.Run.Calls.{of_session_front}
use Rattle.core_laws.proofs.Run.Ending.{ending_of_session}
use Rattle.heap_program.specs.Limits.{KeepsLimits}
use Rattle.heap_program.proofs.Limits.{limits_law}
use Rattle.session_program.specs.declared.ending.Break.{Break}
use Rattle.session_program.specs.declared.ending.Break.TheVariants.{Halted, ReadFault}
use Rattle.session_program.specs.declared.parts.Next.{Next}
use Rattle.session_program.specs.Lines.{asked}
use Rattle.session_program.specs.Session.{Ends, Serves, session_last, last_of}
use Rattle.session_program.proofs.Answering.{asked_sessions, named_sessions}

-- the first of some events of sessions
front : (events made behind : List Event) → events ≡ made ++ behind → AllByRecursion IsOfSession events → AllByRecursion IsOfSession made
front events made behind parts of = of_session_front made behind (subst (AllByRecursion IsOfSession) parts of)

module _ {D : Type 0} {g : Ghosts D} (tells : Bool) (left rest : List ℕ) (new : Heap D g) (told : Bool) (after : List ℕ) where
  last_sessions : (result : Result Next Break) (texts : List (Option (List ℕ))) (c : Core) (between : List ℕ) (ended : Ends tells left rest new told after result texts c between)
      → AllByRecursion IsOfSession (session_last tells left rest new told after result texts c between ended).0
  last_sessions (Ok n) texts c between ended = let plays = ended.0.plays in front _ plays.made plays.behind plays.parts (ending_of_session c)
  last_sessions (Err ReadFault) texts c between ended = tt
  last_sessions (Err (Halted h)) texts c between (inl line) = let plays = line.answers.plays in front _ plays.made plays.behind plays.parts (named_sessions line.text)
  last_sessions (Err (Halted h)) texts c between (inr (inl whole)) = let plays = whole.plays in front _ plays.made plays.behind plays.parts (ending_of_session c)
  last_sessions (Err (Halted h)) texts c between (inr (inr nothing)) = tt

  pub session_limits : (c : Core) (before : List ℕ) (result : Result Next Break) (serves : Serves tells left rest c new told before after result) → IsReached c → c.history ≡ []
      → KeepsLimits c (asked serves.answered ++ (last_of tells left rest c new told before after result serves).0) (last_of tells left rest c new told before after result serves).1
  session_limits c before result serves reached fresh =
      let last = last_of tells left rest c new told before after result serves in
      limits_law c reached fresh (asked serves.answered ++ last.0)
      (AllByRecursion-append IsOfSession (asked serves.answered) last.0 (asked_sessions serves.answered) (last_sessions result (map (λ a. a.text) serves.answered) serves.core serves.between serves.ended)) last.1
