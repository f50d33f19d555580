-- A script was played on one heap by several workers.
use Rattle.std.specs.Prelude.{◌≡◌, ◌⊎◌, ℕ, ◌+◌, List, [], length, IsErr, MatchResult, Result, Some, slice_get}
use Rattle.std.specs.List.{AllByRecursion}
use Rattle.std.specs.declared.alloc.AllocError.{AllocError}
use Rattle.graph_model.specs.declared.reply.Entry.{Entry}
use Rattle.heap_workers.specs.Playing.{Played, IsBegun, IsUnfinished}
use Rattle.script_text.specs.declared.line.Line.{Line}
use Rattle.script_workers.specs.Workers.{worker_events}
use Rattle.turn_lock.specs.Merging.{Rise, entries_of}
use Rattle.turn_lock.specs.Turning.{EachOnce, StandIn, places, times, total}

-- what one worker has sent of a script, or a prefix of that, if some worker ran out of memory
abbrev pub IsPart : ℕ → List Line → Result (Unit {0}) AllocError → ℕ → List Entry → Type 0
IsPart tries lines end number part = MatchResult end (λ _. Played tries (worker_events number lines) part) (λ _. IsBegun tries (worker_events number lines) part)

-- some worker has not sent all of its lines
pub record IsCutAt (tries : ℕ) (lines : List Line) (mine : List (List (ℕ × Entry))) : Type 0 where
  pub place : ℕ
  pub placed : List (ℕ × Entry)
  pub at : slice_get mine place ≡ Some placed
  pub unfinished : IsUnfinished tries (worker_events (place + 1) lines) (entries_of placed)

-- After its first `before` entries a history has those of the workers of a script, and no others: each place is one worker's, once, with the entry
-- that stands there; each worker's places ascend, and its entries are what it sends of its lines.
pub record IsWorked (tries : ℕ) (lines : List Line) (before : ℕ) (history : List Entry) (end : Result (Unit {0}) AllocError) : Type 0 where
  pub mine : List (List (ℕ × Entry))
  pub count : length mine ≡ 34
  pub stand : AllByRecursion (λ placed. StandIn history placed × Rise 0 placed) mine
  pub once : EachOnce (λ place. total (λ placed. times place (places placed)) mine) before (length history)
  pub part : (i : ℕ) (placed : List (ℕ × Entry)) → slice_get mine i ≡ Some placed → IsPart tries lines end (i + 1) (entries_of placed)
  -- if memory ran out nothing was sent, or some worker has not sent all
  pub ran_out : IsErr end → AllByRecursion (λ placed. placed ≡ []) mine ⊎ IsCutAt tries lines mine
