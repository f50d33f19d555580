-- The events that end a run of workers.
use Rattle.std.specs.Prelude.{◌≡◌, ◌≢◌, ◌⊎◌, ◌++◌, Bool, true, false, List, [], None, Result, Ok, Err}
use Rattle.std.specs.declared.alloc.AllocError.{AllocError}
use Rattle.graph_model.specs.declared.event.Event.{Event}
use Rattle.graph_model.specs.History.{account}
use Rattle.heap_program.specs.declared.play.Halt.{Halt}
use Rattle.heap_program.specs.declared.play.Halt.TheVariants as halt
use Rattle.heap_model.specs.Core.{Core}
use Rattle.heap_model.specs.Ending.{ending}

-- whether a play made all its events, or the disk failed or stopped in the last one
abbrev pub is_played_out : Result (Unit {0}) Halt → Bool
is_played_out (Ok done) = true
is_played_out (Err halt.DiskFault) = true
is_played_out (Err halt.Stopped) = true
is_played_out (Err other) = false

-- Of the events that end a run these were made, and reached a core: the first of them if memory ran out, otherwise all of them, or the first up to
-- one in which the disk failed or stopped. None is made where it had done so before.
pub record EndsBy (c : Core) (result : Result (Unit {0}) AllocError) (rose : Type 0) (reaches : List Event → Core → Type 0) : Type 0 where
  pub made : List Event
  pub unmade : List Event
  pub core : Core
  pub reached : reaches made core
  pub parts : ending c ≡ made ++ unmade
  pub none : (account c.history).failed ≢ None → made ≡ []
  pub all : result ≡ Ok tt → (unmade ≡ []) ⊎ ((account core.history).failed ≢ None)
  -- it fails only if a count of the disk's failures and stops rose
  pub cause : result ≡ Ok tt → (account c.history).failed ≡ None → (account core.history).failed ≢ None → rose
