-- Records that are pending after those that encode a graph.
use Rattle.std.proofs.Common.{◌≡◌, ℕ, ◌+◌, Bool, List, [], ◌∷◌, ◌++◌, refl, arith}
use Rattle.graph_model.specs.Graph.{Graph}
use Rattle.log_records.specs.declared.Record.{Record}
use Rattle.log_machine.specs.Machine.{State, start}
use Rattle.log_machine.specs.Sound.{AreLosers}
use Rattle.log_machine.proofs.StateLaws.{sound_start, sound_after_all}
use Rattle.graph_words.specs.Places.{Places}
use Rattle.heap_model.specs.Core.{Core, used, need}
use Rattle.heap_model.proofs.Step.Room.{length-pending_batch-append}
use Rattle.heap_model.specs.CoreTold.{IsTold}

-- What the active transaction wrote and what is kept for it.

-- a state that records reach is sound
pub told_sound : {pages first_number : ℕ} {born : Bool} {places remaining : Places} {g : Graph} {k : ℕ} {records : List Record} {words : List ℕ} {state : State} → IsTold (start pages first_number) born places remaining g k records words state → AreLosers state
told_sound {pages} {first_number} {records = records} {state = state} told = sound_after_all (start pages first_number) state records (sound_start pages first_number) told.reached

-- Another history, or more pending records.

-- the log's bytes that are used with more records after the pending ones
pub used-append : (c : Core) (more : List Record) → used (record c { pending = c.pending ++ more }) ≡ used c + need c.pending more
used-append c more = let parts = length-pending_batch-append c.pending more in omega arith

-- no records need nothing
pub need_nothing : (pending : List Record) → need pending [] ≡ 0
need_nothing [] = refl
need_nothing (p ∷ ps) = refl
