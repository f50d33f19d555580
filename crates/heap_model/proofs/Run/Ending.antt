-- How many device calls events make.
use Rattle.std.specs.Prelude.{if◌then◌else◌, nat_lt}
use Rattle.std.proofs.Common.{ℕ, ◌*◌, ◌≤◌, Bool, true, false, List, [], ◌∷◌, length, Option, None, arith}
use Rattle.graph_model.specs.declared.event.Event.{Event}
use Rattle.graph_model.specs.declared.event.Event.TheVariants.{Force, Flush}
use Rattle.graph_model.specs.declared.reply.Refusal.{Refusal}
use Rattle.log_records.specs.declared.Record.{Record}
use Rattle.heap_model.specs.Core.{Core, Lands, core_refusal, after, present_lsn, is_dirty, is_ahead, made, storing, force_calls, calls_of, calls_if}
use Rattle.heap_model.specs.CoreRuns.{total_calls}

force_few : (pending : List Record) → force_calls pending ≤ 4
force_few [] = omega arith
force_few (r ∷ rs) = omega arith

store_few : (few : Bool) → (if few then 4 else 6) ≤ 6
store_few true = omega arith
store_few false = omega arith

storing_few : (c : Core) (p lsn : ℕ) (dirty ahead : Bool) → calls_of c (storing dirty ahead p lsn) ≤ 10
storing_few c p lsn true true = omega (arith, force_few c.pending, store_few (nat_lt ((made c Lands).gates p) 2))
storing_few c p lsn true false = omega (arith, store_few (nat_lt (c.gates p) 2))
storing_few c p lsn false ahead = omega arith

calls_few : (why : Option Refusal) (c : Core) (event : Event) → calls_if why c event ≤ 10
calls_few None c Force = omega (arith, force_few c.pending)
calls_few None c (Flush p) = storing_few c p (present_lsn c p) (is_dirty c p) (is_ahead c p)
calls_few why c event = omega arith

-- an event makes at most ten writes and syncs: those of a force, and of a store where both gates of the page are open
pub total_few : (c : Core) (events : List Event) → total_calls c events ≤ 10 * length events
total_few c [] = omega arith
total_few c (event ∷ events) = omega (arith, calls_few (core_refusal c event) c event, total_few (after c event) events)
