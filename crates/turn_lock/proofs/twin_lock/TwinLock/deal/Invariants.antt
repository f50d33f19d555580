use Rattle.std.proofs.Common.{◌≡◌, ℕ, [], length, Some, slice_get, slice_index, vec_len, vec_capacity}
use Rattle.turn_lock.specs.TwinPasses.{IsNew, first_of}
use Rattle.turn_lock.proofs.TwinDeals.{twin_dealing}
use Rattle.turn_lock.proofs.twin_lock.TwinLock.deal.Given as goal

abbrev pub invariant-loop-label : goal.invariant-loop-label
invariant-loop-label g l = record {
  seat : l.seat.table_id ≡ l.fn.seat.table_id;
  view : l.seat.me ≡ (twin_dealing g.T.Turns.entries g.T.Turns.stood g.T.Turns.front g.T.Turns.empty_turns g.T.Turns.follows l.self (length l.labels) l.label-index, []);
  count : vec_len l.passes ≡ l.label-index;
  room : vec_capacity l.passes ≡ vec_capacity l.fn.passes;
  each : (i : ℕ) (pass : _) → slice_get l.passes.items i ≡ Some pass → IsNew l.self i (slice_index l.labels i) (g.T.Turns.entries (first_of l.self)) pass;
}
