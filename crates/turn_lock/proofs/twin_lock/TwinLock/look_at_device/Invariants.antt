use Rattle.std.proofs.Common.{◌≡◌}
use Rattle.turn_lock.proofs.twin_lock.TwinLock.look_at_device.Given as goal

abbrev pub invariant-loop : goal.invariant-loop
invariant-loop g l = (l.pass.label ≡ l.initial.pass.label) × (l.pass.seat.table_id ≡ l.initial.pass.seat.table_id) × (l.pass.seat.me ≡ l.initial.pass.seat.me)
