use Rattle.std.proofs.Common.{◌≡◌}
use Rattle.shared_heap.specs.Shared.{IsPass}
use Rattle.turn_lock.specs.Passes.{label_of}
use Rattle.event_bench.proofs.transact.Given as goal

abbrev pub invariant-loop-v : goal.invariant-loop-v
invariant-loop-v g l = record { pass : IsPass l.shared l.pass; label : label_of l.pass ≡ label_of l.fn.pass }
