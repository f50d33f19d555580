use Rattle.std.proofs.Common.{◌≡◌}
use Rattle.shared_heap.specs.Shared.{IsPass}
use Rattle.turn_lock.specs.Passes.{label_of, pass_numbers}
use Rattle.thread_tests.proofs.bank.ask.Given as goal

abbrev pub invariant-loop : goal.invariant-loop
invariant-loop g l = record {
  pass : IsPass l.shared l.pass;
  label : label_of l.pass ≡ label_of l.fn.pass;
  numbers : pass_numbers l.pass ≡ pass_numbers l.fn.pass;
}
