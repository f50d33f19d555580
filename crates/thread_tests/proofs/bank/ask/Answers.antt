use Rattle.std.proofs.Common.{ℕ, sym, subst}
use Rattle.shared_heap.specs.Shared.{MaySend}
use Rattle.thread_tests.proofs.bank.ask.Goals as goal

pub call-requires-clause-event : goal.call-requires-clause-event
call-requires-clause-event g c = subst (λ (label : ℕ). MaySend label c.args.event) (sym c.loop.invariant.label) c.requires.1
