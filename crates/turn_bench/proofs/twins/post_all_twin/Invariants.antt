use Rattle.twin_ledger.specs.Ready.{IsReady}
use Rattle.turn_bench.proofs.twins.post_all_twin.Given as goal

abbrev pub invariant-loop-number : goal.invariant-loop-number
invariant-loop-number g l = record { ready : IsReady l.lock l.pass }
