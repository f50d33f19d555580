use Rattle.std.proofs.Common.{◌≡◌, ◌++◌}
use Rattle.log_machine.specs.Runs.{runs}
use Rattle.log_machine.proofs.RunLaws.{run_writes}
use Rattle.log_machine.specs.RunsLeft.{runs_left}
use Rattle.page_cache.specs.ByPage.{IsNextOf}
use Rattle.page_cache.specs.Writing.{pages_of}
use Rattle.page_cache.proofs.effect.next_of_runs.Given as goal

-- the next page of the runs so far is found, and the other runs are still to come
abbrev pub invariant-loop-run : goal.invariant-loop-run
invariant-loop-run l = record {
  can_next : (goal.iterator-loop-run).can_next l.run-iterator;
  is_finite : (goal.iterator-loop-run).is_finite l.run-iterator;
  left : runs l.rec ≡ l.yielded ++ runs_left l.run-iterator;
  found : IsNextOf (pages_of (run_writes l.yielded)) l.from l.next;
}
