use Rattle.std.proofs.Common.{◌≡◌, ◌++◌}
use Rattle.log_machine.specs.Machine.{put_all}
use Rattle.log_machine.specs.Runs.{runs}
use Rattle.log_machine.proofs.RunLaws.{run_writes}
use Rattle.log_machine.specs.RunsLeft.{runs_left}
use Rattle.page_cache.specs.ByPage.{on_page}
use Rattle.page_cache.proofs.effect.put_runs_on.Given as goal

-- what the runs so far write on the page is put there, and the others are still to come
abbrev pub invariant-loop-run : goal.invariant-loop-run
invariant-loop-run l = record {
  can_next : (goal.iterator-loop-run).can_next l.run-iterator;
  is_finite : (goal.iterator-loop-run).is_finite l.run-iterator;
  left : runs l.rec ≡ l.yielded ++ runs_left l.run-iterator;
  put : l.words ≡ put_all l.fn.words (on_page l.p (run_writes l.yielded));
}
