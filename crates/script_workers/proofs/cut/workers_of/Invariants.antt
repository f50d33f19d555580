use Rattle.std.proofs.Common.{◌≡◌, ◌+◌, ℕ, Some, slice_get, vec_len}
use Rattle.heap_workers.specs.declared.worker.Worker.{Worker}
use Rattle.script_workers.specs.Workers.{IsOfScript}
use Rattle.script_workers.proofs.cut.workers_of.Given as goal

abbrev pub invariant-loop-place : goal.invariant-loop-place
invariant-loop-place l = record {
  count : vec_len l.workers ≡ l.place;
  each : (i : ℕ) (worker : Worker) → slice_get l.workers.items i ≡ Some worker → IsOfScript l.fn.tries l.fn.lines (i + 1) worker;
}
