use Rattle.std.proofs.Common.{◌≡◌, ◌+◌, ◌≤◌, ◌++◌, All, vec_capacity, vec_len}
use Rattle.thread_play.specs.Stationed.{passes_back, workers_back}
use Rattle.thread_play.proofs.play.stations_of.Given as goal

abbrev pub invariant-loop-worker : goal.invariant-loop-worker
invariant-loop-worker g l = record {
  heap : All (λ station. station.calls.heap.now ≡ l.shared) l.stations.items;
  workers : l.fn.workers.items ≡ l.workers.items ++ workers_back l.stations.items;
  passes : l.fn.passes.items ≡ l.passes.items ++ passes_back l.stations.items;
  pairs : vec_len l.workers ≡ vec_len l.passes;
  room : vec_len l.workers + vec_len l.stations ≤ vec_capacity l.stations;
  kept : vec_capacity l.passes ≡ vec_capacity l.fn.passes;
}

abbrev pub decreases-loop-worker : goal.decreases-loop-worker
decreases-loop-worker g l = vec_len l.workers
