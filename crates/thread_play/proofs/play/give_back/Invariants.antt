use Rattle.std.proofs.Common.{◌≡◌, ◌↔◌, ◌+◌, ◌≤◌, ◌++◌, All, IsOk, List, vec_capacity, vec_len}
use Rattle.thread_play.specs.Stationed.{passes_back}
use Rattle.thread_play.proofs.play.give_back.Given as goal

abbrev pub invariant-loop-station : goal.invariant-loop-station
invariant-loop-station g l = record {
  given : (rest : List _) × (l.fn.stations.items ≡ l.stations.items ++ rest) × (l.passes.items ≡ passes_back rest) × (IsOk l.end ↔ All (λ station. IsOk station.end) rest);
  room : vec_len l.stations + vec_len l.passes ≤ vec_capacity l.passes;
}

abbrev pub decreases-loop-station : goal.decreases-loop-station
decreases-loop-station g l = vec_len l.stations
