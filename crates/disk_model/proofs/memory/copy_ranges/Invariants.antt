use Rattle.std.proofs.Common.{◌≡◌, map, take}
use Rattle.disk_model.specs.Memory.{blended}
use Rattle.disk_model.specs.Range.{range_of}
use Rattle.disk_model.proofs.memory.copy_ranges.Given as goal

abbrev pub invariant-loop-call : goal.invariant-loop-call
invariant-loop-call l = l.to ≡ blended (map range_of (take l.call-index l.calls)) l.from l.initial.to
