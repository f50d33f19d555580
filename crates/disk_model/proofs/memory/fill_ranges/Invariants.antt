use Rattle.std.proofs.Common.{◌≡◌, length, map, replicate, take}
use Rattle.disk_model.specs.Memory.{blended}
use Rattle.disk_model.specs.Range.{range_of}
use Rattle.disk_model.proofs.memory.fill_ranges.Given as goal

abbrev pub invariant-loop-call : goal.invariant-loop-call
invariant-loop-call l = l.image ≡ blended (map range_of (take l.call-index l.calls)) (replicate (length l.initial.image) l.byte) l.initial.image
