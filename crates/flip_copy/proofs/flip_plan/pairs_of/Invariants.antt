use Rattle.std.proofs.Common.{◌≡◌, take}
use Rattle.log_machine.specs.Collecting.{pairs_of}
use Rattle.flip_copy.proofs.flip_plan.pairs_of.Given as goal

abbrev pub invariant-loop-copy : goal.invariant-loop-copy
invariant-loop-copy l = l.pairs.items ≡ pairs_of (take l.copy-index l.copies)
