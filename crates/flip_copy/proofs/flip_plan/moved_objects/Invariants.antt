use Rattle.std.proofs.Common.{◌≡◌, take}
use Rattle.flip_copy.specs.Copied.{moved_objects}
use Rattle.flip_copy.proofs.flip_plan.moved_objects.Given as goal

abbrev pub invariant-loop-copy : goal.invariant-loop-copy
invariant-loop-copy l = l.moved.items ≡ moved_objects (take l.copy-index l.copies)
