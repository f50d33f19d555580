use Rattle.std.proofs.Common.{◌≤◌, length, drop}
use Rattle.log_machine.specs.CopyIndex.{AreIndexed}
use Rattle.log_machine.proofs.copy_index.CopyIndex.of.Given as goal

-- the copies from a place on are found
abbrev pub invariant-loop-place : goal.invariant-loop-place
invariant-loop-place l = record { within : l.place ≤ length l.copies; indexed : AreIndexed l.copies (drop l.place l.copies) l.places.entries }

abbrev pub decreases-loop-place : goal.decreases-loop-place
decreases-loop-place l = l.place
