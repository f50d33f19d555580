-- An image that is damaged at an address, and is left alone.
use Rattle.std.proofs.Common.{ℕ, List, sym, subst}
use Rattle.disk_model.specs.declared.disk.Disk.{Ghosts}
use Rattle.disk_model.specs.Disk.{Only}
use Rattle.disk_model.specs.Moments.{LeavesOnly}
use Rattle.disk_model.proofs.MomentLaws.{begins}
use Rattle.heap_recovery.specs.Faults.{IsLeftOf}
use Rattle.heap_recovery.proofs.FaultLaws.{left_same}
use Rattle.heap_program.specs.Refusals.{IsWordFault}

-- it is what an opening leaves of it
left_alone : (image : List ℕ) → IsWordFault image → IsLeftOf image image
left_alone image fault = (fault.1.0, fault.1.1, fault.1.2, left_same fault.1.0 fault.1.1 image fault.1.2)

-- so a run that did nothing with the disk leaves no other
pub untouched_log : {D : Type 0} (g : Ghosts D) (disk : D) → Only (g.bytes disk) (g.may_leave disk) → ((image : List ℕ) → g.left_since disk (g.moment disk) image → g.may_leave disk image) → IsWordFault (g.bytes disk)
    → LeavesOnly g.moment g.left_since disk disk (IsLeftOf (g.bytes disk))
untouched_log g disk only now fault = begins g.moment g.left_since disk (IsLeftOf (g.bytes disk)) (λ image since. subst (IsLeftOf (g.bytes disk)) (sym (only image (now image since))) (left_alone (g.bytes disk) fault))
