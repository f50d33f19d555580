-- Laws of what caused a reply.
use Rattle.std.specs.Prelude.{◌≤◌}
use Rattle.std.proofs.Common.{arith}
use Rattle.disk_model.specs.declared.disk.Disk.{Ghosts}
use Rattle.disk_model.specs.Disk.{HasCause}
use Rattle.disk_model.proofs.KeepsLaws.{rose_since, rose_until}
use Rattle.graph_model.specs.declared.reply.Reply.{Reply}
use Rattle.heap_core.specs.Causes.{reply_device, IsCausedBy}

module _ {D : Type 0} (g : Ghosts D) where
  -- one call
  pub caused_once : (old new : D) (reply : Reply) → HasCause (g.faults old) (g.faults new) (g.stops old) (g.stops new) (reply_device reply) → IsCausedBy g old new reply
  caused_once old new reply cause = record { faults_kept = cause.faults_kept; stops_kept = cause.stops_kept; failed = cause.failed; stopped = cause.stopped }

  -- with calls before
  pub caused_since : (old mid new : D) (reply : Reply) → g.faults old ≤ g.faults mid → g.stops old ≤ g.stops mid → IsCausedBy g mid new reply → IsCausedBy g old new reply
  caused_since old mid new reply faults stops cause = record {
    faults_kept = omega (arith, faults, cause.faults_kept);
    stops_kept = omega (arith, stops, cause.stops_kept);
    failed = λ is. rose_since _ _ _ faults cause.faults_kept (cause.failed is);
    stopped = λ is. rose_since _ _ _ stops cause.stops_kept (cause.stopped is);
  }

  -- with calls after
  pub caused_until : (old mid new : D) (reply : Reply) → g.faults mid ≤ g.faults new → g.stops mid ≤ g.stops new → IsCausedBy g old mid reply → IsCausedBy g old new reply
  caused_until old mid new reply faults stops cause = record {
    faults_kept = omega (arith, faults, cause.faults_kept);
    stops_kept = omega (arith, stops, cause.stops_kept);
    failed = λ is. rose_until _ _ _ faults (cause.failed is);
    stopped = λ is. rose_until _ _ _ stops (cause.stopped is);
  }
