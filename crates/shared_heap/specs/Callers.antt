-- Callers of a heap that threads share.
use Rattle.std.specs.Prelude.{ℕ, List}
use Rattle.disk_model.specs.declared.disk.Disk.{Ghosts}
use Rattle.graph_model.specs.declared.reply.Entry.{Entry}
use Rattle.shared_heap.specs.declared.shared.SharedHeap.{SharedHeap}
use Rattle.shared_heap.specs.declared.turned.Turned.{Turned}
use Rattle.turn_lock.specs.declared.pass.Pass.{Pass}
use Rattle.turn_lock.specs.Passes.{pass_numbers, label_of}

-- Which shared heap is called, and with which pass.
pub record Whose (D : Type 0) (g : Ghosts D) : Type 0 where
  pub heap : SharedHeap D g
  pub numbers : List ℕ
  pub label : ℕ

abbrev pub whose : {D : Type 0} {g : Ghosts D} → SharedHeap D g → Pass (Turned D g) Entry → Whose D g
whose heap pass = record { heap = heap; numbers = pass_numbers pass; label = label_of pass }
