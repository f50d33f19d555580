-- A core on its disk is that core in memory.
use Rattle.disk_model.specs.declared.disk.Disk.{Ghosts}
use Rattle.heap_model.specs.Core.{Core}
use Rattle.heap_core.specs.declared.in_memory.HeapCore.{HeapCore}
use Rattle.heap_core.specs.Refinement.{IsCoreInMemory, IsCoreOn}

pub in_memory : {D : Type 0} (g : Ghosts D) (c : Core) (heap : HeapCore) (disk : D) → IsCoreOn g c heap disk → IsCoreInMemory c heap
in_memory g c heap disk is = record { history = is.history; before = is.before; memory = is.memory; engine = λ none. (is.engine none).memory }
