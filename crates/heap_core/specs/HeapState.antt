-- A heap, as the clauses of its calls see it.
use Rattle.std.specs.Prelude.{ℕ, List, Option, Result, Ok, Err}
use Rattle.std.specs.Option.{option_map}
use Rattle.heap_history.specs.Recorded.{Recorded}
use Rattle.disk_model.specs.declared.disk.Disk.{Ghosts}
use Rattle.graph_model.specs.declared.reply.Entry.{Entry}
use Rattle.heap_core.specs.declared.in_memory.Failure.{Failure}
use Rattle.heap_core.specs.declared.heap.Heap.{Heap}
use Rattle.heap_core.specs.declared.errors.OpenError.{OpenError}

-- the disk that an opening keeps, or gives back
abbrev pub opened_disk : {D : Type 0} {g : Ghosts D} → Result (Heap D g) (OpenError × D) → D
opened_disk (Ok heap) = heap.disk
opened_disk (Err e) = e.1

-- the disk of a heap
abbrev pub heap_disk : {D : Type 0} {g : Ghosts D} → Heap D g → D
heap_disk heap = heap.disk

-- the entry, from 1, at which a disk failed or stopped
abbrev pub entry_of : Option Failure → Option ℕ
entry_of failed = option_map (λ failure. failure.entry) failed

-- that of a heap
abbrev pub failed_at : {D : Type 0} {g : Ghosts D} → Heap D g → Option ℕ
failed_at heap = entry_of heap.core.failed

-- the entries of a history
abbrev pub entries_of : Recorded → List Entry
entries_of history = history.entries

-- those of a heap, since it was opened
abbrev pub history_of : {D : Type 0} {g : Ghosts D} → Heap D g → List Entry
history_of heap = entries_of heap.core.history
