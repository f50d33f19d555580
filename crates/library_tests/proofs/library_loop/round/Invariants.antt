use Rattle.std.proofs.Common.{ℕ, IsTrue, take}
use Rattle.disk_model.specs.Disk.{Only}
use Rattle.graph_model.specs.Graph.{Graph}
use Rattle.heap_core.specs.HeapState.{heap_disk}
use Rattle.heap_model.specs.Image.{StandsFor}
use Rattle.library_tests.proofs.Going.{HasGone, KeepsCounts}
use Rattle.library_tests.proofs.library_loop.round.Given as goal

-- the disk's counts did not fall, and the events so far were made on the heap that was opened
abbrev pub invariant-loop-event : goal.invariant-loop-event
invariant-loop-event g l =
    let d = g.D.Disk in
    KeepsCounts d l.fn.disk (heap_disk l.heap)
    × (IsTrue d.tells → Only (d.bytes l.fn.disk) (d.may_leave l.fn.disk) → (gr : Graph) (k : ℕ) → StandsFor gr k (d.bytes l.fn.disk) → HasGone gr k (take l.event-index l.events) l.fn.disk l.heap)
