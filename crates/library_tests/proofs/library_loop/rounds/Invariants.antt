use Rattle.std.proofs.Common.{ℕ, IsTrue}
use Rattle.disk_model.specs.Disk.{Only}
use Rattle.graph_model.specs.Graph.{Graph}
use Rattle.heap_model.specs.Image.{StandsFor}
use Rattle.library_tests.specs.Rounds.{Rounds}
use Rattle.library_tests.proofs.library_loop.rounds.Given as goal

-- the disk stands for what that many rounds leave
abbrev pub invariant-loop-i : goal.invariant-loop-i
invariant-loop-i g l =
    let d = g.D.Disk in
    IsTrue d.tells → Only (d.bytes l.fn.disk) (d.may_leave l.fn.disk) → (gr : Graph) (k : ℕ) → StandsFor gr k (d.bytes l.fn.disk)
    → Only (d.bytes l.disk) (d.may_leave l.disk) × (h : Graph) × (j : ℕ) × Rounds d l.events l.fn.disk gr k l._i l.disk h j × StandsFor h j (d.bytes l.disk)
