-- What is on the disk between two runs, and after the last one.
use Rattle.std.specs.Prelude.{◌≡◌, ℕ, List, ◌++◌, IsTrue}
use Rattle.counts.specs.Count.{counted}
use Rattle.graph_model.specs.Graph.{Graph}
use Rattle.disk_model.specs.declared.disk.Disk.{Ghosts}
use Rattle.disk_model.specs.Disk.{Only}
use Rattle.heap_program.specs.Stored.{IsStored}
use Rattle.black_box.specs.Told.{text_of}

-- A disk holds a heap in which a graph stands, and nothing is unsynced.
pub record Stores {D : Type 0} (g : Ghosts D) (graph : Graph) (disk : D) : Type 0 where
  pub stored : IsStored (g.bytes disk)
  pub is : stored.graph ≡ graph
  pub only : Only (g.bytes disk) (g.may_leave disk)

-- A disk holds the graph whose text was written.
abbrev pub StoresWritten : {D : Type 0} (g : Ghosts D) → D → List ℕ → List ℕ → Type 0
StoresWritten g disk before after = (graph : Graph) × Stores g graph disk × (after ≡ before ++ text_of graph)

-- A disk is the one that was handed in, and was restarted so often since: its size and what it was made of are the same.
pub record IsSameDisk {D : Type 0} (g : Ghosts D) (times : ℕ) (old new : D) : Type 0 where
  pub extent : g.extent new ≡ g.extent old
  pub origin : g.origin new ≡ g.origin old
  pub restarts : IsTrue g.tells → g.restarts new ≡ counted times (g.restarts old)
