-- What a run of workers writes, once they have ended.
use Rattle.std.specs.Prelude.{◌≡◌, ◌≢◌, ◌++◌, ℕ, List, None}
use Rattle.graph_model.specs.History.{account, sealed}
use Rattle.graph_model.specs.Transaction.{serial}
use Rattle.heap_model.specs.Core.{Core}
use Rattle.heap_program.specs.declared.status.Status.{Status}
use Rattle.heap_program.specs.declared.status.Status.TheVariants.{Done}
use Rattle.heap_program.specs.Headline.{graph_text, IsOfDisk}
use Rattle.heap_program.specs.Play.{lines_text, WroteFront}

-- The lines of a core's history were written, and then its graph: all of that if the run is done, and otherwise a prefix. If the disk has failed or
-- stopped the run is not done and no graph is written, and if its status says so all lines are.
pub record WritesAll (c : Core) (result : Status) (before after : List ℕ) : Type 0 where
  pub front : WroteFront before (lines_text c.history ++ graph_text (serial c.g0 (sealed c.history))) after
  pub failed : (account c.history).failed ≢ None → (result ≢ Done) × WroteFront before (lines_text c.history) after
  pub fault : IsOfDisk result → after ≡ before ++ lines_text c.history
  pub whole : result ≡ Done → after ≡ before ++ (lines_text c.history ++ graph_text (serial c.g0 (sealed c.history)))
