-- The next run finds what a run of workers left.
use Rattle.std.proofs.Common.{◌≡◌, ◌≢◌, ℕ, Bool, List, None, arith, ◌∙◌}
use Rattle.disk_model.specs.declared.disk.Disk.{Ghosts}
use Rattle.graph_model.specs.History.{account}
use Rattle.heap_model.specs.Core.{Core}
use Rattle.heap_model.proofs.Opening.Opened.{saying_law}
use Rattle.heap_model.proofs.Opening.Rolled.{commits_are}
use Rattle.script_text.specs.declared.line.Line.{Line}
use Rattle.heap_program.specs.declared.status.Status.{Status}
use Rattle.heap_program.specs.declared.status.Status.TheVariants as status
use Rattle.heap_program.proofs.NextRun.{IsLeftToNext}
use Rattle.thread_program.specs.Together.{IsPlayedTogether}

-- After a run that the disk did not end, and in which it did not fail, nothing is unsynced, and a heap is there with the graph of the first commits.
pub left_by_workers : {D : Type 0} (g : Ghosts D) (tries : ℕ) (lines : List Line) (at_opening : ℕ) (c : Core) (start mid : D) (result : Status) (told : Bool) (before after : List ℕ)
    → (played : IsPlayedTogether g tries lines at_opening c start mid result told before after) → result ≢ status.DiskFault → (account played.runs.core.history).failed ≡ None → g.may_leave mid (g.bytes mid)
    → IsLeftToNext played.runs.core (g.bytes mid) (g.may_leave mid)
left_by_workers g tries lines at_opening c start mid result told before after played other good reads =
    let keeps = played.disk.kept (g.bytes mid) reads in
    let stands = keeps.1.stands in
    let says = stands.says in
    let found = saying_law stands.stored says.legal says.seen says.shows in
    record {
      only = played.settled other good;
      count = keeps.0;
      least = omega (arith, keeps.1.kept, keeps.1.forced);
      most = keeps.1.some;
      stored = record { heap = stands.stored; legal = record { log = says.legal; held = stands.held }; places = found.0; graph = found.1; found = found.2 };
      graph = found.3 ∙ says.graph;
      before = commits_are stands.stored says.legal.shaped ∙ says.count;
    }
