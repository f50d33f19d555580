-- A heap that is opened continues, and one that is opened again after a crash continues from its commit prefix, any number of times.
use Rattle.std.proofs.Common.{◌+◌, true, take}
use Rattle.graph_model.specs.History.{commits}
use Rattle.graph_model.specs.Transaction.{serial}
use Rattle.heap_model.specs.Image.{StandsFor}
use Rattle.heap_model.specs.Opening.{commits_of}
use Rattle.heap_model.proofs.Opening.OneMeaning.{one_graph}
use Rattle.heap_model.proofs.Opening.Opened.{next_pinned, says_found}
use Rattle.core_laws.proofs.Opening.Opened.{opened_reached}
use Rattle.core_laws.specs.Theorems.{OpeningTheorem, AgainTheorem}

-- A heap that is opened on a shaped log continues.
pub opening_law : OpeningTheorem
opening_law stored shaped gates born places g found = record { reached = opened_reached stored shaped gates born places g found; next = next_pinned stored shaped }

-- A heap that is opened again on an image of a core's commit prefix continues from that.
pub opened_again : AgainTheorem
opened_again c k image first stored gates places g legal found =
    let read : StandsFor g (commits_of stored) image = record { stored = stored; says = (says_found stored legal.log places g found).found; held = legal.held } in
    let same = one_graph g (serial c.g0 (take k (commits c.history))) (commits_of stored) (c.before + k) image read first.stands in
    record { reached = opened_reached stored legal.log.shaped gates true places g found; graph = same.0; before = same.1; kept = first.kept; forced = first.forced; some = first.some }
