-- How long a collection keeps others waiting.
use Rattle.std.specs.Prelude.{◌≢◌, ◌≤◌, length}
use Rattle.graph_model.specs.declared.event.Event.{Event}
use Rattle.graph_model.specs.declared.event.Event.TheVariants.{Flip}
use Rattle.heap_model.specs.Collecting.{copied_in}
use Rattle.heap_model.specs.Core.{Core, event_records}
use Rattle.core_laws.specs.Valid.{IsReached}

-- An event but a flip copies at most 576 objects, with the scan that comes before it: that is how many fields can begin in a page and in what extends past its
-- end, however large the heap is.
abbrev pub PauseTheorem : Type 0
PauseTheorem = (c : Core) (event : Event) → IsReached c → event ≢ Flip → length (copied_in (event_records c event)) ≤ 576
