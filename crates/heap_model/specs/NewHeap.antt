-- A new heap, and where its root stands.
use Rattle.std.proofs.Common.{[], ◌∷◌}
use Rattle.graph_model.specs.Graph.{root}
use Rattle.image_plan.specs.declared.superblock.Super.{Super}
use Rattle.graph_words.specs.Places.{Places}
use Rattle.page_redo.specs.Pages.{first_pages}
use Rattle.heap_model.specs.Image.{StoredHeap}

-- what a disk holds of a new heap: an empty log, beside pages that were never stored
abbrev pub new_heap : Super → StoredHeap
new_heap s = record { super = s; batches = []; pages = first_pages s.pages }

-- the root stands at the first word
abbrev pub root_place : Places
root_place = (root, 0) ∷ []
