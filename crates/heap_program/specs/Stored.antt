-- The existing heap: a legal image, with a graph that stands in it.
use Rattle.std.specs.Prelude.{ℕ, List, true}
use Rattle.graph_model.specs.Graph.{Graph}
use Rattle.graph_words.specs.Places.{Places}
use Rattle.page_store.specs.Gates.{open_gates}
use Rattle.heap_model.specs.Core.{Core}
use Rattle.heap_model.specs.Image.{StoredHeap, IsLegal}
use Rattle.heap_model.specs.Opening.{IsFound, opened, opening_calls}

-- A legal image, and a graph that is found in its log beside its pages, each object at its place and under the name of its birth. All such graphs have
-- one canon.
pub record IsStored (image : List ℕ) : Type 0 where
  pub heap : StoredHeap  -- what it holds
  pub legal : IsLegal heap image
  pub places : Places
  pub graph : Graph
  pub found : IsFound heap legal.log.shaped true places graph

-- the core of the heap that is opened on it, with the gates of its frames
abbrev pub stored_core : {image : List ℕ} → IsStored image → Core
stored_core {image} stored = opened stored.heap (open_gates stored.heap.super.log_bytes image) true stored.places stored.graph

-- the writes and syncs of its opening
abbrev pub stored_calls : {image : List ℕ} → IsStored image → ℕ
stored_calls stored = opening_calls stored.heap
