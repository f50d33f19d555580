-- Theorems on images and logs that do not depend on the steps of a core; those on its steps are in core_laws/specs/Theorems.antt.
--
-- `OneMeaningTheorem`: an image stands for one graph and one number of commits (`one_graph` of proofs/Opening/OneMeaning). `SayingTheorem`: a
-- legal log says its graph, and so does the log after an opening (`saying_law` of proofs/Opening/Opened).
--
-- In proofs/Opening, Rolled and Held are on the batches after an opening and on what it leaves of an image, Legal on which logs are legal, New
-- on an empty log, and Told on a write. In proofs/Step, Handles, Room, Goes and Granted are on parts of one event, and Step, Logged, Grow and
-- Calls, with Calls and Ending of proofs/Run, are on what all steps keep. ListLaws is on lists.
use Rattle.std.specs.Prelude.{◌≡◌, ℕ, true, List}
use Rattle.graph_model.specs.Canon.{canon}
use Rattle.graph_model.specs.Graph.{Graph}
use Rattle.heap_model.specs.Image.{StoredHeap, IsLegalLog, Shows, Says, StandsFor}
use Rattle.heap_model.specs.Opening.{rolled_back, commits_of, IsFound}
use Rattle.graph_words.specs.Places.{Places}

-- An image stands for one graph, up to the names of objects, and for one number of commits.
abbrev pub OneMeaningTheorem : Type 0
OneMeaningTheorem = (g h : Graph) (k j : ℕ) (image : List ℕ) → StandsFor g k image → StandsFor h j image → (canon g ≡ canon h) × (k ≡ j)

-- A legal log and the one after its opening say the same.
pub record SaysOn (g : Graph) (stored : StoredHeap) : Type 0 where
  pub found : Says g (commits_of stored) stored
  pub left : Says g (commits_of stored) (rolled_back stored)

-- The graph that stands in what a legal log leaves is the one that it says, and it stands there under the names of births.
abbrev pub SayingTheorem : Type 0
SayingTheorem =
    (stored : StoredHeap) (legal : IsLegalLog stored) (g : Graph) → Shows stored legal g
    → (places : Places) × (h : Graph) × IsFound stored legal.shaped true places h × (canon h ≡ canon g) × SaysOn h stored
