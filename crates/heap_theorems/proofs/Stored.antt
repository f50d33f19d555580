-- Which images the theorems on runs speak of.
use Rattle.std.proofs.Common.{ℕ, List}
use Rattle.heap_model.specs.Image.{StoredHeap, IsShaped, IsLegal}
use Rattle.heap_model.proofs.Opening.Opened.{legal_shows, saying_law}
use Rattle.heap_recovery.specs.Faults.{IsNoHeap}
use Rattle.heap_program.specs.Stored.{IsStored}

-- each legal image is stored
pub legal_stored : (stored : StoredHeap) (image : List ℕ) → IsLegal stored image → IsStored image
legal_stored stored image legal =
    let log = legal.log in
    let seen = legal_shows stored log in
    let found = saying_law stored log seen.0 seen.1 in
    record { heap = stored; legal = legal; places = found.0; graph = found.1; found = found.2 }

-- no shaped image is no heap
pub shaped_heap : (stored : StoredHeap) (image : List ℕ) → IsNoHeap image → IsShaped stored image → ⊥
shaped_heap stored image none shaped = none stored.super (record { limits = shaped.log.limits; super = shaped.held.super; size = shaped.held.size })
