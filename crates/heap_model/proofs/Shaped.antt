-- The words of a shaped image.
use Rattle.std.specs.Prelude.{ℕ, List}
use Rattle.heap_model.specs.Image.{StoredHeap, IsShaped, IsLegal}

-- a legal image is shaped
abbrev pub shaped_image : {stored : StoredHeap} {image : List ℕ} → IsLegal stored image → IsShaped stored image
shaped_image legal = record { log = legal.log.shaped; held = legal.held }
