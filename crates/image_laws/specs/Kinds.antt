-- What an image is: no heap's, damaged, or shaped.
use Rattle.std.specs.Prelude.{◌≡◌, ℕ, ◌^◌, ◌<◌, List, slice_index}
use Rattle.heap_model.specs.Image.{StoredHeap, IsShaped}
use Rattle.heap_recovery.specs.declared.at.At.{At}
use Rattle.heap_recovery.specs.Faults.{IsNoHeap, IsFaultAt}

-- each of these numbers is a byte
abbrev pub AreBytes : List ℕ → Type 0
AreBytes image = (i : ℕ) → slice_index image i < 2 ^ 8

-- The image is a heap's, and damaged: one place comes first.
pub record IsDamaged (image : List ℕ) : Type 0 where
  pub at : At
  pub fault : IsFaultAt at image
  pub only : (other : At) → IsFaultAt other image → other ≡ at

-- The image is a heap's, and shaped.
pub record IsShapedImage (image : List ℕ) : Type 0 where
  pub stored : StoredHeap
  pub shaped : IsShaped stored image

-- It is one of these, and neither of the other two.
pub data IsOfOneKind (image : List ℕ) : Type 0 where
  no_heap : IsNoHeap image → ((at : At) → ¬ IsFaultAt at image) → ¬ IsShapedImage image → IsOfOneKind image
  damaged : IsDamaged image → ¬ IsNoHeap image → ¬ IsShapedImage image → IsOfOneKind image
  shaped : IsShapedImage image → ¬ IsNoHeap image → ((at : At) → ¬ IsFaultAt at image) → IsOfOneKind image
