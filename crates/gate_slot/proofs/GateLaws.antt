-- What the image with a filled gate holds.
use Rattle.std.specs.Prelude.{◌≡◌, ◌≢◌, ℕ, ◌+◌, ◌-◌, ◌<◌, ◌≤◌, List, [], ◌∷◌, length, slice_index}
use Rattle.std.proofs.Common.{◌∙◌, arith}
use Rattle.disk_model.specs.Disk.{overwrite}
use Rattle.gate_slot.specs.Gate.{IsOutside, filled}
use Rattle.gate_slot.proofs.ImageLaws.{torn_outside, torn_overwrite, length_overwrite, overwrite-overwrite}

module _ (gate at : ℕ) (bytes image : List ℕ) (gate_inside : gate < length image) (fits : at + length bytes ≤ length image) where
  abbrev written : List ℕ
  written = overwrite image at bytes

  one : gate + 1 ≤ length written
  one = omega (arith, length_overwrite image bytes at fits, gate_inside)

  pub length_filled : length (filled gate at bytes image) ≡ length image
  length_filled = length_overwrite written (1 ∷ []) gate one ∙ length_overwrite image bytes at fits

  -- all else stands as it was
  pub filled_outside : (i : ℕ) → i ≢ gate → IsOutside at (length bytes) i → slice_index (filled gate at bytes image) i ≡ slice_index image i
  filled_outside i other outside = torn_outside gate 1 i written (filled gate at bytes image) (torn_overwrite written (1 ∷ []) gate one) beside ∙ torn_outside at (length bytes) i image written (torn_overwrite image bytes at fits) outside
    where
      beside : IsOutside gate 1 i
      beside = grind arith

-- bytes right behind their gate are written with it
pub filled_next : (gate : ℕ) (bytes image : List ℕ) → gate + 1 + length bytes ≤ length image → filled gate (gate + 1) bytes image ≡ overwrite image gate (1 ∷ bytes)
filled_next gate bytes image fits = overwrite-overwrite image (1 ∷ []) bytes gate fits
