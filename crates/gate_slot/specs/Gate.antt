-- A gate is one byte of an image that says whether the bytes behind it count. It is open exactly where it is 1.
use Rattle.std.specs.Prelude.{◌≡◌, ◌≢◌, ℕ, ◌+◌, ◌<◌, ◌≤◌, ◌⊎◌, ◌==◌, List, [], ◌∷◌, length, slice_index, if◌then◌else◌}
use Rattle.disk_model.specs.Disk.{overwrite}

abbrev pub IsOpen : ℕ → List ℕ → Type 0
IsOpen gate image = slice_index image gate ≡ 1

abbrev pub IsGateClosed : ℕ → List ℕ → Type 0
IsGateClosed gate image = slice_index image gate ≢ 1

-- closed in each image that a crash may leave
abbrev pub IsClosedInEach : ℕ → (List ℕ → Type 0) → Type 0
IsClosedInEach gate may_leave = (c : List ℕ) → may_leave c → IsGateClosed gate c

-- nothing is pending on the gate: each image has it as it is read
abbrev pub IsSettled : ℕ → List ℕ → (List ℕ → Type 0) → Type 0
IsSettled gate seen may_leave = (c : List ℕ) → may_leave c → slice_index c gate ≡ slice_index seen gate

-- the image with its gate closed; a gate that is closed already is left alone, whatever its byte
abbrev pub closed : ℕ → List ℕ → List ℕ
closed gate image = if slice_index image gate == 1 then overwrite image gate (0 ∷ []) else image

-- the image with the bytes at their place and the gate open
abbrev pub filled : ℕ → ℕ → List ℕ → List ℕ → List ℕ
filled gate at bytes image = overwrite (overwrite image at bytes) gate (1 ∷ [])

-- outside the n bytes from an offset on
abbrev pub IsOutside : ℕ → ℕ → ℕ → Type 0
IsOutside at n i = (i < at) ⊎ (at + n ≤ i)

-- new has the size of old, and each byte but the gate's
pub record SameButGate (gate : ℕ) (old new : List ℕ) : Type 0 where
  pub size : length new ≡ length old
  pub others : (i : ℕ) → i ≢ gate → slice_index new i ≡ slice_index old i

-- While bytes are written behind a closed gate, a crash leaves new: the gate is closed and all outside of the bytes is
-- as in old, an image from before, or the gate is open and new is the image that was read before, with all the bytes.
pub record IsFilling (gate at : ℕ) (bytes seen old new : List ℕ) : Type 0 where
  pub size : length new ≡ length old
  pub whole : IsOpen gate new → new ≡ filled gate at bytes seen
  pub others : (i : ℕ) → i ≢ gate → IsOutside at (length bytes) i → slice_index new i ≡ slice_index old i
