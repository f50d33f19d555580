-- What happens to a disk's image while an empty heap is written over it.
use Rattle.std.specs.Prelude.{◌≡◌, ◌⊎◌, ℕ, ◌+◌, ◌-◌, ◌/◌, ◌<◌, ◌≤◌, ◌==◌, List, take, slice_index, if◌then◌else◌}
use Rattle.gate_slot.specs.Gate.{IsGateClosed}
use Rattle.image_plan.specs.declared.superblock.Super.{Super}
use Rattle.image_plan.specs.Plan.{image_size}
use Rattle.image_plan.specs.Super.{superblock}
use Rattle.heap_model.specs.Image.{IsLegal}
use Rattle.heap_model.specs.NewHeap.{new_heap}

-- the numbers of a heap
abbrev pub heap_of : ℕ → ℕ → ℕ → Super
heap_of pages log_bytes first = record { pages = pages; log_bytes = log_bytes; first = first }

-- the bytes from `from` to `end` are zero
abbrev pub AreZero : ℕ → ℕ → List ℕ → Type 0
AreZero from end image = (i : ℕ) → from ≤ i → i < end → slice_index image i ≡ 0

-- An empty heap: its superblock, and zeros in its log and in all of its frames.
pub record IsEmptyHeap (s : Super) (image : List ℕ) : Type 0 where
  pub super : take 64 image ≡ superblock s
  pub zero : AreZero 64 (image_size s.pages s.log_bytes) image

-- While an empty heap is made over an old image, a crash leaves no heap, the old image, or the new empty heap.
abbrev pub IsFormatting : Super → List ℕ → List ℕ → Type 0
IsFormatting s old image = IsGateClosed 0 image ⊎ (image ≡ old) ⊎ IsLegal (new_heap s) image

-- the writes of `bytes` zeros, in pieces of 65,536 bytes
abbrev pub zero_writes : ℕ → ℕ
zero_writes bytes = (bytes + 65535) / 65536

-- the writes and syncs of a format: two to close an open gate, the zeros after the superblock, and four to fill and open it
abbrev pub format_calls : ℕ → List ℕ → ℕ
format_calls size image = (if slice_index image 0 == 1 then 2 else 0) + zero_writes (size - 64) + 4
