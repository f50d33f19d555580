-- What stays of an image while an empty heap is written: the bytes past its plan.
use Rattle.std.proofs.Common.{◌≡◌, inr, ℕ, ◌≤◌, Bool, true, false, List, [], ◌∷◌, length, drop, slice_index, ◌==◌, if◌then◌else◌, ◌∙◌, arith}
use Rattle.disk_model.specs.Disk.{overwrite, SameOutside}
use Rattle.gate_slot.specs.Gate.{closed, filled, SameButGate, IsFilling}
use Rattle.gate_slot.proofs.ImageLaws.{torn_overwrite}
use Rattle.image_plan.specs.declared.superblock.Super.{Super}
use Rattle.image_plan.specs.Plan.{image_size}
use Rattle.image_plan.specs.Super.{superblock}
use Rattle.heap_core.proofs.Empty.{behind_at, long}
use Rattle.heap_core.proofs.Zeros.{same, same_torn}

module _ (n : ℕ) (large : 64 ≤ n) (old : List ℕ) where
  -- a closed gate, whole
  pub closed_outside : n ≤ length old → SameOutside 0 n old (closed 0 old)
  closed_outside fits = elim (slice_index old 0 == 1) as (λ (is_open : Bool). SameOutside 0 n old (if is_open then overwrite old 0 (0 ∷ []) else old)) [
    | true ↦ same_torn 0 n 0 1 old old (overwrite old 0 (0 ∷ [])) (omega arith) (omega arith) (same 0 n old) (torn_overwrite old (0 ∷ []) 0 (omega arith))
    | false ↦ same 0 n old
  ]

  -- or cut short
  pub gate_outside : (c : List ℕ) → SameButGate 0 old c → SameOutside 0 n old c
  gate_outside c beside = record {
    size = beside.size;
    before = λ i low. absurd (omega arith);
    behind = λ i high. beside.others i (λ (first : i ≡ 0). omega arith);
  }

  module _ (d c : List ℕ) (so_far : SameOutside 0 n old d) where
    -- with zeros up to there
    pub zeros_outside : (from end : ℕ) → end ≡ n → SameOutside from end d c → SameOutside 0 n old c
    zeros_outside from end is zeros = record {
      size = zeros.size ∙ so_far.size;
      before = λ i low. absurd (omega arith);
      behind = λ i high. zeros.behind i (omega arith) ∙ so_far.behind i high;
    }

    -- while the superblock is filled in
    pub filling_outside : (bytes seen : List ℕ) → length bytes ≡ 63 → IsFilling 0 1 bytes seen d c → SameOutside 0 n old c
    filling_outside bytes seen size fill = record {
      size = fill.size ∙ so_far.size;
      before = λ i low. absurd (omega arith);
      behind = λ i high. fill.others i (λ (first : i ≡ 0). omega arith) (inr (omega arith)) ∙ so_far.behind i high;
    }

-- with the superblock
pub filled_outside : (s : Super) (old image : List ℕ) → image_size s.pages s.log_bytes ≤ length image → SameOutside 0 (image_size s.pages s.log_bytes) old image
    → SameOutside 0 (image_size s.pages s.log_bytes) old (filled 0 1 (drop 1 (superblock s)) image)
filled_outside s old image large so_far = record {
  size = long s image large ∙ so_far.size;
  before = λ i low. absurd (omega arith);
  behind = λ i high. behind_at s image large i (omega arith) ∙ so_far.behind i high;
}
