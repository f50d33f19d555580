-- What the gate's and the bytes' writes do to an image.
use Rattle.std.proofs.Common.{◌≡◌, ◌≢◌, ℕ, ◌+◌, ◌<◌, ◌≤◌, List, length, get_or, drop, refl, sym, ◌∙◌, ap, arith}
use Rattle.std.proofs.lemmas.List.{get_or-take, get_or-drop}
use Rattle.disk_model.specs.Disk.{overwrite, part, Torn}
use Rattle.gate_slot.specs.Gate.{IsOutside, IsGateClosed, SameButGate, IsFilling}
use Rattle.gate_slot.proofs.ImageLaws.{torn_outside, torn_overwrite, length_overwrite, torn_byte}

-- the byte that a read of the gate gave
pub gate_was : (gate byte : ℕ) (image into : List ℕ) → into ≡ part image gate 1 → get_or into 0 0 ≡ byte → get_or image gate 0 ≡ byte
gate_was gate byte image into read is =
    let there : gate + 0 ≡ gate = omega arith in
    sym (ap (λ (k : ℕ). get_or image k 0) there) ∙ sym (get_or-drop gate image 0 0) ∙ sym (get_or-take 1 (drop gate image) 0 0 (omega arith)) ∙ sym (ap (λ (l : List ℕ). get_or l 0 0) read) ∙ is

-- only the gate is written
pub torn_gate : (gate : ℕ) (old new : List ℕ) → Torn gate 1 old new → SameButGate gate old new
torn_gate gate old new torn = record {
  size = torn.size;
  others = λ i other. torn_outside gate 1 i old new torn (beside i other);
}
  where
    beside : (i : ℕ) → i ≢ gate → IsOutside gate 1 i
    beside i other = grind arith

pub untouched : (gate : ℕ) (image : List ℕ) → SameButGate gate image image
untouched gate image = record { size = refl; others = λ i other. refl }

module _ (gate at : ℕ) (bytes : List ℕ) (apart : IsOutside at (length bytes) gate) where
  -- before the bytes are written
  pub filling_none : (seen image : List ℕ) → IsGateClosed gate image → IsFilling gate at bytes seen image image
  filling_none seen image shut = record { size = refl; whole = λ is_open. absurd (shut is_open); others = λ i other outside. refl }

  -- while they are written behind the closed gate
  pub filling_bytes : (seen old new : List ℕ) → IsGateClosed gate old → Torn at (length bytes) old new → IsFilling gate at bytes seen old new
  filling_bytes seen old new shut torn = record {
    size = torn.size;
    whole = λ is_open. absurd (shut (sym (torn_outside at (length bytes) gate old new torn apart) ∙ is_open));
    others = λ i other outside. torn_outside at (length bytes) i old new torn outside;
  }

  -- while the gate is written before the whole bytes
  pub filling_gate : (seen new : List ℕ) → gate < length seen → at + length bytes ≤ length seen → Torn gate 1 (overwrite seen at bytes) new → IsFilling gate at bytes seen seen new
  filling_gate seen new inside fits torn =
      let written = torn_overwrite seen bytes at fits in
      let beside = torn_gate gate (overwrite seen at bytes) new torn in
      let there : gate < length (overwrite seen at bytes) = omega (arith, length_overwrite seen bytes at fits) in
      record {
        size = torn.size ∙ written.size;
        whole = torn_byte gate 1 (overwrite seen at bytes) new torn there;
        others = λ i other outside. beside.others i other ∙ torn_outside at (length bytes) i seen (overwrite seen at bytes) written outside;
      }
