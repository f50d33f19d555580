-- What a force writes, seen from the log.
use Rattle.std.proofs.Common.{◌≡◌, ◌≢◌, ◌⊎◌, inl, inr, ℕ, suc, ◌+◌, ◌<◌, ◌≤◌, List, [], ◌∷◌, ◌++◌, length, get_or, take, drop, sym, ◌∙◌, ap, subst, arith, append_assoc, drop-cons}
use Rattle.std.proofs.lemmas.Bool.{cases_eq}
use Rattle.std.proofs.lemmas.Grind.{flat_map-append}
use Rattle.std.proofs.lemmas.List.{append-nil, take-append-drop, take-take, take_at, get_or_at}
use Rattle.disk_model.specs.Disk.{overwrite, part}
use Rattle.disk_model.specs.Disk.{SameOutside}
use Rattle.gate_slot.specs.Gate.{IsOutside, IsGateClosed, IsFilling, filled}
use Rattle.gate_slot.proofs.GateLaws.{length_filled, filled_outside, filled_next}
use Rattle.gate_slot.proofs.ImageLaws.{length_part, part_index, same_part, overwrite_within, overwrite-append}
use Rattle.log_records.specs.declared.Record.{Record}
use Rattle.gated_log.specs.Log.{framed, batch, batches_bytes, HoldsBatches}

-- one more batch
pub batches_bytes-push : (batches : List (List Record)) (records : List Record) → batches_bytes (batches ++ records ∷ []) ≡ batches_bytes batches ++ batch records
batches_bytes-push batches records = flat_map-append batch batches (records ∷ []) ∙ ap (λ (l : List ℕ). batches_bytes batches ++ l) (append-nil (batch records))

module _ (at room tail : ℕ) (bytes image : List ℕ) (inside : at + room ≤ length image) (fits : tail + 1 + length bytes ≤ room) where
  abbrev gate : ℕ
  gate = at + tail

  -- the bytes stand after the batches
  pub part_forced : (front rest : List ℕ) (g : ℕ) → length front ≡ tail → part image at room ≡ front ++ g ∷ rest
      → part (filled gate (gate + 1) bytes image) at room ≡ front ++ 1 ∷ (bytes ++ drop (length bytes) rest)
  part_forced front rest g size was =
      ap (λ (l : List ℕ). part l at room) (filled_next gate bytes image (omega (arith, inside, fits)))
      ∙ overwrite_within at room tail image (1 ∷ bytes) (omega (arith, fits)) inside
      ∙ ap (λ (l : List ℕ). overwrite l tail (1 ∷ bytes)) was
      ∙ ap (λ (k : ℕ). overwrite (front ++ g ∷ rest) k (1 ∷ bytes)) (sym size)
      ∙ overwrite-append front (g ∷ rest) (1 ∷ bytes)
      ∙ append_assoc front (1 ∷ bytes) (drop (length bytes) rest)

  pub forced_outside : SameOutside at (at + room) image (filled gate (gate + 1) bytes image)
  forced_outside = record {
    size = length_filled gate (gate + 1) bytes image (omega (arith, inside, fits)) (omega (arith, inside, fits));
    before = λ i low. same i (omega arith) (inl (omega arith));
    behind = λ i high. same i (omega (arith, fits)) (inr (omega (arith, fits)));
  }
    where
      same : (i : ℕ) → i ≢ gate → IsOutside (gate + 1) (length bytes) i → get_or (filled gate (gate + 1) bytes image) i 0 ≡ get_or image i 0
      same = filled_outside gate (gate + 1) bytes image (omega (arith, inside, fits)) (omega (arith, inside, fits))

  -- while the gate is closed the batches stand as they were
  pub closed_part : (front rest new : List ℕ) (g : ℕ) → length front ≡ tail → part image at room ≡ front ++ g ∷ rest → IsFilling gate (gate + 1) bytes image image new
      → part new at room ≡ front ++ get_or new gate 0 ∷ drop (suc tail) (part new at room)
  closed_part front rest new g size was filling =
      let within : tail < length (part new at room) = omega (arith, length_part new at room (omega (arith, filling.size, inside)), fits) in
      let short : tail ≤ room = omega (arith, fits) in
      let before : (image : List ℕ) → take tail (part image at room) ≡ part image at tail = λ image. take-take tail room (drop at image) short in
      let same = same_part at tail image new filling.size (λ i low high. filling.others i (omega arith) (inl (omega arith))) in
      sym (take-append-drop tail (part new at room))
      ∙ ap (λ (l : List ℕ). l ++ drop tail (part new at room)) (before new ∙ same ∙ sym (before image) ∙ ap (λ (l : List ℕ). take tail l) was ∙ take_at front (g ∷ rest) tail size)
      ∙ ap (λ (l : List ℕ). front ++ l) (drop-cons (part new at room) tail 0 within ∙ ap (λ (b : ℕ). b ∷ drop (suc tail) (part new at room)) (part_index new at room tail (omega (arith, fits))))

  pub closed_outside : (new : List ℕ) → IsFilling gate (gate + 1) bytes image image new → SameOutside at (at + room) image new
  closed_outside new filling = record {
    size = filling.size;
    before = λ i low. filling.others i (omega arith) (inl (omega arith));
    behind = λ i high. filling.others i (omega (arith, fits)) (inr (omega (arith, fits)));
  }

module _ (at room tail : ℕ) (image : List ℕ) (batches : List (List Record)) (records : List Record) (size : tail ≡ length (batches_bytes batches))
    (inside : at + room ≤ length image) (fits : tail + 1 + length (framed records ++ 0 ∷ []) ≤ room) (holds : HoldsBatches (part image at room) batches) where
  abbrev closed_batch : List ℕ
  closed_batch = framed records ++ 0 ∷ []

  pub closed_gate : IsGateClosed (at + tail) image
  closed_gate is_open =
      let here : get_or image (at + tail) 0 ≡ holds.gate = sym (part_index image at room tail (omega (arith, fits))) ∙ ap (λ (l : List ℕ). get_or l tail 0) holds.bytes ∙ get_or_at (batches_bytes batches) holds.gate holds.rest 0 tail (sym size) in
      holds.shut (sym here ∙ is_open)

  -- a force's end
  pub holds_forced : HoldsBatches (part (filled (at + tail) (at + tail + 1) closed_batch image) at room) (batches ++ records ∷ [])
  holds_forced = record {
    gate = 0;
    rest = drop (length closed_batch) holds.rest;
    bytes =
        part_forced at room tail closed_batch image inside fits (batches_bytes batches) holds.rest holds.gate (sym size) holds.bytes
        ∙ ap (λ (l : List ℕ). batches_bytes batches ++ 1 ∷ l) (append_assoc (framed records) (0 ∷ []) (drop (length closed_batch) holds.rest))
        ∙ sym (append_assoc (batches_bytes batches) (batch records) (0 ∷ drop (length closed_batch) holds.rest))
        ∙ ap (λ (l : List ℕ). l ++ 0 ∷ drop (length closed_batch) holds.rest) (sym (batches_bytes-push batches records));
    shut = λ same. absurd (omega (arith, same));
  }

  -- a force's moments
  pub holds_in_force : (new : List ℕ) → IsFilling (at + tail) (at + tail + 1) closed_batch image image new
      → SameOutside at (at + room) image new × (HoldsBatches (part new at room) batches ⊎ HoldsBatches (part new at room) (batches ++ records ∷ []))
  holds_in_force new filling = (
    closed_outside at room tail closed_batch image inside fits new filling,
    elim (cases_eq (get_or new (at + tail) 0) 1) [
      | inl is_open ↦ inr (subst (λ (l : List ℕ). HoldsBatches (part l at room) (batches ++ records ∷ [])) (sym (filling.whole is_open)) holds_forced)
      | inr is_closed ↦ inl (record {
        gate = get_or new (at + tail) 0;
        rest = drop (suc tail) (part new at room);
        bytes = closed_part at room tail closed_batch image inside fits (batches_bytes batches) holds.rest new holds.gate (sym size) holds.bytes filling;
        shut = is_closed;
      })
    ],
  )
