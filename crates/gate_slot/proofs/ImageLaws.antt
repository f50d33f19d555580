-- Laws of what a write, whole or torn, does to an image.
use Rattle.std.specs.Prelude.{◌≡◌, ℕ, ◌+◌, ◌-◌, ◌<◌, ◌≤◌, min, List, [], ◌∷◌, ◌++◌, length, take, drop, slice_index}
use Rattle.std.proofs.Common.{inl, inr, get_or, refl, sym, ◌∙◌, ap, subst, arith, length-append, length-take, length-drop, append_assoc, drop-cons}
use Rattle.std.proofs.lemmas.List.{get_or-take, get_or-drop, get_or-append_right, get_or_append_left, length-take-le, take_at, drop_at, drop-take, drop-drop, take-take, take-append-drop, ext_get_or}
use Rattle.disk_model.specs.Disk.{overwrite, part, Torn}
use Rattle.gate_slot.specs.Gate.{IsOutside}

-- the bytes before and after a torn write stand as they were
pub torn_outside : (at n i : ℕ) (old new : List ℕ) → Torn at n old new → IsOutside at n i → slice_index new i ≡ slice_index old i
torn_outside at n i old new torn (inl before) =
    sym (get_or-take at new i 0 before) ∙ ap (λ (l : List ℕ). get_or l i 0) torn.before ∙ get_or-take at old i 0 before
torn_outside at n i old new torn (inr after) =
    let rest = i - (at + n) in
    let is : at + n + rest ≡ i = omega arith in
    let same = sym (get_or-drop (at + n) new rest 0) ∙ ap (λ (l : List ℕ). get_or l rest 0) torn.after ∙ get_or-drop (at + n) old rest 0 in
    subst (λ (k : ℕ). get_or new k 0 ≡ get_or old k 0) is same

module _ (image bytes : List ℕ) (at : ℕ) (fits : at + length bytes ≤ length image) where
  front : length (take at image) ≡ at
  front = length-take-le at image (omega arith)

  through : length (take at image ++ bytes) ≡ at + length bytes
  through = length-append (take at image) bytes ∙ ap (λ (k : ℕ). k + length bytes) front

  -- a write changes no length
  pub length_overwrite : length (overwrite image at bytes) ≡ length image
  length_overwrite = omega (arith, through, length-append (take at image ++ bytes) (drop (at + length bytes) image), length-drop (at + length bytes) image, fits)

  -- a whole write is one that a crash could have cut short
  pub torn_overwrite : Torn at (length bytes) image (overwrite image at bytes)
  torn_overwrite = record {
    before = ap (λ (l : List ℕ). take at l) (append_assoc (take at image) bytes (drop (at + length bytes) image)) ∙ take_at (take at image) (bytes ++ drop (at + length bytes) image) at front;
    after = drop_at (take at image ++ bytes) (drop (at + length bytes) image) (at + length bytes) through;
    size = length_overwrite;
  }

  -- it puts its bytes there
  pub part_overwrite : part (overwrite image at bytes) at (length bytes) ≡ bytes
  part_overwrite =
      ap (λ (l : List ℕ). part l at (length bytes)) (append_assoc (take at image) bytes (drop (at + length bytes) image))
      ∙ ap (λ (l : List ℕ). take (length bytes) l) (drop_at (take at image) (bytes ++ drop (at + length bytes) image) at front)
      ∙ take_at bytes (drop (at + length bytes) image) (length bytes) refl

  -- the same byte by byte
  pub overwrite_inside : (i : ℕ) → at ≤ i → i < at + length bytes → slice_index (overwrite image at bytes) i ≡ slice_index bytes (i - at)
  overwrite_inside i above below =
      let inside : i < length (take at image ++ bytes) = omega (arith, through) in
      get_or_append_left (take at image ++ bytes) (drop (at + length bytes) image) 0 i inside
      ∙ get_or-append_right (take at image) bytes at i 0 front above

-- a torn write is whole if its bytes are all there
pub torn_whole : (at : ℕ) (bytes old new : List ℕ) → Torn at (length bytes) old new → part new at (length bytes) ≡ bytes → new ≡ overwrite old at bytes
torn_whole at bytes old new torn there =
    let behind = drop (at + length bytes) new in
    sym (take-append-drop at new)
    ∙ ap (λ (l : List ℕ). take at new ++ l) (sym (take-append-drop (length bytes) (drop at new)))
    ∙ sym (append_assoc (take at new) (part new at (length bytes)) (drop (length bytes) (drop at new)))
    ∙ ap (λ (l : List ℕ). take at new ++ part new at (length bytes) ++ l) (drop-drop (length bytes) at new ∙ torn.after)
    ∙ ap (λ (l : List ℕ). l ++ part new at (length bytes) ++ drop (at + length bytes) old) torn.before
    ∙ ap (λ (l : List ℕ). take at old ++ l ++ drop (at + length bytes) old) there

-- a single byte is there if it stands in the image
pub torn_byte : (at byte : ℕ) (old new : List ℕ) → Torn at 1 old new → at < length old → slice_index new at ≡ byte → new ≡ overwrite old at (byte ∷ [])
torn_byte at byte old new torn inside is =
    let there : at < length new = omega (arith, torn.size) in
    let one : part new at 1 ≡ get_or new at 0 ∷ [] = ap (λ (l : List ℕ). take 1 l) (drop-cons new at 0 there) in
    torn_whole at (byte ∷ []) old new torn (one ∙ ap (λ (b : ℕ). b ∷ []) is)

-- a part has as many bytes as it is to have
pub length_part : (image : List ℕ) (at n : ℕ) → at + n ≤ length image → length (part image at n) ≡ n
length_part image at n inside = length-take-le n (drop at image) (omega (arith, length-drop at image))

-- the bytes of a part are the image's
pub part_index : (image : List ℕ) (at n i : ℕ) → i < n → slice_index (part image at n) i ≡ slice_index image (at + i)
part_index image at n i inside = get_or-take n (drop at image) i 0 inside ∙ get_or-drop at image i 0

-- parts with the same bytes are the same
pub same_part : (at n : ℕ) (old new : List ℕ) → length new ≡ length old → ((i : ℕ) → at ≤ i → i < at + n → slice_index new i ≡ slice_index old i) → part new at n ≡ part old at n
same_part at n old new size same =
    let lengths : length (part new at n) ≡ length (part old at n) = simp (length-take, length-drop) (ap (λ (k : ℕ). min n (k - at)) size) in
    ext_get_or 0 (part new at n) (part old at n) lengths (λ i within.
    let below : i < n = omega (arith, within, length-take n (drop at new)) in
    part_index new at n i below ∙ same (at + i) (omega arith) (omega (arith, below)) ∙ sym (part_index old at n i below))

-- a write within a part is a write to the part
pub torn_within : (at room k n : ℕ) (old new : List ℕ) → Torn (at + k) n old new → k + n ≤ room → Torn k n (part old at room) (part new at room)
torn_within at room k n old new torn inside = record {
  before = front new ∙ ap (λ (l : List ℕ). drop at l) torn.before ∙ sym (front old);
  after = behind new ∙ ap (λ (l : List ℕ). take (room - (k + n)) l) torn.after ∙ sym (behind old);
  size = simp (length-take, length-drop) (ap (λ (l : ℕ). min room (l - at)) torn.size);
}
  where
    front : (image : List ℕ) → take k (part image at room) ≡ drop at (take (at + k) image)
    front image = take-take k room (drop at image) (omega (arith, inside)) ∙ sym (drop-take at k image)

    behind : (image : List ℕ) → drop (k + n) (part image at room) ≡ take (room - (k + n)) (drop (at + k + n) image)
    behind image =
        let rest = room - (k + n) in
        let whole : room ≡ k + n + rest = omega (arith, inside) in
        let along : at + (k + n) ≡ at + k + n = omega arith in
        ap (λ (m : ℕ). drop (k + n) (take m (drop at image))) whole ∙ drop-take (k + n) rest (drop at image)
        ∙ ap (λ (l : List ℕ). take rest l) (drop-drop (k + n) at image ∙ ap (λ (m : ℕ). drop m image) along)

pub overwrite_within : (at room k : ℕ) (image bytes : List ℕ) → k + length bytes ≤ room → at + room ≤ length image → part (overwrite image (at + k) bytes) at room ≡ overwrite (part image at room) k bytes
overwrite_within at room k image bytes inside fits =
    let written = overwrite image (at + k) bytes in
    let n = length bytes in
    let all : at + k + n ≤ length image = omega (arith, inside, fits) in
    let rest = room - k in
    let whole : room ≡ k + rest = omega (arith, inside) in
    let there : part (part written at room) k n ≡ bytes =
    ap (λ (m : ℕ). part (part written at m) k n) whole ∙ ap (λ (l : List ℕ). take n l) (drop-take k rest (drop at written))
    ∙ take-take n rest (drop k (drop at written)) (omega (arith, inside)) ∙ ap (λ (l : List ℕ). take n l) (drop-drop k at written)
    ∙ part_overwrite image bytes (at + k) all in
    torn_whole k bytes (part image at room) (part written at room) (torn_within at room k n image written (torn_overwrite image bytes (at + k) all) inside) there

-- a write over the start of what follows
pub overwrite-append : (front behind bytes : List ℕ) → overwrite (front ++ behind) (length front) bytes ≡ front ++ bytes ++ drop (length bytes) behind
overwrite-append front behind bytes =
    ap (λ (l : List ℕ). l ++ bytes ++ drop (length front + length bytes) (front ++ behind)) (take_at front behind (length front) refl)
    ∙ ap (λ (l : List ℕ). front ++ bytes ++ l) (sym (drop-drop (length bytes) (length front) (front ++ behind)) ∙ ap (λ (l : List ℕ). drop (length bytes) l) (drop_at front behind (length front) refl))

-- two writes, the second right before the first, are one
pub overwrite-overwrite : (image front behind : List ℕ) (at : ℕ) → at + length front + length behind ≤ length image → overwrite (overwrite image (at + length front) behind) at front ≡ overwrite image at (front ++ behind)
overwrite-overwrite image front behind at fits =
    let from = at + length front in
    let written = overwrite image from behind in
    let rest = drop (from + length behind) image in
    let torn = torn_overwrite image behind from fits in
    let before : take at written ≡ take at image =
    sym (take-take at from written (omega arith)) ∙ ap (λ (l : List ℕ). take at l) torn.before ∙ take-take at from image (omega arith) in
    let after : drop from written ≡ behind ++ rest =
    ap (λ (l : List ℕ). drop from l) (append_assoc (take from image) behind rest)
    ∙ drop_at (take from image) (behind ++ rest) from (length-take-le from image (omega (arith, fits))) in
    let along : from + length behind ≡ at + length (front ++ behind) = omega (arith, length-append front behind) in
    ap (λ (l : List ℕ). l ++ front ++ drop from written) before
    ∙ ap (λ (l : List ℕ). take at image ++ front ++ l) after
    ∙ sym (append_assoc (take at image ++ front) behind rest)
    ∙ ap (λ (l : List ℕ). l ++ rest) (append_assoc (take at image) front behind)
    ∙ ap (λ (m : ℕ). take at image ++ (front ++ behind) ++ drop m image) along
