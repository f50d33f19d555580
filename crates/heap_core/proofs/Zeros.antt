-- What writing zeros piece by piece leaves of an image.
use Rattle.std.proofs.Common.{◌≡◌, inl, inr, ℕ, ◌+◌, ◌-◌, ◌<◌, ◌≤◌, min, List, length, get_or, replicate, ap, ◌∙◌, arith}
use Rattle.std.proofs.lemmas.Bool.{cases_lt}
use Rattle.std.proofs.lemmas.List.{length-replicate, get_or-replicate, get_or_past}
use Rattle.disk_model.specs.Disk.{overwrite, Torn, WidensBy, SameOutside}
use Rattle.gate_slot.proofs.ImageLaws.{torn_outside, torn_overwrite, overwrite_inside}
use Rattle.heap_core.specs.Format.{AreZero, zero_writes}

-- what was not touched at all
pub same : (from end : ℕ) (image : List ℕ) → SameOutside from end image image
same from end image = record { size = refl_size; before = λ i low. refl_at i; behind = λ i high. refl_at i }
  where
    refl_size : length image ≡ length image
    refl_size = omega arith

    refl_at : (i : ℕ) → get_or image i 0 ≡ get_or image i 0
    refl_at i = omega arith

-- a write within the range, cut short or not
pub same_torn : (from end at n : ℕ) (first old new : List ℕ) → from ≤ at → at + n ≤ end → SameOutside from end first old → Torn at n old new → SameOutside from end first new
same_torn from end at n first old new low high so_far torn = record {
  size = torn.size ∙ so_far.size;
  before = λ i le. torn_outside at n i old new torn (inl (omega arith)) ∙ so_far.before i le;
  behind = λ i le. torn_outside at n i old new torn (inr (omega arith)) ∙ so_far.behind i le;
}

-- the images that a crash may leave after one more write
pub crash_on : (from end at n : ℕ) (first old new : List ℕ → Type 0) → from ≤ at → at + n ≤ end → WidensBy (SameOutside from end) first old → WidensBy (Torn at n) old new → WidensBy (SameOutside from end) first new
crash_on from end at n first old new low high so_far write c left =
    let mid = write c left in
    let origin = so_far mid.0 mid.1 in
    (origin.0, origin.1, same_torn from end at n origin.0 mid.0 c low high origin.2 mid.2)

-- the zeros reach further
pub zero_on : (from at n : ℕ) (old zeros new : List ℕ) → from ≤ at → at + n ≤ length old → length zeros ≡ n → ((k : ℕ) → get_or zeros k 0 ≡ 0) → new ≡ overwrite old at zeros → AreZero from at old → AreZero from (at + n) new
zero_on from at n old zeros new low fits size each is so_far i above below =
    let torn = torn_overwrite old zeros at (omega (arith, size, fits)) in
    elim (cases_lt i at) [
      | inl under ↦ rw is (torn_outside at (length zeros) i old (overwrite old at zeros) torn (inl under) ∙ so_far i above under)
      | inr over ↦ rw is (overwrite_inside old zeros at (omega (arith, size, fits)) i over (omega (arith, size, below)) ∙ each (i - at))
    ]

-- the images, where the write is done
pub outside_on : (from at end : ℕ) (first old zeros new : List ℕ) → from ≤ at → at + length zeros ≤ end → at + length zeros ≤ length old → new ≡ overwrite old at zeros → SameOutside from end first old → SameOutside from end first new
outside_on from at end first old zeros new low high fits is so_far =
    rw is (same_torn from end at (length zeros) first old (overwrite old at zeros) low high so_far (torn_overwrite old zeros at fits))

-- each of the zeros
pub zero_at : (n k : ℕ) → get_or {A = ℕ} (replicate n 0) k 0 ≡ 0
zero_at n k = elim (cases_lt k n) [
  | inl inside ↦ get_or-replicate n k 0 0 inside
  | inr past ↦ get_or_past (replicate n 0) k 0 (omega (arith, length-replicate {A = ℕ} n 0))
]

-- one more piece is one more write
piece_more : (left n : ℕ) → 0 < left → n ≡ min left 65536 → 1 + zero_writes (left - n) ≡ zero_writes left
piece_more left n some is = omega arith

pub write_more : (at n end : ℕ) → at < end → n ≡ min (end - at) 65536 → 1 + zero_writes (end - (at + n)) ≡ zero_writes (end - at)
write_more at n end some is =
    let rest : end - (at + n) ≡ (end - at) - n = omega arith in
    ap (λ (k : ℕ). 1 + zero_writes k) rest ∙ piece_more (end - at) n (omega arith) is

-- where zeros are left to be written, so is a write
pub some_writes : (at end : ℕ) → at < end → 0 < zero_writes (end - at)
some_writes at end some = omega arith
