-- Copies of objects that stood in order: how many there can be, where they go, and one more copy.
use Rattle.std.proofs.Common.{◌≡◌, ℕ, zero, suc, ◌+◌, ◌*◌, ◌<◌, ◌≤◌, inl, inr, List, [], ◌∷◌, length, map, subst, arith}
use Rattle.std.specs.Prelude.{All, sum_by, slice_index}
use Rattle.std.specs.List.{AllByRecursion}
use Rattle.std.specs.List.Sorted.{IsStrictlyIncreasing}
use Rattle.std.proofs.lemmas.List.Elements.{All-nil, All-cons}
use Rattle.std.proofs.lemmas.List.Sums.{sum_by-cons}
use Rattle.heap_spaces.specs.Spaces.{SpacesState, IsSpaces, flipped}
use Rattle.heap_spaces.specs.declared.collection.CopiedObject.{CopiedObject}
use Rattle.log_machine.specs.Collecting.{pairs_of}
use Rattle.log_records.specs.Copies.{AreFew}
use Rattle.log_records.specs.declared.copies.ObjectCopy.{ObjectCopy}
use Rattle.relocation.specs.Relocation.{IsRelocation}
use Rattle.flip_copy.specs.Copied.{moved_object, moved_objects, copied_size}
use Rattle.flip_copy.specs.Plan.{HasObjectSize, StoodInOrder, StandEndToEnd, AreCopies, AreCopiesOf}

-- the words of a copy and those of the copies that follow it
pub size_more : (copy : ObjectCopy) (copies : List ObjectCopy) → copied_size (copy ∷ copies) ≡ length copy.words + copied_size copies
size_more copy copies = sum_by-cons (λ (c : ObjectCopy). length c.words) copy copies

-- a collection counts the same number of words
pub moved_size : (copies : List ObjectCopy) → sum_by (λ (c : CopiedObject). c.words) (moved_objects copies) ≡ copied_size copies
moved_size [] = omega arith
moved_size (copy ∷ copies) =
    let more = size_more copy copies in
    let moved = sum_by-cons (λ (c : CopiedObject). c.words) (moved_object copy) (moved_objects copies) in
    let rest = moved_size copies in
    omega arith

-- objects in order have no more words than those between which they stood
pub ordered_size : (from end : ℕ) (copies : List ObjectCopy) → StoodInOrder from end copies → from + copied_size copies ≤ end
ordered_size from end [] ordered = omega arith
ordered_size from end (copy ∷ copies) ordered =
    let more = size_more copy copies in
    let rest = ordered_size (copy.from + length copy.words) end copies ordered.1 in
    omega (arith, ordered.0)

-- their old addresses ascend
pub ordered_ascend : (from end : ℕ) (copies : List ObjectCopy) → AllByRecursion HasObjectSize copies → StoodInOrder from end copies → IsStrictlyIncreasing (map (λ pair. pair.0) (pairs_of copies))
ordered_ascend from end [] sized ordered k within = absurd (omega arith)
ordered_ascend from end (a ∷ []) sized ordered k within = absurd (omega arith)
ordered_ascend from end (a ∷ b ∷ rest) sized ordered zero within = let least = sized.0.least in omega (arith, ordered.1.0)
ordered_ascend from end (a ∷ b ∷ rest) sized ordered (suc k) within =
    let xs = map (λ (pair : ℕ × ℕ). pair.0) (pairs_of (a ∷ b ∷ rest)) in
    let next : suc (k + 1) ≡ suc k + 1 = omega arith in
    subst (λ (j : ℕ). slice_index xs (suc k) < slice_index xs j) next (ordered_ascend (a.from + length a.words) end (b ∷ rest) sized.1 ordered.1 k (omega arith))

-- each of the copies end to end stands below the end of the last
pub together_below : (to bound : ℕ) (copies : List ObjectCopy) → AllByRecursion HasObjectSize copies → StandEndToEnd to copies → to + copied_size copies ≤ bound → All (λ (pair : ℕ × ℕ). pair.1 < bound) (pairs_of copies)
together_below to bound [] sized together within = All-nil (λ (pair : ℕ × ℕ). pair.1 < bound)
together_below to bound (copy ∷ copies) sized together within =
    let more = size_more copy copies in
    let least = sized.0.least in
    All-cons (λ (pair : ℕ × ℕ). pair.1 < bound) (copy.from, copy.to) (pairs_of copies) (omega (arith, together.0))
    (together_below (to + length copy.words) bound copies sized.1 together.1 (omega arith))

-- copies of objects that stood in order, end to end within the largest heap, are a relocation
pub copies_move : (from end to : ℕ) (copies : List ObjectCopy) → AreCopies from end to copies → to + copied_size copies ≤ 2097152 → IsRelocation (pairs_of copies)
copies_move from end to copies are within = record {
  ascending = ordered_ascend from end copies are.sized are.ordered;
  inside = together_below to 2097152 copies are.sized are.together within;
}

-- each copy has two words at least
pub count_least : (copies : List ObjectCopy) → AllByRecursion HasObjectSize copies → 2 * length copies ≤ copied_size copies
count_least [] sized = omega arith
count_least (copy ∷ copies) sized =
    let more = size_more copy copies in
    let least = sized.0.least in
    let rest = count_least copies sized.1 in
    omega arith

words_most : (copies : List ObjectCopy) → AllByRecursion HasObjectSize copies → AllByRecursion (λ (copy : ObjectCopy). length copy.words ≤ 512) copies
words_most [] sized = tt
words_most (copy ∷ copies) sized = (sized.0.most, words_most copies sized.1)

-- so their count and sizes can be spelled
pub copies_few : (copies : List ObjectCopy) → AllByRecursion HasObjectSize copies → copied_size copies ≤ 2097152 → AreFew copies
copies_few copies sized within = let least = count_least copies sized in record { count = omega arith; words = words_most copies sized }

-- where the other space begins
pub other_within : (spaces : SpacesState) → IsSpaces spaces → (flipped spaces).base + spaces.used ≤ 2097152
other_within spaces is = elim is.first [
  | inl first ↦ let few = is.few in let room = is.room in omega arith
  | inr second ↦ let few = is.few in let room = is.room in omega arith
]

pub used_within : (spaces : SpacesState) → IsSpaces spaces → spaces.base + spaces.used ≤ 2097152
used_within spaces is = elim is.first [
  | inl first ↦ let few = is.few in let room = is.room in omega arith
  | inr second ↦ let few = is.few in let room = is.room in omega arith
]

-- the copies of a plan take no more words than were used
pub planned_size : (spaces : SpacesState) (copies : List ObjectCopy) → AreCopiesOf spaces copies → copied_size copies ≤ spaces.used
planned_size spaces copies are = let fits = ordered_size spaces.base (spaces.base + spaces.used) copies are.ordered in omega arith

pub planned_moves : (spaces : SpacesState) (copies : List ObjectCopy) → IsSpaces spaces → AreCopiesOf spaces copies → IsRelocation (pairs_of copies)
planned_moves spaces copies is are =
    let fits = planned_size spaces copies are in
    let within = other_within spaces is in
    copies_move spaces.base (spaces.base + spaces.used) (flipped spaces).base copies are (omega arith)

pub planned_few : (spaces : SpacesState) (copies : List ObjectCopy) → IsSpaces spaces → AreCopiesOf spaces copies → AreFew copies
planned_few spaces copies is are =
    let fits = planned_size spaces copies are in
    let within = other_within spaces is in
    copies_few copies are.sized (omega arith)

-- one more copy, in front of others
pub copy_first : (behind end to : ℕ) (copy : ObjectCopy) (copies : List ObjectCopy) → behind ≤ copy.from → copy.to ≡ to → HasObjectSize copy
    → AreCopies (copy.from + length copy.words) end (to + length copy.words) copies → AreCopies behind end to (copy ∷ copies)
copy_first behind end to copy copies after here size rest =
    record { sized = (size, rest.sized); ordered = (after, rest.ordered); together = (here, rest.together) }

-- no copy
pub no_copies : (from end to : ℕ) → from ≤ end → AreCopies from end to []
no_copies from end to within = record { sized = tt; ordered = within; together = tt }
