-- The record of a planned flip has a spelling.
use Rattle.std.proofs.Common.{◌≡◌, ℕ, suc, ◌+◌, ◌^◌, ◌<◌, ◌≤◌, List, [], ◌∷◌, length, take, drop, get_or, Some, sym, ap, ◌∙◌, subst, arith}
use Rattle.std.specs.Prelude.{slice_index, Contains}
use Rattle.std.specs.List.{AllByRecursion}
use Rattle.std.proofs.Math.Seq.{drop-cons}
use Rattle.heap_words.specs.Header.{header_bits}
use Rattle.heap_words.specs.declared.Header.TheVariants.{Length}
use Rattle.heap_words.specs.Word.{IsFieldWord}
use Rattle.heap_words.proofs.HeaderLaws.{bits-header}
use Rattle.heap_spaces.specs.Spaces.{SpacesState, IsSpaces, flipped}
use Rattle.log_records.specs.Record.{IsObjectWords, IsObjectCopy, IsRecord}
use Rattle.object_layout.specs.Layout.{object_at, field_words}
use Rattle.object_layout.proofs.LayoutLaws.{object_header, object_small, length-field_words}
use Rattle.object_layout.proofs.ObjectLaws.{field_words_at}
use Rattle.object_layout.proofs.WalkLaws.{Contains-head, Contains-rest}
use Rattle.flip_copy.specs.Copied.{object_words_at, copies_from, with_base, root_copies, flip_record, copied_size}
use Rattle.flip_copy.specs.Plan.{HasObjectSize, StoodInOrder, AreCopiesOf}
use Rattle.flip_copy.proofs.CopiesLaws.{size_more, ordered_size, other_within, used_within, planned_size, planned_few}
use Rattle.flip_copy.proofs.ObjectWordsLaws.{object_words, words_object}

-- Words fit in 64 bits, and the fields of the objects at these addresses have field words.
pub record AreRecorded (words ats : List ℕ) : Type 0 where
  pub words_fit : (i : ℕ) → slice_index words i < 2 ^ 64
  pub fields : (at : ℕ) → Contains ats at → AllByRecursion IsFieldWord (field_words words at)

-- the words of an object are its header, its birth and its fields
object_parts : (words : List ℕ) (at n : ℕ) → object_at words at ≡ Some n → object_words_at words at ≡ get_or words at 0 ∷ get_or words (suc at) 0 ∷ field_words words at
object_parts words at n is =
    let within = (object_header words at n is).1 in
    let there : suc (suc at) ≡ at + 2 = omega arith in
    let long : 2 + n ≡ suc (suc n) = omega arith in
    object_words words at n is
    ∙ ap (λ (k : ℕ). take k (drop at words)) long
    ∙ ap (take (suc (suc n))) (drop-cons words at 0 (omega arith))
    ∙ ap (λ (ws : List ℕ). get_or words at 0 ∷ take (suc n) ws) (drop-cons words (suc at) 0 (omega arith))
    ∙ ap (λ (ws : List ℕ). get_or words at 0 ∷ get_or words (suc at) 0 ∷ ws) (ap (λ (k : ℕ). take n (drop k words)) there ∙ sym (field_words_at words at n is))

-- they can be words of a record, if the fields have field words
object_recorded : (words : List ℕ) (at n : ℕ) → object_at words at ≡ Some n → ((i : ℕ) → slice_index words i < 2 ^ 64) → AllByRecursion IsFieldWord (field_words words at) → IsObjectWords (object_words_at words at)
object_recorded words at n is fit fields =
    let long = length-field_words words at n is in
    let small = object_small words at n is in
    let head : get_or words at 0 ≡ header_bits (Length n) = (bits-header (slice_index words at) (Length n) (object_header words at n is).0).1 in
    subst IsObjectWords (sym (object_parts words at n is))
    (record { tells = head ∙ ap (λ (k : ℕ). header_bits (Length k)) (sym long); few = omega arith; birth_fits = fit (suc at); field_words = fields })

copies_recorded : (words : List ℕ) (to : ℕ) (ats : List ℕ) (from end : ℕ) → AllByRecursion HasObjectSize (copies_from words to ats) → StoodInOrder from end (copies_from words to ats)
    → end ≤ 2097152 → to + copied_size (copies_from words to ats) ≤ 2097152 → AreRecorded words ats → AllByRecursion IsObjectCopy (copies_from words to ats)
copies_recorded words to [] from end sized ordered low high fit = tt
copies_recorded words to (at ∷ ats) from end sized ordered low high fit =
    let long = length (object_words_at words at) in
    let rest = copies_from words (to + long) ats in
    let object = words_object words at sized.0.least in
    let less = ordered_size (at + long) end rest ordered.1 in
    let more = size_more (record { from = at; to = to; words = object_words_at words at }) rest in (
      record { from_fits = omega arith; to_fits = omega arith; object = object_recorded words at object.0 object.1 fit.words_fit (fit.fields at (Contains-head at ats)) },
      copies_recorded words (to + long) ats (at + long) end sized.1 ordered.1 low (omega arith)
          (record { words_fit = fit.words_fit; fields = λ other has. fit.fields other (Contains-rest at ats other has) }),
    )

-- The record of a planned flip has a spelling.
pub planned_record : (spaces : SpacesState) (words roots : List ℕ) → IsSpaces spaces → AreCopiesOf spaces (root_copies spaces words roots) → AreRecorded words (with_base spaces.base roots)
    → IsRecord (flip_record spaces words roots)
planned_record spaces words roots is are fit =
    let copies = root_copies spaces words roots in
    let size = planned_size spaces copies are in
    let high = other_within spaces is in
    let low = used_within spaces is in
    record {
      few = (planned_few spaces copies is are).count;
      each = copies_recorded words (flipped spaces).base (with_base spaces.base roots) spaces.base (spaces.base + spaces.used) are.sized are.ordered low (omega arith) fit;
    }
