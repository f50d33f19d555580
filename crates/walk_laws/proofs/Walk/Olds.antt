-- Objects of the from-space end to end, as a walk meets them and as words that are laid out have them.
use Rattle.std.proofs.Common.{◌≡◌, ℕ, ◌+◌, ◌≤◌, ◌==◌, Bool, true, false, not, List, [], ◌∷◌, Option, None, Some, refl, sym, ap, ◌∙◌, arith}
use Rattle.std.specs.Prelude.{Contains, filter, slice_index, nat_le, if◌then◌else◌}
use Rattle.std.specs.List.{list_any}
use Rattle.std.proofs.lemmas.Bool.{le-leb}
use Rattle.std.proofs.lemmas.List.Sums.{sum_by-cons}
use Rattle.std.proofs.lemmas.Map.Views.{exact_unsigned_eq, Contains-from_any}
use Rattle.std.proofs.lemmas.Option.{same_Some}
use Rattle.heap_words.specs.declared.Header.{Header}
use Rattle.heap_words.specs.declared.Header.TheVariants.{Length, Forward}
use Rattle.heap_words.specs.Header.{header}
use Rattle.object_layout.specs.Layout.{led, object_at}
use Rattle.object_layout.specs.CollectionWalk.{AreChained, FromSpace, copy_length, ending, from_end, is_moved, moved_size, words_moved, old_object, old_object_at}
use Rattle.object_layout.proofs.ObjectLaws.{object_in_take}
use Rattle.object_layout.proofs.OldStarts.{copy_there}
use Rattle.object_layout.proofs.WalkLaws.{Contains-head, Contains-rest, object_take}
use Rattle.collection_words.specs.Completed.{taken_by}
use Rattle.collection_words.specs.LaidOut.{AreOldEndToEnd, StandsOrForwards, old_length}
use Rattle.collection_words.proofs.Laid.Old.{old_length-object, old_within}
use Rattle.collection_words.proofs.Moves.Ends.{taken_object}
use Rattle.walk_laws.specs.Births.{is_uncopied}

-- As a walk meets them.

ends_there : (end at n : ℕ) → at + 2 + n ≤ end → ending end at (Some n) ≡ Some n
ends_there end at n within = ap (λ b. if b then Some n else None) (le-leb (at + 2 + n) end within)

-- an object that is forwarded to a current one, or stands, is met
old_met : (words starts : List ℕ) (end at n : ℕ) (moved : Bool) → StandsOrForwards words starts at moved → old_length words at ≡ Some n → at + 2 + n ≤ end → old_object words starts end at moved ≡ Some n
old_met words starts end at n true (to, leads, has) long within =
    ap (λ h. ending end at (copy_length words starts h)) leads
    ∙ ap (ending end at) (copy_there words starts to has ∙ sym (ap (λ h. object_at words (led at h)) leads) ∙ long)
    ∙ ends_there end at n within
old_met words starts end at n false (m, object) long within =
    object_in_take words end at n (object ∙ sym (old_length-object words at m object) ∙ long) within

-- so all of them are
pub chain_met : (words starts : List ℕ) (from : FromSpace) (at : ℕ) (olds : List ℕ) → AreOldEndToEnd words at olds (from_end from)
    → ((a : ℕ) → Contains olds a → StandsOrForwards words starts a (is_moved from a)) → AreChained (old_object_at words starts from) at olds (from_end from)
chain_met words starts from at [] ends forwarded = ends
chain_met words starts from at (a ∷ rest) (n, same, long, more) forwarded =
    let lies = old_within words at (a ∷ rest) (from_end from) a (n, same, long, more) (Contains-head a rest) in
    let equal = same_Some lies.fields n (sym lies.long ∙ long) in
    let below = lies.below in (
      n,
      same,
      old_met words starts (from_end from) a n (is_moved from a) (forwarded a (Contains-head a rest)) long (omega arith),
      chain_met words starts from (a + 2 + n) rest more (λ b has. forwarded b (Contains-rest a rest b has)),
    )

-- As words that are laid out have them.

-- An object of the from-space is forwarded to a current one or stands, with `n` fields.
pub record IsOldObject (words starts : List ℕ) (at : ℕ) (moved : Bool) (n : ℕ) : Type 0 where
  pub forwarded : StandsOrForwards words starts at moved
  pub long : old_length words at ≡ Some n

ending_is : (end at : ℕ) (o : Option ℕ) (n : ℕ) → ending end at o ≡ Some n → o ≡ Some n
ending_is end at None n is = cc
ending_is end at (Some m) n is = picked (nat_le (at + 2 + m) end) is
  where
    picked : (b : Bool) → (if b then Some m else None) ≡ Some n → Some m ≡ Some n
    picked true met = met
    picked false met = cc

copy_found : (words starts : List ℕ) (to n : ℕ) (b : Bool) → list_any (λ at. to == at) starts ≡ b → (if b then object_at words to else None) ≡ Some n → Contains starts to × (object_at words to ≡ Some n)
copy_found words starts to n true is met = (Contains-from_any exact_unsigned_eq to starts is, met)
copy_found words starts to n false is met = cc

copied_object : (words starts : List ℕ) (at n : ℕ) (h : Option Header) → header (slice_index words at) ≡ h → copy_length words starts h ≡ Some n → IsOldObject words starts at true n
copied_object words starts at n None is met = cc
copied_object words starts at n (Some (Length m)) is met = cc
copied_object words starts at n (Some (Forward to)) is met =
    let found = copy_found words starts to n (list_any (λ at. to == at) starts) refl met in
    record { forwarded = (to, is, found.0); long = ap (λ h. object_at words (led at h)) is ∙ found.1 }

-- one that is met is such
pub met_object : (words starts : List ℕ) (end at n : ℕ) (moved : Bool) → old_object words starts end at moved ≡ Some n → IsOldObject words starts at moved n
met_object words starts end at n true met = copied_object words starts at n (header (slice_index words at)) refl (ending_is end at _ n met)
met_object words starts end at n false met =
    let object = object_take words end at n met in record { forwarded = (n, object); long = old_length-object words at n object }

-- so they stand end to end
pub chain_ends : (words starts : List ℕ) (from : FromSpace) (at : ℕ) (olds : List ℕ) (end : ℕ) → AreChained (old_object_at words starts from) at olds end → AreOldEndToEnd words at olds end
chain_ends words starts from at [] end ends = ends
chain_ends words starts from at (a ∷ rest) end (n, same, met, more) =
    (n, same, (met_object words starts (from_end from) a n (is_moved from a) met).long, chain_ends words starts from (a + 2 + n) rest end more)

-- Sums.

count_one : (words starts : List ℕ) (at n : ℕ) (kept : List ℕ) (moved : Bool) (o : Option ℕ) → o ≡ Some n → IsOldObject words starts at moved n
    → moved_size moved o + taken_by words (if not moved then at ∷ kept else kept) ≡ 2 + n + taken_by words kept
count_one words starts at n kept true None is object = cc
count_one words starts at n kept true (Some m) is object = let same = same_Some m n is in omega arith
count_one words starts at n kept false o is object =
    let stands = object.forwarded in
    let own = same_Some stands.0 n (sym (old_length-object words at stands.0 stands.1) ∙ object.long) in
    let size = taken_object words at stands.0 stands.1 in omega arith

-- the copied ones and those that are left have as many words as all
pub chain_counted : (words starts : List ℕ) (from : FromSpace) (at : ℕ) (olds : List ℕ) (end : ℕ) → AreChained (old_object_at words starts from) at olds end
    → at + words_moved words starts from olds + taken_by words (filter (is_uncopied from.collection) olds) ≡ end
chain_counted words starts from at [] end same = omega (arith, same)
chain_counted words starts from at (a ∷ rest) end (n, same, met, more) =
    let object = met_object words starts (from_end from) a n (is_moved from a) met in
    let sum = sum_by-cons (λ x. moved_size (is_moved from x) (old_object_at words starts from x)) a rest in
    let one = count_one words starts a n (filter (is_uncopied from.collection) rest) (is_moved from a) (old_object_at words starts from a) met object in
    let later = chain_counted words starts from (a + 2 + n) rest end more in omega (arith, sum, one, later, same)
