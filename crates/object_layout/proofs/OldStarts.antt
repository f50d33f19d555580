-- The from-space's objects, as a loop finds and visits them, and fields that may lead to the objects of two lists.
use Rattle.std.proofs.Common.{◌≡◌, ℕ, zero, suc, ◌+◌, ◌<◌, ◌≤◌, ◌||◌, ◌==◌, inl, inr, Bool, true, false, List, [], ◌∷◌, ◌++◌, length, take, Option, None, Some, Result, Ok, Err, is_ok, is_err, refl, sym, ap, ◌∙◌, subst, arith, get_or}
use Rattle.std.specs.Prelude.{slice_get, slice_index, Contains, MatchBool, if◌then◌else◌}
use Rattle.std.specs.List.{list_any}
use Rattle.std.proofs.lemmas.Bool.{cases_order, cases_lt}
use Rattle.std.proofs.lemmas.Grind.{get_or_default_zero}
use Rattle.std.proofs.lemmas.List.Elements.{Contains-append_left, Contains-append_right, Contains-append_cases}
use Rattle.std.proofs.lemmas.List.Sums.{sum_by-append}
use Rattle.std.proofs.lemmas.Map.Views.{exact_unsigned_eq, Contains-from_any, list_any-from_Contains}
use Rattle.std.specs.Cmp.{nat_eq_equiv}
use Rattle.heap_words.specs.declared.Header.{Header}
use Rattle.heap_words.specs.declared.Header.TheVariants.{Length, Forward}
use Rattle.heap_words.specs.declared.Word.{Word}
use Rattle.heap_words.specs.declared.Word.TheVariants as word
use Rattle.heap_words.specs.Header.{header}
use Rattle.object_layout.specs.Layout.{object_at, whole_length, words_of, field_words}
use Rattle.object_layout.specs.Walk.{IsInside, AreAscending, KeepsInside}
use Rattle.object_layout.specs.CollectionWalk.{FromSpace, copy_length, ending, old_object, is_moved, old_object_at, AreChained, moved_size, words_moved, open_to, AllKeepInside, IsFirstOut}
use Rattle.object_layout.proofs.WalkLaws.{Contains-none, Contains-cases}

-- Objects end to end.

-- one more object
pub chained_push : (object : ℕ → Option ℕ) (from : ℕ) (starts : List ℕ) (at n : ℕ) → AreChained object from starts at → object at ≡ Some n
    → AreChained object from (starts ++ at ∷ []) (at + 2 + n)
chained_push object from [] at n objects is = (n, sym objects, is, refl)
chained_push object from (a ∷ rest) at n (m, same, first, more) is = (m, same, first, chained_push object (a + 2 + m) rest at n more is)

not_before : (object : ℕ → Option ℕ) (from : ℕ) (starts : List ℕ) (end k : ℕ) → AreChained object from starts end → k < length starts → from ≤ get_or starts k 0
not_before object from [] end k objects within = absurd (omega arith)
not_before object from (a ∷ rest) end zero (m, same, first, more) within = omega arith
not_before object from (a ∷ rest) end (suc k) (m, same, first, more) within =
    let later = not_before object (a + 2 + m) rest end k more (omega arith) in omega arith

-- their addresses ascend
pub chained_ascend : (object : ℕ → Option ℕ) (from : ℕ) (starts : List ℕ) (end : ℕ) → AreChained object from starts end → AreAscending starts
chained_ascend object from [] end objects i j order within = absurd (omega arith)
chained_ascend object from (a ∷ rest) end (m, same, first, more) zero zero order within = omega arith
chained_ascend object from (a ∷ rest) end (m, same, first, more) zero (suc j) order within =
    let later = not_before object (a + 2 + m) rest end j more (omega arith) in omega arith
chained_ascend object from (a ∷ rest) end (m, same, first, more) (suc i) zero order within = absurd (omega arith)
chained_ascend object from (a ∷ rest) end (m, same, first, more) (suc i) (suc j) order within =
    chained_ascend object (a + 2 + m) rest end more i j (omega arith) (omega arith)

-- each of these objects stands
pub chained_object : (object : ℕ → Option ℕ) (from : ℕ) (starts : List ℕ) (end at : ℕ) → AreChained object from starts end → Contains starts at
    → (n : ℕ) × (object at ≡ Some n)
chained_object object from [] end at objects has = absurd (Contains-none at has)
chained_object object from (a ∷ rest) end at (n, same, first, more) has = elim (Contains-cases a rest at has) [
  | inl here ↦ (n, ap object (sym here) ∙ first)
  | inr later ↦ chained_object object (a + 2 + n) rest end at more later
]

-- the same at a place of them
pub chained_place : (object : ℕ → Option ℕ) (from : ℕ) (starts : List ℕ) (end k : ℕ) → AreChained object from starts end → k < length starts
    → (n : ℕ) × (object (get_or starts k 0) ≡ Some n)
chained_place object from starts end k objects within =
    chained_object object from starts end (get_or starts k 0) objects (k, within, get_or_default_zero starts k (get_or starts k 0) within)

size_of : (moved : Bool) (o : Option ℕ) (n : ℕ) → o ≡ Some n → moved_size moved o ≡ (if moved then 2 + n else 0)
size_of true None n is = cc
size_of true (Some m) n is = cc
size_of false None n is = refl
size_of false (Some m) n is = refl

-- the words that one more object adds to those that were copied
pub moved_words_push : (words starts : List ℕ) (from : FromSpace) (olds : List ℕ) (at n : ℕ) → old_object_at words starts from at ≡ Some n
    → words_moved words starts from (olds ++ at ∷ []) ≡ words_moved words starts from olds + (if is_moved from at then 2 + n else 0)
moved_words_push words starts from olds at n is =
    let one = size_of (is_moved from at) (old_object_at words starts from at) n is in
    let all = sum_by-append (λ a. moved_size (is_moved from a) (old_object_at words starts from a)) olds (at ∷ []) in
    omega arith

-- Searches that fail.

-- what a search that found nothing says
pub not_found : (P Q : Type 0) (r : Result ℕ ℕ) → is_err r ≡ true → MatchBool (is_ok r) P Q → Q
not_found P Q (Ok i) is said = cc
not_found P Q (Err i) is said = said

-- and what one that found something says
pub was_found : (P Q : Type 0) (r : Result ℕ ℕ) → is_err r ≡ false → MatchBool (is_ok r) P Q → P
was_found P Q (Ok i) is said = said
was_found P Q (Err i) is said = cc

-- the same by the other test
pub found_there : (P Q : Type 0) (b : Bool) → b ≡ true → MatchBool b P Q → P
found_there P Q true is said = said
found_there P Q false is said = cc

pub found_none : (P Q : Type 0) (b : Bool) → b ≡ false → MatchBool b P Q → Q
found_none P Q true is said = cc
found_none P Q false is said = said

-- Where a forwarding word may lead.

-- it leads to one of these objects
pub copy_there : (words starts : List ℕ) (to : ℕ) → Contains starts to → copy_length words starts (Some (Forward to)) ≡ object_at words to
copy_there words starts to has = ap (λ b. if b then object_at words to else None) (list_any-from_Contains nat_eq_equiv to starts has)

any_none : (starts : List ℕ) (to : ℕ) (b : Bool) → list_any (λ at. to == at) starts ≡ b → (Contains starts to → ⊥) → b ≡ false
any_none starts to true is none = absurd (none (Contains-from_any exact_unsigned_eq to starts is))
any_none starts to false is none = refl

-- or to none of them
pub copy_nowhere : (words starts : List ℕ) (to : ℕ) → (Contains starts to → ⊥) → copy_length words starts (Some (Forward to)) ≡ None
copy_nowhere words starts to none = ap (λ b. if b then object_at words to else None) (any_none starts to (list_any (λ at. to == at) starts) refl none)

no_fields : (words starts : List ℕ) (end at n : ℕ) (h : Option Header) → ending end at (copy_length words starts h) ≡ Some n → words_of words at (whole_length words at h) ≡ []
no_fields words starts end at n None is = cc
no_fields words starts end at n (Some (Length m)) is = cc
no_fields words starts end at n (Some (Forward to)) is = refl

no_field : (ws : List ℕ) (i w : ℕ) → ws ≡ [] → slice_get ws i ≡ Some w → ⊥
no_field [] i w none is = cc
no_field (x ∷ ws) i w none is = cc

-- an object that was copied has no fields at its old address
pub copied_inside : (words starts may : List ℕ) (end at n : ℕ) (moved : Bool) → moved ≡ true → old_object words starts end at moved ≡ Some n → KeepsInside words may at
copied_inside words starts may end at n false was is = cc
copied_inside words starts may end at n true was is =
    λ i w field. absurd (no_field (field_words words at) i w (no_fields words starts end at n (header (slice_index words at)) is) field)

-- one that was not stands there
pub left_object : (words starts : List ℕ) (end at n : ℕ) (moved : Bool) → moved ≡ false → old_object words starts end at moved ≡ Some n → object_at (take end words) at ≡ Some n
left_object words starts end at n true was is = cc
left_object words starts end at n false was is = is

-- the objects to which a field may lead ascend too
pub open_ascend : (gray : Bool) (olds : List ℕ) → AreAscending olds → AreAscending (open_to gray olds)
open_ascend true olds ascend = ascend
open_ascend false olds ascend = λ i j order within. absurd (omega arith)

-- Fields.

inside_left : (xs ys : List ℕ) (meant : Option Word) → IsInside xs meant → IsInside (xs ++ ys) meant
inside_left xs ys None inside = inside
inside_left xs ys (Some word.Null) inside = inside
inside_left xs ys (Some (word.Int n)) inside = inside
inside_left xs ys (Some (word.Volatile k)) inside = inside
inside_left xs ys (Some (word.Stable b)) inside = Contains-append_left xs ys b inside

inside_right : (xs ys : List ℕ) (meant : Option Word) → IsInside ys meant → IsInside (xs ++ ys) meant
inside_right xs ys None inside = inside
inside_right xs ys (Some word.Null) inside = inside
inside_right xs ys (Some (word.Int n)) inside = inside
inside_right xs ys (Some (word.Volatile k)) inside = inside
inside_right xs ys (Some (word.Stable b)) inside = Contains-append_right xs ys b inside

inside_neither : (xs ys : List ℕ) (meant : Option Word) → (IsInside xs meant → ⊥) → (IsInside ys meant → ⊥) → IsInside (xs ++ ys) meant → ⊥
inside_neither xs ys None not_left not_right inside = not_left inside
inside_neither xs ys (Some word.Null) not_left not_right inside = not_left inside
inside_neither xs ys (Some (word.Int n)) not_left not_right inside = not_left inside
inside_neither xs ys (Some (word.Volatile k)) not_left not_right inside = not_left inside
inside_neither xs ys (Some (word.Stable b)) not_left not_right inside = elim (Contains-append_cases xs ys b inside) [
  | inl left ↦ not_left left
  | inr right ↦ not_right right
]

-- a field leads to the objects of two lists if it leads to those of one of them
pub inside_either : (xs ys : List ℕ) (meant : Option Word) (a b : Bool) → MatchBool a (IsInside xs meant) (IsInside xs meant → ⊥)
    → MatchBool b (IsInside ys meant) (IsInside ys meant → ⊥) → MatchBool (a || b) (IsInside (xs ++ ys) meant) (IsInside (xs ++ ys) meant → ⊥)
inside_either xs ys meant true b left right = inside_left xs ys meant left
inside_either xs ys meant false true left right = inside_right xs ys meant right
inside_either xs ys meant false false left right = inside_neither xs ys meant left right

-- The first object with a field that leads elsewhere than it may.

-- the fields of each of these objects so far lead where they may
abbrev pub KeepSoFar : List ℕ → (ℕ → List ℕ) → List ℕ → ℕ → Type 0
KeepSoFar words may starts count = (k : ℕ) → k < count → KeepsInside words (may (get_or starts k 0)) (get_or starts k 0)

-- one more of them
pub so_far_more : (words : List ℕ) (may : ℕ → List ℕ) (starts : List ℕ) (count : ℕ) → KeepSoFar words may starts count
    → KeepsInside words (may (get_or starts count 0)) (get_or starts count 0) → KeepSoFar words may starts (count + 1)
so_far_more words may starts count all one k below = elim (cases_order k count) [
  | inl same ↦ subst (λ (x : ℕ). KeepsInside words (may (get_or starts x 0)) (get_or starts x 0)) (sym same) one
  | inr (inl less) ↦ all k less
  | inr (inr more) ↦ absurd (omega arith)
]

-- all of them
pub so_far_all : (words : List ℕ) (may : ℕ → List ℕ) (starts : List ℕ) (count : ℕ) → length starts ≤ count → KeepSoFar words may starts count → AllKeepInside words may starts
so_far_all words may starts count whole all at (k, within, is) =
    subst (λ (x : ℕ). KeepsInside words (may x) x) (sym (get_or_default_zero starts k at within) ∙ is) (all k (omega arith))

-- the first that does not
pub so_far_out : (words : List ℕ) (may : ℕ → List ℕ) (starts : List ℕ) (count : ℕ) → AreAscending starts → count < length starts → KeepSoFar words may starts count
    → (KeepsInside words (may (get_or starts count 0)) (get_or starts count 0) → ⊥) → IsFirstOut words may starts (get_or starts count 0)
so_far_out words may starts count ascend within all out = record {
  has = (count, within, get_or_default_zero starts count (get_or starts count 0) within);
  out = out;
  first = λ before (k, inside, is) less.
      let there = sym (get_or_default_zero starts k before inside) ∙ is in
      elim (cases_lt k count) [
        | inl low ↦ subst (λ (x : ℕ). KeepsInside words (may x) x) there (all k low)
        | inr high ↦ let order = ascend count k high inside in absurd (omega arith)
      ];
}
