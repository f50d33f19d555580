-- Laws of volatile areas: where their objects stand, and what changes when one is made or written.
use Rattle.std.proofs.Common.{◌≡◌, ◌≢◌, ℕ, zero, suc, ◌+◌, ◌*◌, ◌<◌, ◌≤◌, ◌⊎◌, inl, inr, List, [], ◌∷◌, ◌++◌, length, Some, refl, sym, ap, ◌∙◌, subst, arith}
use Rattle.std.specs.Prelude.{slice_get, slice_set, slice_index, replicate, Contains}
use Rattle.std.specs.List.Sorted.{IsStrictlyIncreasing}
use Rattle.std.proofs.lemmas.Bool.{cases_eq}
use Rattle.std.proofs.lemmas.List.{length-append, length-replicate, length-set, length_push}
use Rattle.std.proofs.lemmas.List.Elements.{Contains-push_cases}
use Rattle.std.proofs.lemmas.Option.{same_Some, slice_get_within, get_or_from_slice_get}
use Rattle.heap_words.specs.declared.Word.TheVariants.{Null}
use Rattle.heap_words.specs.Header.{birth_bits}
use Rattle.heap_words.specs.Word.{IsFieldWord}
use Rattle.object_layout.specs.Layout.{object_at, field_words, birth_at}
use Rattle.object_layout.proofs.LayoutLaws.{object_header, length-field_words}
use Rattle.object_layout.specs.Walk.{AreEndToEnd}
use Rattle.object_layout.proofs.WalkedLaws.{end_to_end_object}
use Rattle.volatile_area.specs.Area.{AreaState, length_at, starts_from, starts_of, new_words, with_object, with_field, HasField, IsArea}
use Rattle.object_layout.proofs.ObjectLaws.{field_words_append, birth_at_append, field_words_beside, field_words_set, birth_at_set, birth_at_behind, end_to_end_append, end_to_end_push, end_to_end_apart, end_to_end_set}
use Rattle.volatile_area.proofs.ObjectLaws.{object_behind, field_words_behind, end_to_end_long, length-starts_from, starts_from-end_to_end}

-- Starts.

-- each object has its start
pub length-starts_of : (area : AreaState) → length (starts_of area) ≡ area.made
length-starts_of area = length-starts_from area.made area.words 0

starts_increase : (more : ℕ) (words : List ℕ) (at : ℕ) → IsStrictlyIncreasing (starts_from more words at)
starts_increase zero words at k within = absurd (omega arith)
starts_increase (suc zero) words at k within = absurd (omega arith)
starts_increase (suc (suc more)) words at zero within = omega arith
starts_increase (suc (suc more)) words at (suc k) within =
    let rest = starts_from (suc more) words (at + 2 + length_at words at) in
    let next : suc k + 1 ≡ suc (k + 1) = omega arith in
    let Below : ℕ → Type 0 = λ j. slice_index rest k < slice_index (at ∷ rest) j in
    subst Below (sym next) (starts_increase (suc more) words (at + 2 + length_at words at) k (omega arith))

-- the starts ascend
pub starts_of_increase : (area : AreaState) → IsStrictlyIncreasing (starts_of area)
starts_of_increase area = starts_increase area.made area.words 0

-- An object of an area, with that many fields.
pub record HasObject (area : AreaState) (at fields : ℕ) : Type 0 where
  pub object : object_at area.words at ≡ Some fields
  pub within : at + 2 + fields ≤ length area.words

-- at each start of an area stands an object
pub area_object : (area : AreaState) (at : ℕ) → IsArea area → Contains (starts_of area) at → (n : ℕ) × HasObject area at n
area_object area at is has =
    let object = end_to_end_object area.words 0 (starts_of area) (length area.words) at is.objects has in
    (object.0, record { object = object.1; within = (object_header area.words at object.0 object.1).1 })

-- an area has few objects
pub made_few : (area : AreaState) → IsArea area → 2 * area.made ≤ length area.words
made_few area is =
    let long = end_to_end_long area.words 0 (starts_of area) (length area.words) is.objects in
    omega (arith, length-starts_of area)

-- The area of a transaction that has made no object.

-- One more object.

-- the words that it takes
pub length-with_object : (area : AreaState) (n : ℕ) → length (with_object area n).words ≡ length area.words + 2 + n
length-with_object area n = omega (arith, length-append area.words (new_words area.transaction (area.made + 1) n), length-replicate {A = ℕ} n 0)

objects_with_object : (area : AreaState) (n : ℕ) → IsArea area → n < 511
    → AreEndToEnd (with_object area n).words 0 (starts_of area ++ length area.words ∷ []) (length area.words + 2 + n)
objects_with_object area n is small =
    let new = new_words area.transaction (area.made + 1) n in
    end_to_end_push (area.words ++ new) 0 (starts_of area) (length area.words) n
    (end_to_end_append area.words new 0 (starts_of area) (length area.words) is.objects)
    (object_behind area.words (birth_bits area.transaction (area.made + 1)) n small)

-- it starts after the words
pub starts_of-with_object : (area : AreaState) (n : ℕ) → IsArea area → n < 511 → starts_of (with_object area n) ≡ starts_of area ++ length area.words ∷ []
starts_of-with_object area n is small =
    let new = new_words area.transaction (area.made + 1) n in
    let long : length (starts_of area ++ length area.words ∷ []) ≡ area.made + 1 = length_push (starts_of area) (length area.words) ∙ ap (λ x. x + 1) (length-starts_of area) in
    ap (λ k. starts_from k (area.words ++ new) 0) (sym long)
    ∙ starts_from-end_to_end (area.words ++ new) 0 (starts_of area ++ length area.words ∷ []) (length area.words + 2 + n) (objects_with_object area n is small)

-- its fields are null
pub field_words-with_object_new : (area : AreaState) (n : ℕ) → n < 511 → field_words (with_object area n).words (length area.words) ≡ replicate n 0
field_words-with_object_new area n small = field_words_behind area.words (birth_bits area.transaction (area.made + 1)) n small

-- the fields of the others stay
pub field_words-with_object_old : (area : AreaState) (n at : ℕ) → IsArea area → Contains (starts_of area) at → field_words (with_object area n).words at ≡ field_words area.words at
field_words-with_object_old area n at is has =
    let object = area_object area at is has in
    field_words_append area.words (new_words area.transaction (area.made + 1) n) at object.0 object.1.object

-- and so do their births
pub birth_at-with_object_old : (area : AreaState) (n at : ℕ) → IsArea area → Contains (starts_of area) at → birth_at (with_object area n).words at ≡ birth_at area.words at
birth_at-with_object_old area n at is has =
    let object = area_object area at is has in
    birth_at_append area.words (new_words area.transaction (area.made + 1) n) at object.0 object.1.object

slice_get_push : (xs : List ℕ) (x i y : ℕ) → slice_get (xs ++ x ∷ []) i ≡ Some y → (slice_get xs i ≡ Some y) ⊎ ((i ≡ length xs) × (x ≡ y))
slice_get_push [] x zero y is = inr (refl, same_Some x y is)
slice_get_push [] x (suc i) y is = absurd (cc is)
slice_get_push (z ∷ xs) x zero y is = inl is
slice_get_push (z ∷ xs) x (suc i) y is = elim (slice_get_push xs x i y is) [ inl there ↦ inl there | inr here ↦ inr (ap suc here.0, here.1) ]

-- what is got from a list is in it
pub Contains-slice_get : (xs : List ℕ) (i x : ℕ) → slice_get xs i ≡ Some x → Contains xs x
Contains-slice_get xs i x is = (i, slice_get_within xs i x is, get_or_from_slice_get xs i x x is)

all_null : (n i w : ℕ) → slice_get (replicate n 0) i ≡ Some w → w ≡ 0
all_null zero i w is = absurd (cc is)
all_null (suc n) zero w is = sym (same_Some 0 w is)
all_null (suc n) (suc i) w is = all_null n i w is

null_word : (w : ℕ) → w ≡ 0 → IsFieldWord w
null_word w is = (Null, tt, is)

-- an area with one more object is an area, if its words are few enough
pub with_object_is : (area : AreaState) (n : ℕ) → IsArea area → n < 511 → length area.words + 2 + n ≤ 4096 → IsArea (with_object area n)
with_object_is area n is small few =
    let new = new_words area.transaction (area.made + 1) n in
    let words = area.words ++ new in
    let starts : starts_of (with_object area n) ≡ starts_of area ++ length area.words ∷ [] = starts_of-with_object area n is small in
    let Objects : List ℕ → Type 0 = λ xs. AreEndToEnd words 0 xs (length area.words + 2 + n) in
    let Ends : ℕ → Type 0 = λ e. AreEndToEnd words 0 (starts_of (with_object area n)) e in
    record {
      few = omega (arith, length-with_object area n);
      objects = subst Ends (sym (length-with_object area n)) (subst Objects (sym starts) (objects_with_object area n is small));
      births = λ i at there. elim (slice_get_push (starts_of area) (length area.words) i at (ap (λ xs. slice_get xs i) (sym starts) ∙ there)) [
        | inl old ↦ birth_at-with_object_old area n at is (Contains-slice_get (starts_of area) i at old) ∙ is.births i at old
        | inr (place, same) ↦
            ap (birth_at words) (sym same) ∙ birth_at_behind area.words (4 * n + 1) (birth_bits area.transaction (area.made + 1)) (replicate n 0)
            ∙ ap (λ k. birth_bits area.transaction (k + 1)) (sym (place ∙ length-starts_of area))
      ];
      fields = λ at i w has there. elim (Contains-push_cases (starts_of area) (length area.words) at (subst (λ (xs : List ℕ). Contains xs at) starts has)) [
        | inl old ↦ is.fields at i w old (ap (λ ws. slice_get ws i) (sym (field_words-with_object_old area n at is old)) ∙ there)
        | inr same ↦ null_word w (all_null n i w (ap (λ ws. slice_get ws i) (sym (field_words-with_object_new area n small)) ∙ ap (λ x. slice_get (field_words words x) i) same ∙ there))
      ];
    }

-- A word in a field.

-- the field is within the object
pub field_within : (area : AreaState) (object field n : ℕ) → HasField area object field → object_at area.words object ≡ Some n → field < n
field_within area object field n there is =
    let long = length-field_words area.words object n is in
    let within = there.within in
    omega arith

-- it is no object's header
no_start : (area : AreaState) (object field at : ℕ) → IsArea area → HasField area object field → Contains (starts_of area) at → object + 2 + field ≢ at
no_start area object field at is there has same =
    let one = area_object area object is there.starts in
    let other = area_object area at is has in
    let within = field_within area object field one.0 there one.1.object in
    elim (end_to_end_apart area.words 0 (starts_of area) (length area.words) object one.0 at other.0 is.objects there.starts one.1.object has other.1.object) [
      | inl equal ↦ omega arith
      | inr (inl before) ↦ omega arith
      | inr (inr behind) ↦ omega arith
    ]

objects_with_field : (area : AreaState) (object field word : ℕ) → IsArea area → HasField area object field
    → AreEndToEnd (with_field area object field word).words 0 (starts_of area) (length area.words)
objects_with_field area object field word is there =
    end_to_end_set area.words (object + 2 + field) word 0 (starts_of area) (length area.words) (λ at has. no_start area object field at is there has) is.objects

-- the objects start where they did
pub starts_of-with_field : (area : AreaState) (object field word : ℕ) → IsArea area → HasField area object field → starts_of (with_field area object field word) ≡ starts_of area
starts_of-with_field area object field word is there =
    ap (λ k. starts_from k (slice_set area.words (object + 2 + field) word) 0) (sym (length-starts_of area))
    ∙ starts_from-end_to_end (slice_set area.words (object + 2 + field) word) 0 (starts_of area) (length area.words) (objects_with_field area object field word is there)

-- the word is the field's
pub field_words-with_field_same : (area : AreaState) (object field word : ℕ) → IsArea area → HasField area object field
    → field_words (with_field area object field word).words object ≡ slice_set (field_words area.words object) field word
field_words-with_field_same area object field word is there =
    let one = area_object area object is there.starts in
    field_words_set area.words object field word one.0 one.1.object

-- the fields of the others stay
pub field_words-with_field_other : (area : AreaState) (object field word at : ℕ) → IsArea area → HasField area object field → Contains (starts_of area) at → at ≢ object
    → field_words (with_field area object field word).words at ≡ field_words area.words at
field_words-with_field_other area object field word at is there has other =
    let one = area_object area object is there.starts in
    let two = area_object area at is has in
    let within = field_within area object field one.0 there one.1.object in
    field_words_beside area.words (object + 2 + field) word at two.0 two.1.object
    (elim (end_to_end_apart area.words 0 (starts_of area) (length area.words) object one.0 at two.0 is.objects there.starts one.1.object has two.1.object) [
      | inl equal ↦ absurd (other (sym equal))
      | inr (inl before) ↦ inl (omega arith)
      | inr (inr behind) ↦ inr (omega arith)
    ])

-- the births stay
pub birth_at-with_field : (area : AreaState) (object field word at : ℕ) → IsArea area → HasField area object field → Contains (starts_of area) at
    → birth_at (with_field area object field word).words at ≡ birth_at area.words at
birth_at-with_field area object field word at is there has =
    let one = area_object area object is there.starts in
    let two = area_object area at is has in
    let within = field_within area object field one.0 there one.1.object in
    birth_at_set area.words (object + 2 + field) word at
    (λ same. elim (end_to_end_apart area.words 0 (starts_of area) (length area.words) object one.0 at two.0 is.objects there.starts one.1.object has two.1.object) [
      | inl equal ↦ omega arith
      | inr (inl before) ↦ omega arith
      | inr (inr behind) ↦ omega arith
    ])

slice_get_set : (xs : List ℕ) (j x i y : ℕ) → slice_get (slice_set xs j x) i ≡ Some y → (x ≡ y) ⊎ (slice_get xs i ≡ Some y)
slice_get_set [] j x i y is = absurd (cc is)
slice_get_set (z ∷ xs) zero x zero y is = inl (same_Some x y is)
slice_get_set (z ∷ xs) zero x (suc i) y is = inr is
slice_get_set (z ∷ xs) (suc j) x zero y is = inr is
slice_get_set (z ∷ xs) (suc j) x (suc i) y is = slice_get_set xs j x i y is

-- an area is still one after a field's word is put into a field
pub with_field_is : (area : AreaState) (object field word : ℕ) → IsArea area → HasField area object field → IsFieldWord word → IsArea (with_field area object field word)
with_field_is area object field word is there meant =
    let words = slice_set area.words (object + 2 + field) word in
    let starts : starts_of (with_field area object field word) ≡ starts_of area = starts_of-with_field area object field word is there in
    let same : length words ≡ length area.words = length-set area.words (object + 2 + field) word in
    let few = is.few in
    let Objects : List ℕ → Type 0 = λ xs. AreEndToEnd words 0 xs (length area.words) in
    let Ends : ℕ → Type 0 = λ e. AreEndToEnd words 0 (starts_of (with_field area object field word)) e in
    record {
      few = omega arith;
      objects = subst Ends (sym same) (subst Objects (sym starts) (objects_with_field area object field word is there));
      births = λ i at got.
          let old = ap (λ xs. slice_get xs i) (sym starts) ∙ got in
          birth_at-with_field area object field word at is there (Contains-slice_get (starts_of area) i at old) ∙ is.births i at old;
      fields = λ at i w has got.
          let old : Contains (starts_of area) at = subst (λ (xs : List ℕ). Contains xs at) starts has in
          elim (cases_eq at object) [
            | inl here ↦ elim (slice_get_set (field_words area.words object) field word i w
                (ap (λ ws. slice_get ws i) (sym (field_words-with_field_same area object field word is there)) ∙ ap (λ x. slice_get (field_words words x) i) (sym here) ∙ got)) [
                  | inl new ↦ subst IsFieldWord new meant
                  | inr kept ↦ is.fields object i w there.starts kept
                ]
            | inr other ↦ is.fields at i w old (ap (λ ws. slice_get ws i) (sym (field_words-with_field_other area object field word at is there old other)) ∙ got)
          ];
    }
