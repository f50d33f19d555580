-- What the fields of an area say about its view in contracts.
use Rattle.std.proofs.Common.{◌≡◌, ℕ, suc, ◌+◌, ◌-◌, ◌/◌, ◌<◌, ◌≤◌, ◌↔◌, List, [], ◌∷◌, ◌++◌, length, get_or, Result, Ok, Err, is_ok, Some, inl, inr, refl, sym, ap, ◌∙◌, subst, arith}
use Rattle.std.specs.Prelude.{slice_set, slice_index, replicate, Contains, IsTrue, All}
use Rattle.std.specs.Ordering.{nat_cmp}
use Rattle.std.specs.List.Sorted.{IsBinarySearchResult}
use Rattle.std.proofs.lemmas.Bool.{cases_lt}
use Rattle.std.proofs.lemmas.Grind.{get_or_default_zero}
use Rattle.std.proofs.lemmas.List.{set-append_right}
use Rattle.std.proofs.lemmas.List.Sorted.{searched}
use Rattle.std.proofs.lemmas.Map.Keys.{sorted_from_strictly_increasing, non_decreasing_from_sorted}
use Rattle.std.proofs.lemmas.Option.{slice_get-get_or}
use Rattle.heap_words.specs.declared.Header.TheVariants.{Length}
use Rattle.heap_words.specs.Word.{IsFieldWord}
use Rattle.heap_words.proofs.HeaderLaws.{bits-header}
use Rattle.object_layout.specs.Layout.{object_at, field_words}
use Rattle.object_layout.proofs.LayoutLaws.{object_header}
use Rattle.volatile_area.specs.Area.{AreaState, starts_of, with_object, with_field, HasField, IsArea, AreItsStarts}
use Rattle.volatile_area.proofs.AreaLaws.{starts_of_increase, area_object, starts_of-with_object, with_object_is, starts_of-with_field, with_field_is}

-- the starts do not fall
kept_rise : (kept : List ℕ) (area : AreaState) → AreItsStarts kept area → (i j : ℕ) → i ≤ j → j < length kept → get_or kept i 0 ≤ get_or kept j 0
kept_rise kept area is i j order within =
    let Rise : List ℕ → Type 0 = λ xs. (i j : ℕ) → i ≤ j → j < length xs → get_or xs i 0 ≤ get_or xs j 0 in
    subst Rise (sym is.own) (λ i j order within. non_decreasing_from_sorted (starts_of area) (sorted_from_strictly_increasing (starts_of area) (starts_of_increase area)) i j 0 order within) i j order within

-- what is in neither part of the starts is not there
nowhere : (xs : List ℕ) (i x : ℕ) → ((k : ℕ) → k < i → get_or xs k 0 < x) → ((k : ℕ) → i ≤ k → k < length xs → x < get_or xs k 0) → Contains xs x → ⊥
nowhere xs i x before behind (k, within, same) =
    let there = sym (get_or_default_zero xs k x within) ∙ same in
    elim (cases_lt k i) [
      | inl low ↦ let less = before k low in omega arith
      | inr high ↦ let more = behind k high within in omega arith
    ]

-- a search of the starts finds exactly the starts
pub found_start : (kept : List ℕ) (inside now : AreaState) (found : List ℕ) (at : ℕ) (r : Result ℕ ℕ) → AreItsStarts kept inside → inside ≡ now → found ≡ kept
    → IsBinarySearchResult (λ y. nat_cmp y at) found r → IsTrue (is_ok r) ↔ Contains (starts_of now) at
found_start kept inside now found at r is same all answer = by_answer r (subst (λ xs. IsBinarySearchResult (λ y. nat_cmp y at) xs r) all answer)
  where
    start : Contains kept at → Contains (starts_of now) at
    start has = subst (λ (xs : List ℕ). Contains xs at) (is.own ∙ ap starts_of same) has

    by_answer : (r : Result ℕ ℕ) → IsBinarySearchResult (λ y. nat_cmp y at) kept r → IsTrue (is_ok r) ↔ Contains (starts_of now) at
    by_answer (Ok i) answer =
        let found = searched kept at (Ok i) answer (kept_rise kept inside is) in
        (λ told. start (i, found.0, get_or_default_zero kept i at found.0 ∙ found.1), λ has. refl)
    by_answer (Err i) answer =
        let around = searched kept at (Err i) answer (kept_rise kept inside is) in (
          λ told. absurd (cc told),
          λ has. absurd (nowhere kept i at around.1 around.2 (subst (λ (xs : List ℕ). Contains xs at) (sym (is.own ∙ ap starts_of same)) has)),
        )

-- An object of the contracts' view, as it stands in the fields.
pub record StandsAt (inside now : AreaState) (at : ℕ) : Type 0 where
  pub object : object_at now.words at ≡ Some (slice_index inside.words at / 4)
  pub small : slice_index inside.words at / 4 < 511
  pub within : at + 2 ≤ length inside.words

pub stands_at : (kept : List ℕ) (inside now : AreaState) (at : ℕ) → AreItsStarts kept inside → inside ≡ now → Contains (starts_of now) at → StandsAt inside now at
stands_at kept inside now at is same has =
    let object = area_object inside at is.sound (subst (λ (area : AreaState). Contains (starts_of area) at) (sym same) has) in
    let header = bits-header (slice_index inside.words at) (Length object.0) (object_header inside.words at object.0 object.1.object).0 in
    let small = header.0 in
    let within = object.1.within in
    let quarter : object.0 ≡ slice_index inside.words at / 4 = omega (arith, header.1) in
    record {
      object = ap (λ (area : AreaState). object_at area.words at) (sym same) ∙ object.1.object ∙ ap Some quarter;
      small = omega arith;
      within = omega arith;
    }

-- in each field of an object stands a field's word
pub fields_meant : (kept : List ℕ) (inside now : AreaState) (at : ℕ) → AreItsStarts kept inside → inside ≡ now → Contains (starts_of now) at → All IsFieldWord (field_words now.words at)
fields_meant kept inside now at is same has k d within =
    (subst IsArea same is.sound).fields at k (get_or (field_words now.words at) k d) has (slice_get-get_or (field_words now.words at) k d within)

-- the fields after an object was made
pub kept_with_object : (kept : List ℕ) (area : AreaState) (n : ℕ) → AreItsStarts kept area → n ≤ 510 → length area.words + 2 + n ≤ 4096
    → AreItsStarts (kept ++ length area.words ∷ []) (with_object area n)
kept_with_object kept area n is small few = record {
  own = ap (λ xs. xs ++ length area.words ∷ []) is.own ∙ sym (starts_of-with_object area n is.sound (omega arith));
  sound = with_object_is area n is.sound (omega arith) few;
}

-- the fields after a word was put into a field
pub kept_with_field : (kept : List ℕ) (inside now : AreaState) (object field word : ℕ) → AreItsStarts kept inside → inside ≡ now → HasField now object field → IsFieldWord word
    → AreItsStarts kept (with_field inside object field word)
kept_with_field kept inside now object field word is same there meant =
    let has : HasField inside object field = subst (λ (area : AreaState). HasField area object field) (sym same) there in
    record {
      own = is.own ∙ sym (starts_of-with_field inside object field word is.sound has);
      sound = with_field_is inside object field word is.sound has meant;
    }

-- the words of a new object, put in place of existing words
pub object_put : (words more : List ℕ) (at header birth n : ℕ) → at ≡ length words → more ≡ words ++ replicate (2 + n) 0
    → slice_set (slice_set more at header) (at + 1) birth ≡ words ++ header ∷ birth ∷ replicate n 0
object_put words more at header birth n place grown =
    let two : 2 + n ≡ suc (suc n) = omega arith in
    let first : at - length words ≡ 0 = omega arith in
    let second : at + 1 - length words ≡ 1 = omega arith in
    let header_put : slice_set (words ++ 0 ∷ 0 ∷ replicate n 0) at header ≡ words ++ header ∷ 0 ∷ replicate n 0 =
    set-append_right words (0 ∷ 0 ∷ replicate n 0) (length words) at header refl (omega arith) ∙ ap (λ k. words ++ slice_set (0 ∷ 0 ∷ replicate n 0) k header) first in
    let birth_put : slice_set (words ++ header ∷ 0 ∷ replicate n 0) (at + 1) birth ≡ words ++ header ∷ birth ∷ replicate n 0 =
    set-append_right words (header ∷ 0 ∷ replicate n 0) (length words) (at + 1) birth refl (omega arith) ∙ ap (λ k. words ++ slice_set (header ∷ 0 ∷ replicate n 0) k birth) second in
    ap (λ ws. slice_set (slice_set ws at header) (at + 1) birth) (grown ∙ ap (λ k. words ++ replicate k 0) two)
    ∙ ap (λ ws. slice_set ws (at + 1) birth) header_put
    ∙ birth_put
