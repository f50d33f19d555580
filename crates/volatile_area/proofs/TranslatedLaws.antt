-- How the area is updated when objects of the heap move, one field after another.
use Rattle.std.proofs.Common.{◌≡◌, ◌≢◌, ℕ, zero, suc, ◌+◌, ◌<◌, ◌≤◌, inl, inr, List, [], ◌∷◌, ◌++◌, length, map, take, drop, get_or, Some, refl, sym, ap, ◌∙◌, subst, arith, add-one}
use Rattle.std.specs.Prelude.{Contains, slice_get, slice_set}
use Rattle.std.proofs.lemmas.Bool.{cases_eq, cases_lt}
use Rattle.std.proofs.lemmas.List.{length-set, take_all, drop_all, append-nil}
use Rattle.std.proofs.lemmas.List.Kept.{AllPairs-from_increasing}
use Rattle.std.proofs.lemmas.Grind.{get_or_default_zero}
use Rattle.heap_words.specs.Word.{IsFieldWord}
use Rattle.object_layout.specs.Layout.{field_words}
use Rattle.relocation.specs.Relocation.{translated_word}
use Rattle.volatile_area.specs.Area.{AreaState, length_at, starts_of, with_field, HasField, IsArea, HasSameObjects, IsTranslated, IsTranslatedIn}
use Rattle.volatile_area.proofs.AreaLaws.{starts_of-with_field, field_words-with_field_same, field_words-with_field_other, birth_at-with_field, with_field_is, starts_of_increase}

-- The same objects.

pub same_objects : (area : AreaState) → HasSameObjects area area
same_objects area = record { transaction = refl; made = refl; used = refl; starts = refl; births = λ object has. refl }

pub same_then : (a b c : AreaState) → HasSameObjects a b → HasSameObjects b c → HasSameObjects a c
same_then a b c ab bc = record {
  transaction = bc.transaction ∙ ab.transaction;
  made = bc.made ∙ ab.made;
  used = bc.used ∙ ab.used;
  starts = bc.starts ∙ ab.starts;
  births = λ object has. bc.births object (subst (λ (xs : List ℕ). Contains xs object) (sym ab.starts) has) ∙ ab.births object has;
}

same_with_field : (area : AreaState) (object field word : ℕ) → IsArea area → HasField area object field → HasSameObjects area (with_field area object field word)
same_with_field area object field word is there = record {
  transaction = refl;
  made = refl;
  used = length-set area.words (object + 2 + field) word;
  starts = starts_of-with_field area object field word is there;
  births = λ at has. birth_at-with_field area object field word at is there has;
}

-- One field after another.

put_mapped : (f : ℕ → ℕ) (ws : List ℕ) (k x : ℕ) → slice_get (map f (take k ws) ++ drop k ws) k ≡ Some x → slice_set (map f (take k ws) ++ drop k ws) k (f x) ≡ map f (take (suc k) ws) ++ drop (suc k) ws
put_mapped f [] zero x got = absurd (cc got)
put_mapped f [] (suc k) x got = absurd (cc got)
put_mapped f (w ∷ ws) zero x got =
    let same : w ≡ x = cc in
    ap (λ y. f y ∷ ws) (sym same)
put_mapped f (w ∷ ws) (suc k) x got = ap (λ l. f w ∷ l) (put_mapped f ws k x got)

length_mapped : (f : ℕ → ℕ) (ws : List ℕ) (k : ℕ) → length (map f (take k ws) ++ drop k ws) ≡ length ws
length_mapped f [] zero = refl
length_mapped f [] (suc k) = refl
length_mapped f (w ∷ ws) zero = refl
length_mapped f (w ∷ ws) (suc k) = ap suc (length_mapped f ws k)

all_mapped : (f : ℕ → ℕ) (ws : List ℕ) (n : ℕ) → length ws ≤ n → map f (take n ws) ++ drop n ws ≡ map f ws
all_mapped f ws n all = ap (λ xs. map f xs ++ drop n ws) (take_all n ws all) ∙ ap (λ xs. map f ws ++ xs) (drop_all n ws all) ∙ append-nil (map f ws)

-- The first fields of an object are translated.
pub record IsUpto (pairs : List (ℕ × ℕ)) (object k : ℕ) (old now : AreaState) : Type 0 where
  pub sound : IsArea now
  pub objects : HasSameObjects old now
  pub fields : field_words now.words object ≡ map (translated_word pairs) (take k (field_words old.words object)) ++ drop k (field_words old.words object)
  pub others : (other : ℕ) → Contains (starts_of old) other → other ≢ object → field_words now.words other ≡ field_words old.words other

pub upto_none : (pairs : List (ℕ × ℕ)) (object : ℕ) (area : AreaState) → IsArea area → IsUpto pairs object 0 area area
upto_none pairs object area is = record { sound = is; objects = same_objects area; fields = refl; others = λ other has differs. refl }

-- the next field is there
pub upto_has : (pairs : List (ℕ × ℕ)) (object k : ℕ) (old now : AreaState) → IsUpto pairs object k old now → Contains (starts_of old) object → k < length_at old.words object → HasField now object k
upto_has pairs object k old now upto has within = record {
  starts = subst (λ (xs : List ℕ). Contains xs object) (sym upto.objects.starts) has;
  within = let same = ap length upto.fields ∙ length_mapped (translated_word pairs) (field_words old.words object) k in omega arith;
}

pub upto_more : (pairs : List (ℕ × ℕ)) (object k : ℕ) (old now : AreaState) (word : ℕ) → IsUpto pairs object k old now → HasField now object k → slice_get (field_words now.words object) k ≡ Some word
    → IsFieldWord (translated_word pairs word) → IsUpto pairs object (k + 1) old (with_field now object k (translated_word pairs word))
upto_more pairs object k old now word upto there got meant =
    let f = translated_word pairs in
    let ws = field_words old.words object in
    record {
      sound = with_field_is now object k (f word) upto.sound there meant;
      objects = same_then old now (with_field now object k (f word)) upto.objects (same_with_field now object k (f word) upto.sound there);
      fields =
          field_words-with_field_same now object k (f word) upto.sound there
          ∙ ap (λ xs. slice_set xs k (f word)) upto.fields
          ∙ put_mapped f ws k word (ap (λ xs. slice_get xs k) (sym upto.fields) ∙ got)
          ∙ ap (λ n. map f (take n ws) ++ drop n ws) (sym (add-one k));
      others = λ other has differs.
          field_words-with_field_other now object k (f word) other upto.sound there (subst (λ (xs : List ℕ). Contains xs other) (sym upto.objects.starts) has) differs
          ∙ upto.others other has differs;
    }

pub upto_all : (pairs : List (ℕ × ℕ)) (object n : ℕ) (old now : AreaState) → IsUpto pairs object n old now → n ≡ length_at old.words object → IsTranslatedIn pairs object old now
upto_all pairs object n old now upto all =
    let f = translated_word pairs in
    let ws = field_words old.words object in
    record {
      objects = upto.objects;
      fields = upto.fields ∙ all_mapped f ws n (omega arith);
      others = upto.others;
    }

-- One object after another.

-- The first objects are translated.
pub record AreUpto (pairs : List (ℕ × ℕ)) (k : ℕ) (old now : AreaState) : Type 0 where
  pub sound : IsArea now
  pub objects : HasSameObjects old now
  pub done : (i : ℕ) → i < k → i < length (starts_of old) → field_words now.words (get_or (starts_of old) i 0) ≡ map (translated_word pairs) (field_words old.words (get_or (starts_of old) i 0))
  pub rest : (i : ℕ) → k ≤ i → i < length (starts_of old) → field_words now.words (get_or (starts_of old) i 0) ≡ field_words old.words (get_or (starts_of old) i 0)

-- a start is in the list of starts
start_at : (area : AreaState) (i : ℕ) → i < length (starts_of area) → Contains (starts_of area) (get_or (starts_of area) i 0)
start_at area i within = (i, within, get_or_default_zero (starts_of area) i _ within)

-- two places have different starts
differ : (area : AreaState) (i j : ℕ) → i ≢ j → i < length (starts_of area) → j < length (starts_of area) → get_or (starts_of area) i 0 ≢ get_or (starts_of area) j 0
differ area i j other low high same =
    let up = AllPairs-from_increasing (starts_of area) (starts_of_increase area) in
    elim (cases_lt i j) [
      | inl less ↦ let below = up i j 0 less high in omega arith
      | inr not_less ↦ let below = up j i 0 (omega arith) low in omega arith
    ]

pub are_more : (pairs : List (ℕ × ℕ)) (k : ℕ) (old now new : AreaState) → AreUpto pairs k old now → k < length (starts_of old) → IsArea new → IsTranslatedIn pairs (get_or (starts_of old) k 0) now new → AreUpto pairs (k + 1) old new
are_more pairs k old now new upto within sound one =
    let at = get_or (starts_of old) k 0 in
    let moved : (i : ℕ) → i < length (starts_of old) → Contains (starts_of now) (get_or (starts_of old) i 0) = λ i there. subst (λ (xs : List ℕ). Contains xs (get_or (starts_of old) i 0)) (sym upto.objects.starts) (start_at old i there) in
    record {
      sound = sound;
      objects = same_then old now new upto.objects one.objects;
      done = λ i low there. elim (cases_eq i k) [
        | inl here ↦
            let At : ℕ → Type 0 = λ j. field_words new.words (get_or (starts_of old) j 0) ≡ map (translated_word pairs) (field_words old.words (get_or (starts_of old) j 0)) in
            subst At (sym here) (one.fields ∙ ap (map (translated_word pairs)) (upto.rest k (omega arith) within))
        | inr before ↦ one.others (get_or (starts_of old) i 0) (moved i there) (differ old i k before there within) ∙ upto.done i (omega arith) there
      ];
      rest = λ i high there. one.others (get_or (starts_of old) i 0) (moved i there) (differ old i k (λ same. omega arith) there within) ∙ upto.rest i (omega arith) there;
    }

pub are_all : (pairs : List (ℕ × ℕ)) (k : ℕ) (old now : AreaState) → AreUpto pairs k old now → length (starts_of old) ≤ k → IsTranslated pairs old now
are_all pairs k old now upto all = record {
  objects = upto.objects;
  fields = λ object has.
      let place = has.0 in
      let within = has.1 in
      let same = sym (get_or_default_zero (starts_of old) place object within) ∙ has.2 in
      let At : ℕ → Type 0 = λ a. field_words now.words a ≡ map (translated_word pairs) (field_words old.words a) in
      subst At same (upto.done place (omega arith) within);
}
