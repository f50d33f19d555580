-- Objects that stand end to end, as a loop finds and visits them.
use Rattle.std.proofs.Common.{◌≡◌, ℕ, zero, suc, ◌+◌, ◌-◌, ◌<◌, ◌≤◌, inl, inr, List, [], ◌∷◌, ◌++◌, length, take, drop, Some, Result, Ok, Err, is_ok, refl, sym, ap, ◌∙◌, subst, arith, get_or}
use Rattle.std.specs.Prelude.{slice_get, Contains, MatchBool}
use Rattle.std.specs.Ordering.{nat_cmp}
use Rattle.std.specs.List.Sorted.{IsBinarySearchResult}
use Rattle.std.proofs.lemmas.Bool.{cases_order, cases_lt}
use Rattle.std.proofs.lemmas.Grind.{get_or_default_zero}
use Rattle.std.proofs.lemmas.List.{get_or-drop, get_or-take, length-drop, length-take}
use Rattle.std.proofs.lemmas.List.Sorted.{searched}
use Rattle.std.proofs.lemmas.Option.{same_Some, slice_get-get_or}
use Rattle.heap_words.specs.Word.{meaning}
use Rattle.object_layout.specs.Layout.{object_at}
use Rattle.object_layout.specs.Walk.{used_words, AreEndToEnd, IsInside, AreInside, AreAscending, KeepsInside, IsFilled, IsWalkFault, leads_out}
use Rattle.object_layout.proofs.WalkLaws.{field_words_take}
use Rattle.object_layout.proofs.WalkedLaws.{end_to_end_object}

-- one more object
pub end_to_end_push : (words : List ℕ) (from : ℕ) (starts : List ℕ) (at n : ℕ) → AreEndToEnd words from starts at → object_at words at ≡ Some n
    → AreEndToEnd words from (starts ++ at ∷ []) (at + 2 + n)
end_to_end_push words from [] at n objects object = (n, sym objects, object, refl)
end_to_end_push words from (a ∷ rest) at n (m, same, first, more) object = (m, same, first, end_to_end_push words (a + 2 + m) rest at n more object)

not_before : (words : List ℕ) (from : ℕ) (starts : List ℕ) (end k : ℕ) → AreEndToEnd words from starts end → k < length starts → from ≤ get_or starts k 0
not_before words from [] end k objects within = absurd (omega arith)
not_before words from (a ∷ rest) end zero (m, same, first, more) within = omega arith
not_before words from (a ∷ rest) end (suc k) (m, same, first, more) within =
    let later = not_before words (a + 2 + m) rest end k more (omega arith) in omega arith

-- their addresses ascend
pub end_to_end_ascend : (words : List ℕ) (from : ℕ) (starts : List ℕ) (end : ℕ) → AreEndToEnd words from starts end → AreAscending starts
end_to_end_ascend words from [] end objects i j order within = absurd (omega arith)
end_to_end_ascend words from (a ∷ rest) end (m, same, first, more) zero zero order within = omega arith
end_to_end_ascend words from (a ∷ rest) end (m, same, first, more) zero (suc j) order within =
    let later = not_before words (a + 2 + m) rest end j more (omega arith) in omega arith
end_to_end_ascend words from (a ∷ rest) end (m, same, first, more) (suc i) zero order within = absurd (omega arith)
end_to_end_ascend words from (a ∷ rest) end (m, same, first, more) (suc i) (suc j) order within =
    end_to_end_ascend words (a + 2 + m) rest end more i j (omega arith) (omega arith)

-- what a binary search of them says
pub searched_start : (starts : List ℕ) (b : ℕ) (r : Result ℕ ℕ) → IsBinarySearchResult (λ y. nat_cmp y b) starts r → AreAscending starts
    → MatchBool (is_ok r) (Contains starts b) (Contains starts b → ⊥)
searched_start starts b (Ok i) is ascend =
    let found = searched starts b (Ok i) is ascend in
    (i, found.0, get_or_default_zero starts i b found.0 ∙ found.1)
searched_start starts b (Err i) is ascend = λ (k, within, same).
    let around = searched starts b (Err i) is ascend in
    let there = sym (get_or_default_zero starts k b within) ∙ same in
    elim (cases_lt k i) [
      | inl low ↦ let less = around.1 k low in omega arith
      | inr high ↦ let more = around.2 k high within in omega arith
    ]

-- one more field
pub inside_push : (starts ws : List ℕ) (w : ℕ) → AreInside starts ws → IsInside starts (meaning w) → AreInside starts (ws ++ w ∷ [])
inside_push starts [] w all inside zero v is = subst (λ (x : ℕ). IsInside starts (meaning x)) (same_Some w v is) inside
inside_push starts [] w all inside (suc i) v is = cc
inside_push starts (x ∷ ws) w all inside zero v is = all zero v is
inside_push starts (x ∷ ws) w all inside (suc i) v is = inside_push starts ws w (λ k. all (suc k)) inside i v is

-- the word at an address stands in each run of words around it
pub run_get : (ws : List ℕ) (from end at w : ℕ) → from ≤ at → at < end → end ≤ length ws → w ≡ get_or ws at 0 → slice_get (take (end - from) (drop from ws)) (at - from) ≡ Some w
run_get ws from end at w begins ends within is =
    let run = take (end - from) (drop from ws) in
    let place : from + (at - from) ≡ at = omega arith in
    let few : at - from < length run = omega (arith, length-take (end - from) (drop from ws), length-drop from ws) in
    slice_get-get_or run (at - from) 0 few
    ∙ ap Some (get_or-take (end - from) (drop from ws) (at - from) 0 (omega arith) ∙ get_or-drop from ws (at - from) 0 ∙ ap (λ k. get_or ws k 0) place ∙ sym is)

-- the fields of an object of a space, as a run of words
pub fields_run : (words starts : List ℕ) (end at n : ℕ) → object_at (take end words) at ≡ Some n → AreInside starts (take (at + 2 + n - (at + 2)) (drop (at + 2) words))
    → KeepsInside words starts at
fields_run words starts end at n object inside i w is =
    let long : n ≡ at + 2 + n - (at + 2) = omega arith in
    inside i w (ap (λ k. slice_get (take k (drop (at + 2) words)) i) (sym long) ∙ ap (λ ws. slice_get ws i) (sym (field_words_take words end at n object)) ∙ is)

-- and conversely
pub run_fields : (words starts : List ℕ) (end at n : ℕ) → object_at (take end words) at ≡ Some n → KeepsInside words starts at
    → AreInside starts (take (at + 2 + n - (at + 2)) (drop (at + 2) words))
run_fields words starts end at n object keeps i w is =
    let long : at + 2 + n - (at + 2) ≡ n = omega arith in
    keeps i w (ap (λ ws. slice_get ws i) (field_words_take words end at n object) ∙ ap (λ k. slice_get (take k (drop (at + 2) words)) i) (sym long) ∙ is)

-- the fields of each of these objects so far lead inside
abbrev pub KeepInside : List ℕ → List ℕ → ℕ → Type 0
KeepInside words starts count = (k : ℕ) → k < count → KeepsInside words starts (get_or starts k 0)

-- one more of them
pub keep_more : (words starts : List ℕ) (count : ℕ) → KeepInside words starts count → KeepsInside words starts (get_or starts count 0) → KeepInside words starts (count + 1)
keep_more words starts count all one k below = elim (cases_order k count) [
  | inl same ↦ subst (λ (x : ℕ). KeepsInside words starts (get_or starts x 0)) (sym same) one
  | inr (inl less) ↦ all k less
  | inr (inr more) ↦ absurd (omega arith)
]

-- all of them
pub keep_all : (words starts : List ℕ) (count : ℕ) → length starts ≤ count → KeepInside words starts count → (at : ℕ) → Contains starts at → KeepsInside words starts at
keep_all words starts count whole all at (k, within, is) =
    subst (KeepsInside words starts) (sym (get_or_default_zero starts k at within) ∙ is) (all k (omega arith))

-- the first that does not is where the walk fails
pub keep_fault : (words : List ℕ) (base used : ℕ) (starts : List ℕ) (count : ℕ) → IsFilled words base used starts → count < length starts → KeepInside words starts count
    → (KeepsInside words starts (get_or starts count 0) → ⊥) → IsWalkFault words base used (get_or starts count 0)
keep_fault words base used starts count filled within all out =
    leads_out starts filled (count, within, get_or_default_zero starts count (get_or starts count 0) within) out
    (λ before (k, inside, is) less.
    let there = sym (get_or_default_zero starts k before inside) ∙ is in
    elim (cases_lt k count) [
      | inl low ↦ subst (KeepsInside words starts) there (all k low)
      | inr high ↦ let order = end_to_end_ascend (used_words words base used) base starts (base + used) filled.objects count k high inside in absurd (omega arith)
    ])

-- the object at a place of them
pub start_object : (words : List ℕ) (base used : ℕ) (starts : List ℕ) (k : ℕ) → IsFilled words base used starts → k < length starts
    → (n : ℕ) × (object_at (used_words words base used) (get_or starts k 0) ≡ Some n)
start_object words base used starts k filled within =
    end_to_end_object (used_words words base used) base starts (base + used) (get_or starts k 0) filled.objects (k, within, get_or_default_zero starts k (get_or starts k 0) within)
