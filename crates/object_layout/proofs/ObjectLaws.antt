-- Objects that stand end to end, when words are appended or one word is changed.
use Rattle.std.proofs.Common.{◌≡◌, ◌≢◌, ℕ, zero, suc, ◌+◌, ◌-◌, ◌*◌, ◌<◌, ◌≤◌, ◌⊎◌, inl, inr, List, [], ◌∷◌, ◌++◌, length, take, drop, Some, None, refl, sym, ap, ◌∙◌, arith}
use Rattle.std.specs.Prelude.{slice_set, slice_index, Contains, if◌then◌else◌}
use Rattle.std.proofs.lemmas.Bool.{le-leb}
use Rattle.std.proofs.lemmas.Option.{same_Some}
use Rattle.std.proofs.lemmas.List.{length-append, length-set, length-drop, length-take, get_or_append_left, get_or_at, get_or-take, get_or-set_other, drop-append-le, take-append-le, drop-set-lt, drop-set-add, take-set-le, get_or-append-add, drop-drop, drop_at, take_all}
use Rattle.heap_words.specs.Header.{header}
use Rattle.object_layout.specs.Layout.{whole_length, object_at, words_of, field_words, birth_at}
use Rattle.object_layout.proofs.LayoutLaws.{object_from_header, object_header}
use Rattle.object_layout.specs.Walk.{AreEndToEnd}
use Rattle.object_layout.proofs.WalkLaws.{Contains-cases, Contains-head, Contains-rest, Contains-none}

-- The words of an object.

-- an object stands where its header does, whatever the other words are
pub object_same : (words others : List ℕ) (at n : ℕ) → object_at words at ≡ Some n → slice_index others at ≡ slice_index words at → at + 2 + n ≤ length others → object_at others at ≡ Some n
object_same words others at n is same within =
    ap (λ w. whole_length others at (header w)) same
    ∙ ap (whole_length others at) (object_header words at n is).0
    ∙ ap (λ b. if b then Some n else None) (le-leb (at + 2 + n) (length others) within)

-- an object of the words that ends within a prefix of them is one of that prefix
pub object_in_take : (words : List ℕ) (end at n : ℕ) → object_at words at ≡ Some n → at + 2 + n ≤ end → object_at (take end words) at ≡ Some n
object_in_take words end at n is within =
    let long = (object_header words at n is).1 in
    object_same words (take end words) at n is (get_or-take end words at 0 (omega arith)) (omega (arith, length-take end words))

-- its field words are the words after header and birth
pub field_words_at : (words : List ℕ) (at n : ℕ) → object_at words at ≡ Some n → field_words words at ≡ take n (drop (at + 2) words)
field_words_at words at n is = ap (words_of words at) is

-- an object stays when words are appended
pub object_append : (words more : List ℕ) (at n : ℕ) → object_at words at ≡ Some n → object_at (words ++ more) at ≡ Some n
object_append words more at n is =
    let within = (object_header words at n is).1 in
    object_same words (words ++ more) at n is (get_or_append_left words more 0 at (omega arith)) (omega (arith, length-append words more))

-- with its fields
pub field_words_append : (words more : List ℕ) (at n : ℕ) → object_at words at ≡ Some n → field_words (words ++ more) at ≡ field_words words at
field_words_append words more at n is =
    let within = (object_header words at n is).1 in
    field_words_at (words ++ more) at n (object_append words more at n is)
    ∙ ap (take n) (drop-append-le (at + 2) words more (omega arith))
    ∙ take-append-le n (drop (at + 2) words) more (omega (arith, length-drop (at + 2) words))
    ∙ sym (field_words_at words at n is)

-- and its birth
pub birth_at_append : (words more : List ℕ) (at n : ℕ) → object_at words at ≡ Some n → birth_at (words ++ more) at ≡ birth_at words at
birth_at_append words more at n is =
    let within = (object_header words at n is).1 in
    get_or_append_left words more 0 (at + 1) (omega arith)

-- an object stays when a word is changed that is not its header
pub object_set : (words : List ℕ) (place word at n : ℕ) → place ≢ at → object_at words at ≡ Some n → object_at (slice_set words place word) at ≡ Some n
object_set words place word at n other is =
    let within = (object_header words at n is).1 in
    object_same words (slice_set words place word) at n is (get_or-set_other words place at word 0 (λ same. other (sym same)))
    (omega (arith, length-set words place word))

-- its fields stay if none of them is changed
pub field_words_beside : (words : List ℕ) (place word at n : ℕ) → object_at words at ≡ Some n → (place < at) ⊎ (at + 2 + n ≤ place)
    → field_words (slice_set words place word) at ≡ field_words words at
field_words_beside words place word at n is (inl before) =
    field_words_at (slice_set words place word) at n (object_set words place word at n (λ same. omega arith) is)
    ∙ ap (take n) (drop-set-lt (at + 2) words place word (omega arith))
    ∙ sym (field_words_at words at n is)
field_words_beside words place word at n is (inr behind) =
    let far : at + 2 + (place - (at + 2)) ≡ place = omega arith in
    field_words_at (slice_set words place word) at n (object_set words place word at n (λ same. omega arith) is)
    ∙ ap (λ p. take n (drop (at + 2) (slice_set words p word))) (sym far)
    ∙ ap (take n) (drop-set-add (at + 2) words (place - (at + 2)) word)
    ∙ take-set-le n (drop (at + 2) words) (place - (at + 2)) word (omega arith)
    ∙ sym (field_words_at words at n is)

-- a prefix of words of which one is changed
pub take_set : (n : ℕ) (xs : List ℕ) (i x : ℕ) → take n (slice_set xs i x) ≡ slice_set (take n xs) i x
take_set zero xs i x = refl
take_set (suc n) [] i x = refl
take_set (suc n) (y ∷ xs) zero x = refl
take_set (suc n) (y ∷ xs) (suc i) x = ap (λ l. y ∷ l) (take_set n xs i x)

-- a word that is put into a field is that field's
pub field_words_set : (words : List ℕ) (at field word n : ℕ) → object_at words at ≡ Some n → field_words (slice_set words (at + 2 + field) word) at ≡ slice_set (field_words words at) field word
field_words_set words at field word n is =
    field_words_at (slice_set words (at + 2 + field) word) at n (object_set words (at + 2 + field) word at n (λ same. omega arith) is)
    ∙ ap (take n) (drop-set-add (at + 2) words field word)
    ∙ take_set n (drop (at + 2) words) field word
    ∙ ap (λ ws. slice_set ws field word) (sym (field_words_at words at n is))

-- a birth stays if another word is changed
pub birth_at_set : (words : List ℕ) (place word at : ℕ) → place ≢ at + 1 → birth_at (slice_set words place word) at ≡ birth_at words at
birth_at_set words place word at other = get_or-set_other words place (at + 1) word 0 (λ same. other (sym same))

-- an object after all words: its header, a birth and its fields
pub object_behind : (words : List ℕ) (birth : ℕ) (fields : List ℕ) → length fields < 511 → object_at (words ++ (4 * length fields + 1) ∷ birth ∷ fields) (length words) ≡ Some (length fields)
object_behind words birth fields small =
    let new = (4 * length fields + 1) ∷ birth ∷ fields in
    object_from_header (words ++ new) (length words) (length fields) (get_or_at words (4 * length fields + 1) (birth ∷ fields) 0 (length words) refl) small
    (omega (arith, length-append words new))

-- with these fields
pub field_words_behind : (words : List ℕ) (birth : ℕ) (fields : List ℕ) → length fields < 511 → field_words (words ++ (4 * length fields + 1) ∷ birth ∷ fields) (length words) ≡ fields
field_words_behind words birth fields small =
    let new = (4 * length fields + 1) ∷ birth ∷ fields in
    field_words_at (words ++ new) (length words) (length fields) (object_behind words birth fields small)
    ∙ ap (take (length fields)) (sym (drop-drop 2 (length words) (words ++ new)) ∙ ap (drop 2) (drop_at words new (length words) refl))
    ∙ take_all (length fields) fields (omega arith)

-- and this birth
pub birth_at_behind : (words : List ℕ) (head birth : ℕ) (rest : List ℕ) → birth_at (words ++ head ∷ birth ∷ rest) (length words) ≡ birth
birth_at_behind words head birth rest = get_or-append-add words (head ∷ birth ∷ rest) 1 0

-- Objects end to end.

-- they stay when words are appended
pub end_to_end_append : (words more : List ℕ) (from : ℕ) (starts : List ℕ) (end : ℕ) → AreEndToEnd words from starts end → AreEndToEnd (words ++ more) from starts end
end_to_end_append words more from [] end objects = objects
end_to_end_append words more from (a ∷ rest) end (n, same, first, later) = (n, same, object_append words more a n first, end_to_end_append words more (a + 2 + n) rest end later)

-- one more object
pub end_to_end_push : (words : List ℕ) (from : ℕ) (starts : List ℕ) (at n : ℕ) → AreEndToEnd words from starts at → object_at words at ≡ Some n
    → AreEndToEnd words from (starts ++ at ∷ []) (at + 2 + n)
end_to_end_push words from [] at n objects object = (n, sym objects, object, refl)
end_to_end_push words from (a ∷ rest) at n (m, same, first, later) object = (m, same, first, end_to_end_push words (a + 2 + m) rest at n later object)

-- none of them starts before the first
pub end_to_end_begins : (words : List ℕ) (from : ℕ) (starts : List ℕ) (end at : ℕ) → AreEndToEnd words from starts end → Contains starts at → from ≤ at
end_to_end_begins words from [] end at objects has = absurd (Contains-none at has)
end_to_end_begins words from (a ∷ rest) end at (n, same, first, later) has = elim (Contains-cases a rest at has) [
  | inl here ↦ omega arith
  | inr behind ↦ let far = end_to_end_begins words (a + 2 + n) rest end at later behind in omega arith
]

-- two of them are one, or one ends before the other starts
pub end_to_end_apart : (words : List ℕ) (from : ℕ) (starts : List ℕ) (end a n b m : ℕ) → AreEndToEnd words from starts end
    → Contains starts a → object_at words a ≡ Some n → Contains starts b → object_at words b ≡ Some m → (a ≡ b) ⊎ ((a + 2 + n ≤ b) ⊎ (b + 2 + m ≤ a))
end_to_end_apart words from [] end a n b m objects has one has' other = absurd (Contains-none a has)
end_to_end_apart words from (s ∷ rest) end a n b m (k, same, first, later) has one has' other = elim (Contains-cases s rest a has) [
  | inl here ↦ elim (Contains-cases s rest b has') [
    | inl here' ↦ inl (sym here ∙ here')
    | inr behind' ↦
        let long : k ≡ n = same_Some k n (sym first ∙ ap (object_at words) here ∙ one) in
        let far = end_to_end_begins words (s + 2 + k) rest end b later behind' in
        inr (inl (omega arith))
  ]
  | inr behind ↦ elim (Contains-cases s rest b has') [
    | inl here' ↦
        let long : k ≡ m = same_Some k m (sym first ∙ ap (object_at words) here' ∙ other) in
        let far = end_to_end_begins words (s + 2 + k) rest end a later behind in
        inr (inr (omega arith))
    | inr behind' ↦ end_to_end_apart words (s + 2 + k) rest end a n b m later behind one behind' other
  ]
]

-- a field of one of them lies before another one, or after its end
pub end_to_end_field : (words : List ℕ) (from : ℕ) (starts : List ℕ) (end a n b m i : ℕ) → AreEndToEnd words from starts end
    → Contains starts a → object_at words a ≡ Some n → Contains starts b → object_at words b ≡ Some m → i < n → (a ≡ b) ⊎ ((a + 2 + i < b) ⊎ (b + 2 + m ≤ a + 2 + i))
end_to_end_field words from starts end a n b m i objects has one has' other within = elim (end_to_end_apart words from starts end a n b m objects has one has' other) [
  | inl same ↦ inl same
  | inr (inl before) ↦ inr (inl (omega arith))
  | inr (inr behind) ↦ inr (inr (omega arith))
]

-- they stay when a word is changed that is the header of none
pub end_to_end_set : (words : List ℕ) (place word from : ℕ) (starts : List ℕ) (end : ℕ) → ((at : ℕ) → Contains starts at → place ≢ at) → AreEndToEnd words from starts end
    → AreEndToEnd (slice_set words place word) from starts end
end_to_end_set words place word from [] end other objects = objects
end_to_end_set words place word from (a ∷ rest) end other (n, same, first, later) = (
  n,
  same,
  object_set words place word a n (other a (Contains-head a rest)) first,
  end_to_end_set words place word (a + 2 + n) rest end (λ at has. other at (Contains-rest a rest at has)) later,
)
