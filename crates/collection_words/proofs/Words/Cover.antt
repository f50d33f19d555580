-- Which object's a word is, where objects were put end to end, and what determines the words then.
use Rattle.std.proofs.Common.{◌≡◌, ℕ, zero, suc, ◌+◌, ◌-◌, ◌<◌, ◌≤◌, inl, inr, List, [], ◌∷◌, length, get_or, Some, refl, sym, ap, ◌∙◌, subst, arith, ext_get_or}
use Rattle.std.specs.Prelude.{Contains, slice_index}
use Rattle.std.proofs.lemmas.Bool.{cases_lt}
use Rattle.std.proofs.lemmas.List.{get_or-map}
use Rattle.object_layout.specs.Layout.{field_words, object_at}
use Rattle.object_layout.specs.Walk.{AreEndToEnd}
use Rattle.object_layout.proofs.LayoutLaws.{length-field_words}
use Rattle.object_layout.proofs.WalkLaws.{Contains-cases, Contains-head, Contains-none, Contains-rest}
use Rattle.log_machine.specs.Machine.{field_at, put_all}
use Rattle.log_machine.proofs.WordsLaws.{length-put_all}
use Rattle.graph_words.proofs.Stands.Objects.{word_at_field}
use Rattle.collection_words.specs.Completed.{followed_words, moves_from, taken_at, taken_by}
use Rattle.collection_words.proofs.Moves.Ends.{move_within, taken_object}
use Rattle.collection_words.proofs.Words.Put.{putting, putting-at, putting-before, putting-behind}

-- A word of an object that was put.
pub record IsWordOf (words xs : List ℕ) (to i : ℕ) : Type 0 where
  pub at : ℕ
  pub there : ℕ
  pub index : ℕ
  pub move : Contains (moves_from words xs to) (at, there)
  pub within : index < taken_at words at
  pub place : i ≡ there + index

-- each word is one from where they begin to where they end
pub cover : (words xs : List ℕ) (to i : ℕ) → to ≤ i → i < to + taken_by words xs → IsWordOf words xs to i
cover words [] to i above below = absurd (omega arith)
cover words (x ∷ xs) to i above below = elim (cases_lt i (to + taken_at words x)) [
  | inl low ↦ record { at = x; there = to; index = i - to; move = Contains-head (x, to) (moves_from words xs (to + taken_at words x)); within = omega arith; place = omega arith }
  | inr high ↦
      let later = cover words xs (to + taken_at words x) i high (omega arith) in
      record {
        at = later.at;
        there = later.there;
        index = later.index;
        move = Contains-rest (x, to) (moves_from words xs (to + taken_at words x)) (later.at, later.there) later.move;
        within = later.within;
        place = later.place;
      }
]

-- The words are known where each word of each object is.
pub putting_is : (follow : ℕ → ℕ) (words starts now target : List ℕ) (to : ℕ) → length target ≡ length now
    → ((i : ℕ) → i < to → slice_index target i ≡ slice_index now i) → ((i : ℕ) → to + taken_by words starts ≤ i → slice_index target i ≡ slice_index now i) → to + taken_by words starts ≤ length now
    → ((at there j : ℕ) → Contains (moves_from words starts to) (at, there) → j < taken_at words at → slice_index target (there + j) ≡ get_or (followed_words follow words at) j 0)
    → put_all now (putting follow words starts to) ≡ target
putting_is follow words starts now target to long before behind fits each =
    let made = put_all now (putting follow words starts to) in
    ext_get_or 0 made target (length-put_all (putting follow words starts to) now ∙ sym long) (λ i below. elim (cases_lt i to) [
      | inl low ↦ putting-before follow words starts now to i low ∙ sym (before i low)
      | inr above ↦ elim (cases_lt i (to + taken_by words starts)) [
        | inl within ↦
            let of = cover words starts to i above within in
            ap (λ (x : ℕ). get_or made x 0) of.place
            ∙ putting-at follow words starts now to of.at of.there of.index of.move fits of.within
            ∙ sym (each of.at of.there of.index of.move of.within)
            ∙ ap (λ (x : ℕ). get_or target x 0) (sym of.place)
        | inr past ↦ putting-behind follow words starts now to i past ∙ sym (behind i past)
      ]
    ])

-- one word is of one object
pub move_one : (words xs : List ℕ) (to a x b y i j : ℕ) → Contains (moves_from words xs to) (a, x) → Contains (moves_from words xs to) (b, y) → i < taken_at words a → j < taken_at words b
    → x + i ≡ y + j → (a ≡ b) × (i ≡ j)
move_one words [] to a x b y i j one other within within' same = absurd (Contains-none (a, x) one)
move_one words (z ∷ xs) to a x b y i j one other within within' same =
    let rest = moves_from words xs (to + taken_at words z) in
    elim (Contains-cases (z, to) rest (a, x) one) [
      | inl here ↦
          let za : z ≡ a = ap (λ (m : ℕ × ℕ). m.0) here in
          let tx : to ≡ x = ap (λ (m : ℕ × ℕ). m.1) here in
          let size : taken_at words z ≡ taken_at words a = ap (taken_at words) za in
          elim (Contains-cases (z, to) rest (b, y) other) [
            | inl here' ↦
                let zb : z ≡ b = ap (λ (m : ℕ × ℕ). m.0) here' in
                let ty : to ≡ y = ap (λ (m : ℕ × ℕ). m.1) here' in (sym za ∙ zb, omega arith)
            | inr behind' ↦ let far = (move_within words xs (to + taken_at words z) b y behind').0 in absurd (omega arith)
          ]
      | inr behind ↦ elim (Contains-cases (z, to) rest (b, y) other) [
        | inl here' ↦
            let zb : z ≡ b = ap (λ (m : ℕ × ℕ). m.0) here' in
            let ty : to ≡ y = ap (λ (m : ℕ × ℕ). m.1) here' in
            let size : taken_at words z ≡ taken_at words b = ap (taken_at words) zb in
            let far = (move_within words xs (to + taken_at words z) a x behind).0 in absurd (omega arith)
        | inr behind' ↦ move_one words xs (to + taken_at words z) a x b y i j behind behind' within within' same
      ]
    ]

-- objects that stand end to end go where they are
pub move_here : (words : List ℕ) (from : ℕ) (starts : List ℕ) (end at : ℕ) → AreEndToEnd words from starts end → Contains starts at → Contains (moves_from words starts from) (at, at)
move_here words from [] end at ends has = absurd (Contains-none at has)
move_here words from (a ∷ rest) end at (n, same, object, more) has = elim (Contains-cases a rest at has) [
  | inl here ↦ subst (λ (x : ℕ). Contains (moves_from words (a ∷ rest) from) (at, x)) (sym same ∙ here) (subst (λ (x : ℕ). Contains (moves_from words (a ∷ rest) from) (x, from)) here (Contains-head (a, from) (moves_from words rest (from + taken_at words a))))
  | inr behind ↦
      let size = taken_object words a n object in
      let next : a + 2 + n ≡ from + taken_at words a = omega arith in
      Contains-rest (a, from) (moves_from words rest (from + taken_at words a)) (at, at)
      (subst (λ (x : ℕ). Contains (moves_from words rest x) (at, at)) next (move_here words (a + 2 + n) rest end at more behind))
]

-- a word of an object, or the field that it becomes
abbrev pub head_or : (ℕ → ℕ) → ℕ → ℕ → ℕ
head_or follow zero w = w
head_or follow (suc zero) w = w
head_or follow (suc (suc i)) w = follow w

-- each word of an object with its fields followed, by the word that stood there
pub followed_get : (follow : ℕ → ℕ) (words : List ℕ) (at n j : ℕ) → object_at words at ≡ Some n → j < taken_at words at → get_or (followed_words follow words at) j 0 ≡ head_or follow j (slice_index words (at + j))
followed_get follow words at n zero is within = let same : at ≡ at + 0 = omega arith in ap (slice_index words) same
followed_get follow words at n (suc zero) is within = refl
followed_get follow words at n (suc (suc i)) is within =
    let many = length-field_words words at n is in
    let place : field_at at i ≡ at + suc (suc i) = omega arith in
    get_or-map follow (field_words words at) i 0 0 (omega arith)
    ∙ ap follow (sym (word_at_field words at n i is (omega arith)) ∙ ap (slice_index words) place)

-- where objects take as many words they go to the same places
pub moves_same : (words others xs : List ℕ) (to : ℕ) → ((at : ℕ) → Contains xs at → taken_at others at ≡ taken_at words at) → moves_from others xs to ≡ moves_from words xs to
moves_same words others [] to same = refl
moves_same words others (x ∷ xs) to same =
    let first = same x (Contains-head x xs) in
    ap (λ (l : List (ℕ × ℕ)). (x, to) ∷ l) (ap (λ (n : ℕ). moves_from others xs (to + n)) first ∙ moves_same words others xs (to + taken_at words x) (λ at has. same at (Contains-rest x xs at has)))

-- and nowhere else
pub move_stays : (words : List ℕ) (from : ℕ) (starts : List ℕ) (end at there : ℕ) → AreEndToEnd words from starts end → Contains (moves_from words starts from) (at, there) → at ≡ there
move_stays words from [] end at there ends has = absurd (Contains-none (at, there) has)
move_stays words from (a ∷ rest) end at there (n, same, object, more) has = elim (Contains-cases (a, from) (moves_from words rest (from + taken_at words a)) (at, there) has) [
  | inl here ↦ sym (ap (λ (m : ℕ × ℕ). m.0) here) ∙ same ∙ ap (λ (m : ℕ × ℕ). m.1) here
  | inr behind ↦
      let size = taken_object words a n object in
      let next : from + taken_at words a ≡ a + 2 + n = omega arith in
      move_stays words (a + 2 + n) rest end at there more (subst (λ (x : ℕ). Contains (moves_from words rest x) (at, there)) next behind)
]

-- a word becomes the same where fields are made the same
pub head_same : (j w : ℕ) (f g : ℕ → ℕ) → ((v : ℕ) → f v ≡ g v) → head_or f j w ≡ head_or g j w
head_same zero w f g same = refl
head_same (suc zero) w f g same = refl
head_same (suc (suc j)) w f g same = same w
