-- The words after the copies of a flip: each copy has its object's words, where that stood is a forwarding word, and all else is as before.
use Rattle.std.proofs.Common.{◌≡◌, ◌≢◌, ◌⊎◌, ℕ, suc, ◌+◌, ◌<◌, ◌≤◌, inl, inr, List, [], ◌∷◌, length, get_or, refl, sym, ap, ◌∙◌, subst, arith}
use Rattle.std.specs.Prelude.{Contains, slice_index, slice_set}
use Rattle.std.specs.List.{enumerate_from, flat_map}
use Rattle.std.proofs.lemmas.List.{get_or-set_other, get_or-set_same}
use Rattle.heap_words.specs.declared.Header.TheVariants.{Forward}
use Rattle.heap_words.specs.Header.{header_bits}
use Rattle.object_layout.proofs.WalkLaws.{Contains-cases, Contains-head, Contains-none, Contains-rest}
use Rattle.log_machine.specs.Machine.{copy_writes, put_all, writes_of}
use Rattle.log_machine.proofs.WordsLaws.{length-put_all}
use Rattle.log_machine.proofs.WordsFrom.{put_from-at, put_from-before, put_from-behind}
use Rattle.collection_words.specs.Completed.{moves_from, taken_at, taken_by}
use Rattle.collection_words.specs.Copying.{words_to_copy}
use Rattle.collection_words.specs.Flipped.{copies_of_flip}
use Rattle.collection_words.specs.Placed.{Ascend}
use Rattle.collection_words.proofs.Copy.Ascending.{ascend_low}
use Rattle.collection_words.proofs.Words.Put.{put_all-append}

-- The writes of one copy.

one_is : (now : List ℕ) (from to : ℕ) (ws : List ℕ) → put_all now (copy_writes from to ws) ≡ slice_set (put_all now (enumerate_from to ws)) from (header_bits (Forward to))
one_is now from to ws = put_all-append now (enumerate_from to ws) ((from, header_bits (Forward to)) ∷ [])

one_kept : (now : List ℕ) (from to i : ℕ) (ws : List ℕ) → i ≢ from → (i < to) ⊎ (to + length ws ≤ i) → slice_index (put_all now (copy_writes from to ws)) i ≡ slice_index now i
one_kept now from to i ws other place =
    ap (λ (l : List ℕ). get_or l i 0) (one_is now from to ws)
    ∙ get_or-set_other (put_all now (enumerate_from to ws)) from i (header_bits (Forward to)) 0 other
    ∙ elim place [ inl before ↦ put_from-before now to i ws before | inr behind ↦ put_from-behind now to i ws behind ]

one_new : (now : List ℕ) (from to j : ℕ) (ws : List ℕ) → to + j ≢ from → j < length ws → to + length ws ≤ length now → slice_index (put_all now (copy_writes from to ws)) (to + j) ≡ get_or ws j 0
one_new now from to j ws other within fits =
    ap (λ (l : List ℕ). get_or l (to + j) 0) (one_is now from to ws)
    ∙ get_or-set_other (put_all now (enumerate_from to ws)) from (to + j) (header_bits (Forward to)) 0 other
    ∙ put_from-at now to j ws fits within

one_forward : (now : List ℕ) (from to : ℕ) (ws : List ℕ) → from < length now → slice_index (put_all now (copy_writes from to ws)) from ≡ header_bits (Forward to)
one_forward now from to ws within =
    let long = length-put_all (enumerate_from to ws) now in
    ap (λ (l : List ℕ). get_or l from 0) (one_is now from to ws) ∙ get_or-set_same (put_all now (enumerate_from to ws)) from (header_bits (Forward to)) 0 (omega arith)

-- Those of all.

-- the writes of the copies of these objects, from an address on
abbrev pub flipping : List ℕ → List ℕ → ℕ → List (ℕ × ℕ)
flipping words roots to = flat_map writes_of (copies_of_flip words roots to)

-- a word is as before that is neither where one of them stood nor one of a copy
pub flip_kept : (words roots now : List ℕ) (to i : ℕ) → (Contains roots i → ⊥) → (i < to) ⊎ (to + taken_by words roots ≤ i) → slice_index (put_all now (flipping words roots to)) i ≡ slice_index now i
flip_kept words [] now to i none place = refl
flip_kept words (a ∷ rest) now to i none place =
    let ws = words_to_copy words a in
    let next = put_all now (copy_writes a to ws) in
    let size : length ws ≡ taken_at words a = omega arith in
    let here : (i < to) ⊎ (to + length ws ≤ i) = elim place [ inl before ↦ inl before | inr behind ↦ inr (omega arith) ] in
    let later : (i < to + taken_at words a) ⊎ (to + taken_at words a + taken_by words rest ≤ i) = elim place [ inl before ↦ inl (omega arith) | inr behind ↦ inr (omega arith) ] in
    ap (λ (l : List ℕ). slice_index l i) (put_all-append now (copy_writes a to ws) (flipping words rest (to + taken_at words a)))
    ∙ flip_kept words rest next (to + taken_at words a) i (λ has. none (Contains-rest a rest i has)) later
    ∙ one_kept now a to i ws (λ same. none (subst (λ (x : ℕ). Contains (a ∷ rest) x) (sym same) (Contains-head a rest))) here

-- none of these addresses is one of the words that copies take
abbrev pub LieApart : List ℕ → ℕ → ℕ → Type 0
LieApart roots to end = (r : ℕ) → Contains roots r → (r < to) ⊎ (end ≤ r)

-- each word of each object is one of its copy
pub flip_new : (words roots now : List ℕ) (to at there j : ℕ) → LieApart roots to (to + taken_by words roots) → Contains (moves_from words roots to) (at, there) → j < taken_at words at
    → to + taken_by words roots ≤ length now → slice_index (put_all now (flipping words roots to)) (there + j) ≡ get_or (words_to_copy words at) j 0
flip_new words [] now to at there j apart has within fits = absurd (Contains-none (at, there) has)
flip_new words (a ∷ rest) now to at there j apart has within fits =
    let ws = words_to_copy words a in
    let next = put_all now (copy_writes a to ws) in
    let size : length ws ≡ taken_at words a = omega arith in
    let long = length-put_all (copy_writes a to ws) now in
    ap (λ (l : List ℕ). slice_index l (there + j)) (put_all-append now (copy_writes a to ws) (flipping words rest (to + taken_at words a)))
    ∙ elim (Contains-cases (a, to) (moves_from words rest (to + taken_at words a)) (at, there) has) [
      | inl here ↦
          let first : a ≡ at = ap (λ (m : ℕ × ℕ). m.0) here in
          let second : to ≡ there = ap (λ (m : ℕ × ℕ). m.1) here in
          let same : taken_at words a ≡ taken_at words at = ap (taken_at words) first in
          let off : (r : ℕ) → Contains (a ∷ rest) r → to + j ≢ r = λ r is equal. elim (apart r is) [ inl before ↦ omega arith | inr behind ↦ omega arith ] in
          ap (λ (x : ℕ). slice_index (put_all next (flipping words rest (to + taken_at words a))) (x + j)) (sym second)
          ∙ flip_kept words rest next (to + taken_at words a) (to + j) (λ is. off (to + j) (Contains-rest a rest (to + j) is) refl) (inl (omega arith))
          ∙ one_new now a to j ws (off a (Contains-head a rest)) (omega arith) (omega arith)
          ∙ ap (λ (x : ℕ). get_or (words_to_copy words x) j 0) first
      | inr behind ↦
          flip_new words rest next (to + taken_at words a) at there j (λ r is. elim (apart r (Contains-rest a rest r is)) [ inl before ↦ inl (omega arith) | inr past ↦ inr (omega arith) ]) behind within (omega arith)
    ]

-- where each object stood is a forwarding word
pub flip_forward : (words roots now : List ℕ) (low to at there : ℕ) → Ascend low roots → LieApart roots to (to + taken_by words roots) → Contains (moves_from words roots to) (at, there) → at < length now
    → slice_index (put_all now (flipping words roots to)) at ≡ header_bits (Forward there)
flip_forward words [] now low to at there up apart has within = absurd (Contains-none (at, there) has)
flip_forward words (a ∷ rest) now low to at there up apart has within =
    let ws = words_to_copy words a in
    let next = put_all now (copy_writes a to ws) in
    let long = length-put_all (copy_writes a to ws) now in
    ap (λ (l : List ℕ). slice_index l at) (put_all-append now (copy_writes a to ws) (flipping words rest (to + taken_at words a)))
    ∙ elim (Contains-cases (a, to) (moves_from words rest (to + taken_at words a)) (at, there) has) [
      | inl here ↦
          let first : a ≡ at = ap (λ (m : ℕ × ℕ). m.0) here in
          let second : to ≡ there = ap (λ (m : ℕ × ℕ). m.1) here in
          let off : (a < to + taken_at words a) ⊎ (to + taken_at words a + taken_by words rest ≤ a) = elim (apart a (Contains-head a rest)) [ inl before ↦ inl (omega arith) | inr behind ↦ inr (omega arith) ] in
          ap (slice_index (put_all next (flipping words rest (to + taken_at words a)))) (sym first)
          ∙ flip_kept words rest next (to + taken_at words a) a (λ is. let above = ascend_low (suc a) rest a up.1 is in omega arith) off
          ∙ one_forward now a to ws (omega arith)
          ∙ ap (λ (x : ℕ). header_bits (Forward x)) second
      | inr behind ↦
          flip_forward words rest next (suc a) (to + taken_at words a) at there up.1 (λ r is. elim (apart r (Contains-rest a rest r is)) [ inl before ↦ inl (omega arith) | inr past ↦ inr (omega arith) ]) behind (omega arith)
    ]
