-- The words where objects were put end to end, with their fields made others.
use Rattle.std.proofs.Common.{◌≡◌, ℕ, ◌+◌, ◌<◌, ◌≤◌, inl, inr, List, [], ◌∷◌, ◌++◌, length, get_or, refl, sym, ap, ◌∙◌, arith}
use Rattle.std.specs.Prelude.{Contains, slice_set}
use Rattle.std.specs.List.{flat_map, enumerate_from}
use Rattle.std.proofs.lemmas.List.{length-map}
use Rattle.std.proofs.lemmas.List.Sums.{fold-append}
use Rattle.object_layout.specs.Layout.{field_words}
use Rattle.object_layout.proofs.WalkLaws.{Contains-cases, Contains-none}
use Rattle.log_machine.specs.Machine.{put_all}
use Rattle.log_machine.proofs.WordsLaws.{length-put_all}
use Rattle.log_machine.proofs.WordsFrom.{put_from-at, put_from-before, put_from-behind}
use Rattle.collection_words.specs.Completed.{taken_at, taken_by, moves_from, followed_words, move_writes}

-- the writes that put these objects from an address on
abbrev pub putting : (ℕ → ℕ) → List ℕ → List ℕ → ℕ → List (ℕ × ℕ)
putting follow words starts to = flat_map (move_writes follow words) (moves_from words starts to)

-- some writes before others
pub put_all-append : (now : List ℕ) (xs ys : List (ℕ × ℕ)) → put_all now (xs ++ ys) ≡ put_all (put_all now xs) ys
put_all-append now xs ys = fold-append (λ (ws : List ℕ) (w : ℕ × ℕ). slice_set ws w.0 w.1) now xs ys

-- an object's words stay as many
pub length-followed_words : (follow : ℕ → ℕ) (words : List ℕ) (at : ℕ) → length (followed_words follow words at) ≡ taken_at words at
length-followed_words follow words at = omega (arith, length-map (field_words words at) follow)

-- the words before stay
pub putting-before : (follow : ℕ → ℕ) (words starts now : List ℕ) (to i : ℕ) → i < to → get_or (put_all now (putting follow words starts to)) i 0 ≡ get_or now i 0
putting-before follow words [] now to i before = refl
putting-before follow words (a ∷ rest) now to i before =
    let block = enumerate_from to (followed_words follow words a) in
    ap (λ (ws : List ℕ). get_or ws i 0) (put_all-append now block (putting follow words rest (to + taken_at words a)))
    ∙ putting-before follow words rest (put_all now block) (to + taken_at words a) i (omega arith)
    ∙ put_from-before now to i (followed_words follow words a) before

-- and those after
pub putting-behind : (follow : ℕ → ℕ) (words starts now : List ℕ) (to i : ℕ) → to + taken_by words starts ≤ i → get_or (put_all now (putting follow words starts to)) i 0 ≡ get_or now i 0
putting-behind follow words [] now to i behind = refl
putting-behind follow words (a ∷ rest) now to i behind =
    let block = enumerate_from to (followed_words follow words a) in
    let size = length-followed_words follow words a in
    ap (λ (ws : List ℕ). get_or ws i 0) (put_all-append now block (putting follow words rest (to + taken_at words a)))
    ∙ putting-behind follow words rest (put_all now block) (to + taken_at words a) i (omega arith)
    ∙ put_from-behind now to i (followed_words follow words a) (omega arith)

-- each word of each object stands where that goes
pub putting-at : (follow : ℕ → ℕ) (words starts now : List ℕ) (to at there i : ℕ) → Contains (moves_from words starts to) (at, there) → to + taken_by words starts ≤ length now
    → i < taken_at words at → get_or (put_all now (putting follow words starts to)) (there + i) 0 ≡ get_or (followed_words follow words at) i 0
putting-at follow words [] now to at there i has fits within = absurd (Contains-none (at, there) has)
putting-at follow words (a ∷ rest) now to at there i has fits within =
    let block = enumerate_from to (followed_words follow words a) in
    let size = length-followed_words follow words a in
    let long = length-put_all block now in
    ap (λ (ws : List ℕ). get_or ws (there + i) 0) (put_all-append now block (putting follow words rest (to + taken_at words a)))
    ∙ elim (Contains-cases (a, to) (moves_from words rest (to + taken_at words a)) (at, there) has) [
      | inl here ↦
          let first : a ≡ at = ap (λ (m : ℕ × ℕ). m.0) here in
          let second : to ≡ there = ap (λ (m : ℕ × ℕ). m.1) here in
          let same : taken_at words a ≡ taken_at words at = ap (taken_at words) first in
          putting-before follow words rest (put_all now block) (to + taken_at words a) (there + i) (omega arith)
          ∙ ap (λ (x : ℕ). get_or (put_all now block) (x + i) 0) (sym second)
          ∙ put_from-at now to i (followed_words follow words a) (omega arith) (omega arith)
          ∙ ap (λ (x : ℕ). get_or (followed_words follow words x) i 0) first
      | inr behind ↦ putting-at follow words rest (put_all now block) (to + taken_at words a) at there i behind (omega arith) within
    ]
