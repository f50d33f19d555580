-- Where objects go that are put end to end, and how many words they take.
use Rattle.std.proofs.Common.{◌≡◌, ℕ, ◌+◌, ◌≤◌, inl, inr, List, [], ◌∷◌, ◌++◌, Some, refl, sym, ap, ◌∙◌, arith}
use Rattle.std.specs.Prelude.{Contains}
use Rattle.std.proofs.lemmas.List.{map-append}
use Rattle.object_layout.specs.Layout.{object_at}
use Rattle.object_layout.specs.Walk.{AreEndToEnd}
use Rattle.object_layout.proofs.LayoutLaws.{length-field_words}
use Rattle.object_layout.proofs.WalkLaws.{Contains-cases, Contains-head, Contains-none, Contains-rest}
use Rattle.graph_words.specs.Places.{Places, addresses}
use Rattle.collection_words.specs.Completed.{taken_at, taken_by, moves_from, places_from}

-- an object takes two words more than it has fields
pub taken_object : (words : List ℕ) (at n : ℕ) → object_at words at ≡ Some n → taken_at words at ≡ 2 + n
taken_object words at n is = let fields = length-field_words words at n is in omega arith

-- what several take
pub taken_by-append : (words xs ys : List ℕ) → taken_by words (xs ++ ys) ≡ taken_by words xs + taken_by words ys
taken_by-append words [] ys = omega arith
taken_by-append words (x ∷ xs) ys = let rest = taken_by-append words xs ys in omega arith

-- where several go
pub moves-append : (words xs ys : List ℕ) (to : ℕ) → moves_from words (xs ++ ys) to ≡ moves_from words xs to ++ moves_from words ys (to + taken_by words xs)
moves-append words [] ys to = let same : to ≡ to + 0 = omega arith in ap (moves_from words ys) same
moves-append words (x ∷ xs) ys to =
    let same : to + taken_at words x + taken_by words xs ≡ to + taken_by words (x ∷ xs) = omega arith in
    ap (λ (l : List (ℕ × ℕ)). (x, to) ∷ l) (moves-append words xs ys (to + taken_at words x) ∙ ap (λ (at : ℕ). moves_from words xs (to + taken_at words x) ++ moves_from words ys at) same)

-- and their places
pub places-append : (words : List ℕ) (ps qs : Places) (to : ℕ) → places_from words (ps ++ qs) to ≡ places_from words ps to ++ places_from words qs (to + taken_by words (addresses ps))
places-append words [] qs to = let same : to ≡ to + 0 = omega arith in ap (places_from words qs) same
places-append words (p ∷ ps) qs to =
    let same : to + taken_at words p.1 + taken_by words (addresses ps) ≡ to + taken_by words (addresses (p ∷ ps)) = omega arith in
    ap (λ (l : Places). (p.0, to) ∷ l) (places-append words ps qs (to + taken_at words p.1) ∙ ap (λ (at : ℕ). places_from words ps (to + taken_at words p.1) ++ places_from words qs at) same)

-- the addresses of several places
pub addresses-append : (ps qs : Places) → addresses (ps ++ qs) ≡ addresses ps ++ addresses qs
addresses-append ps qs = map-append (λ p. p.1) ps qs

-- objects that stand end to end take the words between
pub taken_by-ends : (words : List ℕ) (from : ℕ) (starts : List ℕ) (end : ℕ) → AreEndToEnd words from starts end → from + taken_by words starts ≡ end
taken_by-ends words from [] end ends = omega arith
taken_by-ends words from (at ∷ rest) end (n, same, object, more) =
    let size = taken_object words at n object in
    let later = taken_by-ends words (at + 2 + n) rest end more in omega arith

-- and stay where they are
pub places-same : (words : List ℕ) (from : ℕ) (ps : Places) (end : ℕ) → AreEndToEnd words from (addresses ps) end → places_from words ps from ≡ ps
places-same words from [] end ends = refl
places-same words from (p ∷ ps) end (n, same, object, more) =
    let size = taken_object words p.1 n object in
    let next : from + taken_at words p.1 ≡ p.1 + 2 + n = omega arith in
    ap (λ (at : ℕ). (p.0, at) ∷ places_from words ps (from + taken_at words p.1)) (sym same)
    ∙ ap (λ (l : Places). (p.0, p.1) ∷ l) (ap (places_from words ps) next ∙ places-same words (p.1 + 2 + n) ps end more)

-- an object goes to words between those from which on they are put, and where they end
pub move_within : (words xs : List ℕ) (to at there : ℕ) → Contains (moves_from words xs to) (at, there) → (to ≤ there) × (there + taken_at words at ≤ to + taken_by words xs)
move_within words [] to at there has = absurd (Contains-none (at, there) has)
move_within words (x ∷ xs) to at there has = elim (Contains-cases (x, to) (moves_from words xs (to + taken_at words x)) (at, there) has) [
  | inl here ↦
      let first : x ≡ at = ap (λ (m : ℕ × ℕ). m.0) here in
      let second : to ≡ there = ap (λ (m : ℕ × ℕ). m.1) here in
      let size : taken_at words x ≡ taken_at words at = ap (taken_at words) first in (omega arith, omega arith)
  | inr behind ↦ let later = move_within words xs (to + taken_at words x) at there behind in (omega (arith, later.0), omega (arith, later.1))
]

-- objects that take as many words each do so together
pub taken_same : (words others xs : List ℕ) → ((at : ℕ) → Contains xs at → taken_at others at ≡ taken_at words at) → taken_by others xs ≡ taken_by words xs
taken_same words others [] same = refl
taken_same words others (x ∷ xs) same =
    let first = same x (Contains-head x xs) in
    let later = taken_same words others xs (λ at has. same at (Contains-rest x xs at has)) in omega arith

-- and get the same places
pub places_taken_same : (words others : List ℕ) (ps : Places) (to : ℕ) → ((at : ℕ) → Contains (addresses ps) at → taken_at others at ≡ taken_at words at) → places_from others ps to ≡ places_from words ps to
places_taken_same words others [] to same = refl
places_taken_same words others (p ∷ ps) to same =
    let first = same p.1 (Contains-head p.1 (addresses ps)) in
    ap (λ (l : Places). (p.0, to) ∷ l) (ap (λ (n : ℕ). places_from others ps (to + n)) first ∙ places_taken_same words others ps (to + taken_at words p.1) (λ at has. same at (Contains-rest p.1 (addresses ps) at has)))
