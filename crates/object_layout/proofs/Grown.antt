-- One more word is read, and follows those that were; after an error those that were stay.
use Rattle.std.proofs.Common.{Result, Ok, Err, ◌≡◌, ℕ, List, ◌∙◌, ◌++◌, ◌∷◌, [], ◌+◌, ◌-◌, ◌≤◌, ◌<◌, ap, arith, get_or, length, take, drop, length-append, append_assoc}
use Rattle.std.specs.Prelude.{OnErr}
use Rattle.object_layout.specs.Read.{HasRunAfter}
use Rattle.object_layout.proofs.Runs.{run_more}

pub run_grown : (before now next : List ℕ) (w n more : ℕ) → next ≡ now ++ w ∷ [] → more ≡ n + 1 → HasRunAfter before now n → HasRunAfter before next more
run_grown before now next w n more is count was =
    let size : length (was.0 ++ w ∷ []) ≡ more = omega (arith, count, was.2, length-append was.0 (w ∷ [])) in
    (was.0 ++ w ∷ [], is ∙ ap (λ (xs : List ℕ). xs ++ w ∷ []) was.1 ∙ append_assoc before was.0 (w ∷ []), size)

pub these_grown : (before now next words : List ℕ) (from at w : ℕ) → from ≤ at → at < length words → w ≡ get_or words at 0 → next ≡ now ++ w ∷ []
    → now ≡ before ++ take (at - from) (drop from words) → next ≡ before ++ take (at + 1 - from) (drop from words)
these_grown before now next words from at w begins within word is was =
    is
    ∙ ap (λ (xs : List ℕ). xs ++ w ∷ []) was
    ∙ append_assoc before (take (at - from) (drop from words)) (w ∷ [])
    ∙ ap (λ (xs : List ℕ). before ++ xs) (run_more words from at w begins within word)

-- what holds of words that were appended holds of them beside an error
pub stay : {T E : Type 0} (r : Result T E) (before now : List ℕ) (n most : ℕ) → n ≤ most → HasRunAfter before now n → OnErr r ((k : ℕ) × (k ≤ most) × HasRunAfter before now k)
stay (Ok done) before now n most few was = tt
stay (Err error) before now n most few was = (n, few, was)
