-- A run of words that grows by one.
use Rattle.std.proofs.Common.{◌≡◌, ℕ, ◌+◌, ◌-◌, ◌<◌, ◌≤◌, List, [], ◌∷◌, ◌++◌, length, take, drop, sym, ap, ◌∙◌, arith, get_or}
use Rattle.std.proofs.lemmas.List.{take_more, get_or-drop, length-drop}

-- the words from an address up to the next, and the word at the next
pub run_more : (ws : List ℕ) (from at w : ℕ) → from ≤ at → at < length ws → w ≡ get_or ws at 0 → take (at - from) (drop from ws) ++ w ∷ [] ≡ take (at + 1 - from) (drop from ws)
run_more ws from at w begins within is =
    let few : at - from < length (drop from ws) = omega (arith, length-drop from ws) in
    let place : from + (at - from) ≡ at = omega arith in
    let next : at - from + 1 ≡ at + 1 - from = omega arith in
    ap (λ x. take (at - from) (drop from ws) ++ x ∷ []) (is ∙ ap (λ k. get_or ws k 0) (sym place) ∙ sym (get_or-drop from ws (at - from) 0))
    ∙ sym (take_more (drop from ws) (at - from) 0 few)
    ∙ ap (λ k. take k (drop from ws)) next
