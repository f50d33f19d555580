-- Words that are put one after another from an address on.
use Rattle.std.proofs.Common.{◌≡◌, ℕ, ◌+◌, ◌<◌, ◌≤◌, zero, suc, List, [], ◌∷◌, ◌++◌, length, get_or, take, drop, set, refl, ap, ◌∙◌, subst, arith, length-set, get_or-set_same, get_or-set_other}
use Rattle.std.specs.List.{AllByRecursion, enumerate_from}
use Rattle.std.proofs.lemmas.List.{take_more, length-take-le}
use Rattle.std.proofs.lemmas.List.Edits.{sets, sets-eq}
use Rattle.std.proofs.lemmas.List.FromFn.{length-enumerate_from, get_or-enumerate_from}
use Rattle.log_machine.specs.Machine.{put_all}
use Rattle.log_machine.proofs.ListLaws.{AllByRecursion-at}

-- they are put below where they end
pub from_below : (address end : ℕ) (words : List ℕ) → address + length words ≤ end → AllByRecursion (λ w. w.0 < end) (enumerate_from address words)
from_below address end [] fits = tt
from_below address end (w ∷ ws) fits = (omega arith, from_below (address + 1) end ws (omega arith))

-- where all of them are put below an address, so is the one at a place
pub below_at : (address end i : ℕ) (words : List ℕ) → AllByRecursion (λ w. w.0 < end) (enumerate_from address words) → i < length words → address + i < end
below_at address end i words below lt =
    let here = AllByRecursion-at (λ (w : ℕ × ℕ). w.0 < end) (enumerate_from address words) i (0, 0) (omega (arith, length-enumerate_from address words)) below in
    subst (λ (w : ℕ × ℕ). w.0 < end) (get_or-enumerate_from address words i (0, 0) lt) here

-- one more stands after those before it
pub enumerate_from-push : (address : ℕ) (words : List ℕ) (w : ℕ) → enumerate_from address (words ++ w ∷ []) ≡ enumerate_from address words ++ (address + length words, w) ∷ []
enumerate_from-push address [] w = let here : address ≡ address + 0 = omega arith in ap (λ (a : ℕ). (a, w) ∷ []) here
enumerate_from-push address (v ∷ vs) w =
    let there : address + 1 + length vs ≡ address + length (v ∷ vs) = omega arith in
    ap (λ (l : List (ℕ × ℕ)). (address, v) ∷ l) (enumerate_from-push (address + 1) vs w ∙ ap (λ (a : ℕ). enumerate_from (address + 1) vs ++ (a, w) ∷ []) there)

-- the words so far, with the one at a place
pub from_more : (address i : ℕ) (words : List ℕ) → i < length words → enumerate_from address (take (i + 1) words) ≡ enumerate_from address (take i words) ++ (address + i, get_or words i 0) ∷ []
from_more address i words lt =
    ap (enumerate_from address) (take_more words i 0 lt)
    ∙ enumerate_from-push address (take i words) (get_or words i 0)
    ∙ ap (λ (n : ℕ). enumerate_from address (take i words) ++ (address + n, get_or words i 0) ∷ []) (length-take-le i words (omega arith))

put_sets : (now : List ℕ) (address : ℕ) (words : List ℕ) → put_all now (enumerate_from address words) ≡ sets now address words
put_sets now address [] = refl
put_sets now address (w ∷ ws) =
    let there : address + 1 ≡ suc address = omega arith in
    ap (λ (a : ℕ). put_all (set now address w) (enumerate_from a ws)) there ∙ put_sets (set now address w) (suc address) ws

-- the words with these put from an address on: those before it, these, and those after them
pub put_from : (now : List ℕ) (address : ℕ) (words : List ℕ) → address + length words ≤ length now → put_all now (enumerate_from address words) ≡ take address now ++ words ++ drop (address + length words) now
put_from now address words fits = put_sets now address words ∙ sets-eq words now address fits

-- those before the address stay as they were
pub put_from-before : (now : List ℕ) (address i : ℕ) (words : List ℕ) → i < address → get_or (put_all now (enumerate_from address words)) i 0 ≡ get_or now i 0
put_from-before now address i [] lt = refl
put_from-before now address i (w ∷ ws) lt =
    put_from-before (set now address w) (address + 1) i ws (omega arith) ∙ get_or-set_other now address i w 0 (omega arith)

-- each of them stands at its address
pub put_from-at : (now : List ℕ) (address i : ℕ) (words : List ℕ) → address + length words ≤ length now → i < length words → get_or (put_all now (enumerate_from address words)) (address + i) 0 ≡ get_or words i 0
put_from-at now address i [] fits lt = absurd (omega arith)
put_from-at now address zero (w ∷ ws) fits lt =
    let here : address + 0 ≡ address = omega arith in
    ap (λ (a : ℕ). get_or (put_all (set now address w) (enumerate_from (address + 1) ws)) a 0) here
    ∙ put_from-before (set now address w) (address + 1) address ws (omega arith)
    ∙ get_or-set_same now address w 0 (omega arith)
put_from-at now address (suc i) (w ∷ ws) fits lt =
    let here : address + suc i ≡ address + 1 + i = omega arith in
    let size = length-set now address w in
    ap (λ (a : ℕ). get_or (put_all (set now address w) (enumerate_from (address + 1) ws)) a 0) here ∙ put_from-at (set now address w) (address + 1) i ws (omega arith) (omega arith)

-- those after them stay as they were
pub put_from-behind : (now : List ℕ) (address i : ℕ) (words : List ℕ) → address + length words ≤ i → get_or (put_all now (enumerate_from address words)) i 0 ≡ get_or now i 0
put_from-behind now address i [] le = refl
put_from-behind now address i (w ∷ ws) le =
    put_from-behind (set now address w) (address + 1) i ws (omega arith) ∙ get_or-set_other now address i w 0 (omega arith)
