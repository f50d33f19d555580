-- The addresses of objects that are laid out one after another.
use Rattle.std.proofs.Common.{◌≡◌, ℕ, zero, suc, get_or, ◌+◌, List, [], ◌∷◌, ◌++◌, map, zip, length, refl, ap, ◌∙◌, ◌≤◌, ◌<◌, arith}
use Rattle.std.proofs.lemmas.List.Sums.{sum_by-cons}
use Rattle.volatile_area.specs.Area.{AreaState}
use Rattle.stability_tracker.specs.Promotion.{need}
use Rattle.graph_words.specs.Promotion.{words_taken, moves_to}

abbrev pub addresses : AreaState → List ℕ → ℕ → List ℕ
addresses area objects address = map (λ m. m.1) (moves_to area objects address)

-- one more object gets the words after those of the others
pub addresses_more : (area : AreaState) (xs : List ℕ) (x address : ℕ) → addresses area (xs ++ x ∷ []) address ≡ addresses area xs address ++ (address + need area xs) ∷ []
addresses_more area [] x address = ap (λ n. n ∷ []) (omega arith)
addresses_more area (y ∷ ys) x address =
    let more : need area (y ∷ ys) ≡ words_taken area y + need area ys = sum_by-cons (words_taken area) y ys in
    ap (λ ns. address ∷ ns) (addresses_more area ys x (address + words_taken area y)
    ∙ ap (λ n. addresses area ys (address + words_taken area y) ++ n ∷ []) (omega (arith, more)))

pub zip-addresses : (area : AreaState) (xs : List ℕ) (address : ℕ) → zip xs (addresses area xs address) ≡ moves_to area xs address
zip-addresses area [] address = refl
zip-addresses area (x ∷ xs) address = ap (λ ms. (x, address) ∷ ms) (zip-addresses area xs (address + words_taken area x))

pub length-addresses : (area : AreaState) (xs : List ℕ) (address : ℕ) → length (addresses area xs address) ≡ length xs
length-addresses area [] address = refl
length-addresses area (x ∷ xs) address = ap suc (length-addresses area xs (address + words_taken area x))

-- none is past the words that the objects take
pub addresses_small : (area : AreaState) (xs : List ℕ) (address bound : ℕ) → address + need area xs ≤ bound
    → (k d : ℕ) → k < length (addresses area xs address) → get_or (addresses area xs address) k d < bound
addresses_small area [] address bound fits k d within = absurd (omega (arith, within))
addresses_small area (x ∷ xs) address bound fits zero d within =
    let more : need area (x ∷ xs) ≡ words_taken area x + need area xs = sum_by-cons (words_taken area) x xs in
    omega (arith, more, fits)
addresses_small area (x ∷ xs) address bound fits (suc k) d within =
    let more : need area (x ∷ xs) ≡ words_taken area x + need area xs = sum_by-cons (words_taken area) x xs in
    addresses_small area xs (address + words_taken area x) bound (omega (arith, more, fits)) k d (omega (arith, within))
