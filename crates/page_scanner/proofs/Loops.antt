-- What is left to be visited, and to be followed.
use Rattle.std.proofs.Common.{◌≡◌, ℕ, zero, suc, ◌+◌, ◌-◌, ◌≤◌, ◌<◌, false, List, length, take, drop, get_or, Option, None, Some, refl, sym, ap, ◌∙◌, arith}
use Rattle.std.specs.Prelude.{option_and_then, if◌then◌else◌}
use Rattle.heap_spaces.specs.Collection.{Collection}
use Rattle.heap_spaces.specs.Spaces.{SpacesState}
use Rattle.heap_words.specs.Word.{meaning}
use Rattle.object_layout.specs.Layout.{field_words}
use Rattle.page_scanner.specs.Scan.{Planned, follow, follow_all, is_gray, source, visit, visit_all}
use Rattle.page_scanner.proofs.Fields.{run_next}

visit_next : (spaces : SpacesState) (k : Collection) (words : List ℕ) (q : Planned) (at count : ℕ) → 0 < count
    → visit_all spaces k words q at count ≡ option_and_then (λ next. visit_all spaces k words next (at + 1) (count - 1)) (visit spaces k words q at)
unfolding visit_all
visit_next spaces k words q at zero some = absurd (omega arith)
visit_next spaces k words q at (suc count) some =
    let less : count ≡ suc count - 1 = omega arith in
    ap (λ n. option_and_then (λ next. visit_all spaces k words next (at + 1) n) (visit spaces k words q at)) less

-- an address was visited
pub visit_on : (spaces : SpacesState) (k : Collection) (words : List ℕ) (q r : Planned) (at count : ℕ) → 0 < count → visit spaces k words q at ≡ Some r
    → visit_all spaces k words q at count ≡ visit_all spaces k words r (at + 1) (count - 1)
visit_on spaces k words q r at count some is =
    visit_next spaces k words q at count some ∙ ap (option_and_then (λ next. visit_all spaces k words next (at + 1) (count - 1))) is

-- and one could not be
pub visit_stop : (spaces : SpacesState) (k : Collection) (words : List ℕ) (q : Planned) (at count : ℕ) → 0 < count → visit spaces k words q at ≡ None → visit_all spaces k words q at count ≡ None
visit_stop spaces k words q at count some is =
    visit_next spaces k words q at count some ∙ ap (option_and_then (λ next. visit_all spaces k words next (at + 1) (count - 1))) is

-- places where no object is gray are passed
pub visit_past : (spaces : SpacesState) (k : Collection) (words : List ℕ) (q : Planned) (at count n : ℕ) → n ≤ count → ((i : ℕ) → i < n → is_gray k q (at + i) ≡ false)
    → visit_all spaces k words q at count ≡ visit_all spaces k words q (at + n) (count - n)
visit_past spaces k words q at count zero within none =
    let here : at ≡ at + 0 = omega arith in
    let all : count ≡ count - 0 = omega arith in
    (λ i. visit_all spaces k words q (here i) (all i))
visit_past spaces k words q at count (suc n) within none =
    let here : at + 0 ≡ at = omega arith in
    let not_gray : is_gray k q at ≡ false = ap (is_gray k q) (sym here) ∙ none 0 (omega arith) in
    let stays : visit spaces k words q at ≡ Some q = ap (λ b. if b then follow_all spaces k words q (at + 2) (field_words words (source q at)) else Some q) not_gray in
    let next = λ (i : ℕ) (lt : i < n). let on : at + 1 + i ≡ at + suc i = omega arith in ap (is_gray k q) on ∙ none (suc i) (omega (arith, lt)) in
    let to : at + 1 + n ≡ at + suc n = omega arith in
    let left : count - 1 - n ≡ count - suc n = omega arith in
    visit_on spaces k words q q at count (omega (arith, within)) stays
    ∙ visit_past spaces k words q (at + 1) (count - 1) n (omega (arith, within)) next
    ∙ (λ i. visit_all spaces k words q (to i) (left i))

-- all were visited
pub visit_end : (spaces : SpacesState) (k : Collection) (words : List ℕ) (q : Planned) (at count : ℕ) → count ≡ 0 → visit_all spaces k words q at count ≡ Some q
unfolding visit_all
visit_end spaces k words q at zero none = refl
visit_end spaces k words q at (suc count) none = absurd (omega (arith, none))

follow_next : (spaces : SpacesState) (k : Collection) (words : List ℕ) (q : Planned) (at source field n w : ℕ) → field < n + 2 → source + field < length words
    → w ≡ get_or words (source + field) 0
    → follow_all spaces k words q (at + field) (take (n + 2 - field) (drop (source + field) words))
    ≡ option_and_then (λ next. follow_all spaces k words next (at + (field + 1)) (take (n + 2 - (field + 1)) (drop (source + (field + 1)) words))) (follow spaces k words q (at + field) (meaning w))
follow_next spaces k words q at source field n w before within is =
    let left = n + 2 - (field + 1) in
    let some : n + 2 - field ≡ suc left = omega (arith, before) in
    let on : at + field + 1 ≡ at + (field + 1) = omega arith in
    let from : source + field + 1 ≡ source + (field + 1) = omega arith in
    let Rest : ℕ → ℕ → Option Planned = λ a s. option_and_then (λ next. follow_all spaces k words next a (take left (drop s words))) (follow spaces k words q (at + field) (meaning w)) in
    ap (λ m. follow_all spaces k words q (at + field) (take m (drop (source + field) words))) some
    ∙ ap (follow_all spaces k words q (at + field)) (run_next words (source + field) left w within is)
    ∙ ap (λ a. Rest a (source + field + 1)) on
    ∙ ap (Rest (at + (field + 1))) from

-- a field was followed
pub follow_on : (spaces : SpacesState) (k : Collection) (words : List ℕ) (q r : Planned) (at source field n w : ℕ) → field < n + 2 → source + field < length words
    → w ≡ get_or words (source + field) 0 → follow spaces k words q (at + field) (meaning w) ≡ Some r
    → follow_all spaces k words q (at + field) (take (n + 2 - field) (drop (source + field) words))
    ≡ follow_all spaces k words r (at + (field + 1)) (take (n + 2 - (field + 1)) (drop (source + (field + 1)) words))
follow_on spaces k words q r at source field n w before within is followed =
    follow_next spaces k words q at source field n w before within is
    ∙ ap (option_and_then (λ next. follow_all spaces k words next (at + (field + 1)) (take (n + 2 - (field + 1)) (drop (source + (field + 1)) words)))) followed

-- and one could not be
pub follow_stop : (spaces : SpacesState) (k : Collection) (words : List ℕ) (q : Planned) (at source field n w : ℕ) → field < n + 2 → source + field < length words
    → w ≡ get_or words (source + field) 0 → follow spaces k words q (at + field) (meaning w) ≡ None
    → follow_all spaces k words q (at + field) (take (n + 2 - field) (drop (source + field) words)) ≡ None
follow_stop spaces k words q at source field n w before within is stops =
    follow_next spaces k words q at source field n w before within is
    ∙ ap (option_and_then (λ next. follow_all spaces k words next (at + (field + 1)) (take (n + 2 - (field + 1)) (drop (source + (field + 1)) words)))) stops
