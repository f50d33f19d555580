-- What a search finds among pairs that ascend.
use Rattle.std.proofs.Common.{◌≡◌, ◌≢◌, inl, inr, ℕ, zero, suc, ◌<◌, ◌≤◌, List, [], ◌∷◌, length, get_or, map, Some, None, Result, Ok, Err, sym, ap, arith}
use Rattle.std.specs.Prelude.{MatchResult}
use Rattle.std.specs.List.Sorted.{IsSearchInRange, IsBinarySearchResult, IsNonDecreasingBy}
use Rattle.std.specs.Ordering.{nat_cmp, ordering_index}
use Rattle.std.proofs.lemmas.Cmp.{ranked}
use Rattle.std.proofs.lemmas.List.{get_or-map, length-map}
use Rattle.std.proofs.lemmas.List.Kept.{AllPairs-from_increasing}
use Rattle.std.proofs.lemmas.List.Sorted.{IsNonDecreasingBy-from_default}
use Rattle.std.proofs.lemmas.Bool.{cases_lt}
use Rattle.std.proofs.lemmas.Bool.Decides.{nat_tests}
use Rattle.relocation.specs.Relocation.{IsRelocation, destination}

-- where the object of the pair at a place stood
abbrev pub from_at : List (ℕ × ℕ) → ℕ → ℕ
from_at pairs i = let pair = get_or pairs i (0, 0) in pair.0

-- none of the first pairs names the object
abbrev NoneBefore : List (ℕ × ℕ) → ℕ → ℕ → Type 0
NoneBefore pairs from i = (j : ℕ) → j < i → from_at pairs j ≢ from

none_in_tail : (x : ℕ × ℕ) (pairs : List (ℕ × ℕ)) (from i : ℕ) → NoneBefore (x ∷ pairs) from (suc i) → NoneBefore pairs from i
none_in_tail x pairs from i none j lt = none (suc j) (omega arith)

absent : (pairs : List (ℕ × ℕ)) (from : ℕ) → NoneBefore pairs from (length pairs) → destination pairs from ≡ None
absent [] from none = cc
absent (x ∷ pairs) from none = grind (arith, nat_tests, none 0 (omega arith), absent pairs from (none_in_tail x pairs from _ none))

present : (pairs : List (ℕ × ℕ)) (from i : ℕ) → i < length pairs → from_at pairs i ≡ from → NoneBefore pairs from i → destination pairs from ≡ Some (get_or pairs i (0, 0)).1
present [] from i within is none = absurd (omega arith)
present (x ∷ pairs) from zero within is none = grind (arith, nat_tests)
present (x ∷ pairs) from (suc i) within is none = grind (arith, nat_tests, none 0 (omega arith), present pairs from i (omega arith) is (none_in_tail x pairs from i none))

-- where objects stood ascends
rises : (pairs : List (ℕ × ℕ)) → IsRelocation pairs → (i j : ℕ) → i < j → j < length pairs → from_at pairs i < from_at pairs j
rises pairs is i j lt within =
    let long : length (map (λ (pair : ℕ × ℕ). pair.0) pairs) ≡ length pairs = length-map pairs (λ (pair : ℕ × ℕ). pair.0) in
    let up = AllPairs-from_increasing (map (λ (pair : ℕ × ℕ). pair.0) pairs) is.ascending i j 0 lt (omega arith) in
    let at_i = get_or-map (λ (pair : ℕ × ℕ). pair.0) pairs i (0, 0) 0 (omega arith) in
    let at_j = get_or-map (λ (pair : ℕ × ℕ). pair.0) pairs j (0, 0) 0 within in
    omega arith

comparisons_rise : (pairs : List (ℕ × ℕ)) → IsRelocation pairs → (from : ℕ) → IsNonDecreasingBy (λ pair. ordering_index (nat_cmp pair.0 from)) pairs
comparisons_rise pairs is from = IsNonDecreasingBy-from_default (λ pair. ordering_index (nat_cmp pair.0 from)) pairs (0, 0) (λ i j le within.
    let up : from_at pairs i ≤ from_at pairs j = grind (arith, rises pairs is i j, λ (same : i ≡ j). ap (from_at pairs) same) in
    grind (arith, nat_tests))

-- what a binary search for an address ends at says where the object went
pub searched : (pairs : List (ℕ × ℕ)) → IsRelocation pairs → (from : ℕ) (r : Result ℕ ℕ) → IsSearchInRange r (length pairs) → IsBinarySearchResult (λ pair. nat_cmp pair.0 from) pairs r
    → MatchResult r (λ i. destination pairs from ≡ Some (get_or pairs i (0, 0)).1) (λ i. destination pairs from ≡ None)
searched pairs is from (Ok at) within equal =
    let here : from_at pairs at ≡ from = ranked _ from _ (sym (equal (0, 0))) in
    present pairs from at within here (λ j lt same. omega (arith, rises pairs is j at lt within))
searched pairs is from (Err at) within parted =
    absent pairs from (λ j lt same. elim (cases_lt j at) [
      | inl before ↦ let less : from_at pairs j < from = ranked _ from _ (sym ((parted (comparisons_rise pairs is from)).0 j (0, 0) (omega arith) before)) in omega arith
      | inr behind ↦ let more : from < from_at pairs j = ranked _ from _ (sym ((parted (comparisons_rise pairs is from)).1 j (0, 0) behind lt)) in omega arith
    ])
