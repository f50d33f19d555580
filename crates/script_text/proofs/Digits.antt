-- The value of digits that are read from the left.
use Rattle.std.proofs.Common.{◌≡◌, ℕ, suc, ◌+◌, ◌-◌, ◌*◌, ◌^◌, ◌<◌, ◌≤◌, Bool, true, false, cond, ltb, ◌&&◌, List, [], ◌∷◌, length, get_or, drop, drop-cons, Option, Some, None, refl, sym, ap, ◌∙◌, arith}
use Rattle.std.specs.Char.{is_ascii_digit}
use Rattle.std.specs.List.{list_all}
use Rattle.std.proofs.lemmas.Bool.{lt-ltb, le-ltb, le-leb}
use Rattle.std.proofs.Math.ListN.{drop_of_length-le}
use Rattle.script_text.specs.Number.{value_from, value, are_digits, number}

-- more digits make no smaller number
pub grows : (n : ℕ) (digits : List ℕ) → n ≤ value_from n digits
grows n [] = omega arith
grows n (d ∷ ds) = omega (arith, grows (n * 10 + (d - 48)) ds)

none_of : (b : Bool) (x : Option ℕ) → cond (b && false) x None ≡ None
none_of true x = refl
none_of false x = refl

-- the value is too large once it is so after one of the digits
pub too_large : (digits : List ℕ) (i n : ℕ) → i < length digits → value_from n (drop i digits) ≡ value digits → 2 ^ 64 ≤ n * 10 + (get_or digits i 0 - 48) → number digits ≡ None
too_large digits i n inside whole large =
    let step : value_from (n * 10 + (get_or digits i 0 - 48)) (drop (suc i) digits) ≡ value digits = ap (value_from n) (sym (drop-cons digits i 0 inside)) ∙ whole in
    let no : ltb (value digits) (2 ^ 64) ≡ false = le-ltb _ _ (omega (arith, step, grows (n * 10 + (get_or digits i 0 - 48)) (drop (suc i) digits))) in
    ap (λ (b : Bool). cond (are_digits digits && b) (Some (value digits)) None) no ∙ none_of (are_digits digits) (Some (value digits))

-- the value is read once no digit is left
pub is_read : (digits : List ℕ) (i n : ℕ) → 0 < length digits → length digits ≤ 20 → length digits ≤ i → n < 2 ^ 64 → value_from n (drop i digits) ≡ value digits → list_all is_ascii_digit (drop i digits) ≡ list_all is_ascii_digit digits → number digits ≡ Some n
is_read digits i n some few past small whole all =
    let ends = drop_of_length-le digits past in
    let n-is : n ≡ value digits = sym (ap (value_from n) ends) ∙ whole in
    let each : list_all is_ascii_digit digits ≡ true = sym all ∙ ap (list_all is_ascii_digit) ends in
    rw (lt-ltb 0 (length digits) some, le-leb (length digits) 20 few, each, ← n-is, lt-ltb n (2 ^ 64) small) refl
