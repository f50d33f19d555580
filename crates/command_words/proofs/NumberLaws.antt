-- A text is a number just where it parses as one.
use Rattle.std.proofs.Common.{◌≡◌, ◌&&◌, ◌<◌, ◌^◌, ℕ, Bool, true, false, List, [], ◌∷◌, Option, Some, None, Ok, Err, nat_lt, refl, length}
use Rattle.std.specs.Prelude.{if◌then◌else◌, option_and_then}
use Rattle.std.specs.List.{list_all}
use Rattle.std.specs.Char.{digit_value}
use Rattle.std.specs.Str.Parse.{AllDigits, ParsesUnsigned, digits_value, without_leading_plus}
use Rattle.std.proofs.lemmas.Bool.{lt-ltb, ltb-true}
use Rattle.clap.specs.ValueTests.{is_numeral}
use Rattle.clap.specs.Walk.{Row, Text, one_of}
use Rattle.clap.proofs.WalkLemmas.{both}
use Rattle.command_words.specs.Command.{number_in, parsed_number}

pub digits_from : (ds : List ℕ) → list_all (λ d. nat_lt (digit_value d) 10) ds ≡ true → AllDigits 10 ds
digits_from [] e = tt
digits_from (d ∷ ds) e =
    let parts = both _ _ e in
    (ltb-true _ _ parts.0, digits_from ds parts.1)

pub digits_pass : (ds : List ℕ) → AllDigits 10 ds → list_all (λ d. nat_lt (digit_value d) 10) ds ≡ true
digits_pass [] h = refl
digits_pass (d ∷ ds) h = rw (lt-ltb (digit_value d) 10 h.0) (digits_pass ds h.1)

abbrev pub is_number : ℕ → Text → Bool
is_number bits digits = is_numeral digits && nat_lt (digits_value 10 digits) (2 ^ bits)

-- a text that is a number parses as that number
pub parses : (bits : ℕ) (text : Text) (n : ℕ) → parsed_number bits text ≡ Some n → ParsesUnsigned {E = ℕ} bits 10 text (Ok n)
parses bits text n e = go (is_number bits (without_leading_plus text)) refl e
  where
    go : (b : Bool) → is_number bits (without_leading_plus text) ≡ b → (if b then Some (digits_value 10 (without_leading_plus text)) else None) ≡ Some n
        → ParsesUnsigned {E = ℕ} bits 10 text (Ok n)
    go false t none = cc
    go true t some =
        let is : n ≡ digits_value 10 (without_leading_plus text) = cc in
        let outer = both _ _ t in
        let inner = both _ _ outer.0 in
        (((ltb-true _ _ inner.0, digits_from (without_leading_plus text) inner.1), ltb-true _ _ outer.1), is)

-- and one that is not a number does not parse
pub parses_not : (bits : ℕ) (text : Text) (e : ℕ) → parsed_number bits text ≡ None → ParsesUnsigned {E = ℕ} bits 10 text (Err e)
parses_not bits text e none h =
    let ds = without_leading_plus text in
    let some : parsed_number bits text ≡ Some (digits_value 10 ds) =
    rw (lt-ltb 0 (length ds) h.0.0, digits_pass ds h.0.1, lt-ltb (digits_value 10 ds) (2 ^ bits) h.1) refl in
    cc

pub number_fits : (bits : ℕ) (rows : List Row) (id : Text) (n : ℕ) → number_in bits rows id ≡ Some n → n < 2 ^ bits
number_fits bits rows id n e = go (one_of id rows) e
  where
    go : (text : Option Text) → option_and_then (parsed_number bits) text ≡ Some n → n < 2 ^ bits
    go None is = cc
    go (Some text) is =
        let parsed = parses bits text n is in
        rw parsed.1 parsed.0.1
