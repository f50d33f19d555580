-- What the getters of the parser read of a number.
use Rattle.std.proofs.Common.{◌≡◌, ◌∙◌, ◌^◌, ℕ, Bool, true, false, List, length, Option, Some, None, Result, Ok, Err, refl, sym, ap}
use Rattle.std.proofs.lemmas.Bool.{ltb-true, lt-ltb}
use Rattle.std.specs.Result.{result_ok}
use Rattle.std.specs.Prelude.{option_map, option_and_then}
use Rattle.std.specs.Str.Parse.{ParsesUnsigned, digits_value, without_leading_plus}
use Rattle.clap.specs.Matches.{ReadsOne, TriesOne, found_of, one_text}
use Rattle.clap.specs.Walk.{Text, rows_of}
use Rattle.clap.specs.declared.parser.matches.ArgMatches.{ArgMatches}
use Rattle.clap.proofs.WalkLemmas.{both, one_text-rows}
use Rattle.command_words.specs.Command.{given_in, given_of, number_in, parsed_number}
use Rattle.command_words.proofs.NumberLaws.{digits_from, digits_pass, is_number}

-- the number that `parse` gives is that of the text, if it is one
abbrev MatchesNumber : {E : Type 0} → ℕ → Text → Result ℕ E → Type 0
MatchesNumber bits text (Ok n) = parsed_number bits text ≡ Some n
MatchesNumber bits text (Err e) = parsed_number bits text ≡ None

parse_is : {E : Type 0} (bits : ℕ) (text : Text) (r : Result ℕ E) → ParsesUnsigned bits 10 text r → MatchesNumber bits text r
parse_is bits text (Ok n) h =
    let ds = without_leading_plus text in
    rw (lt-ltb 0 (length ds) h.0.0.0, digits_pass ds h.0.0.1, lt-ltb (digits_value 10 ds) (2 ^ bits) h.0.1) (ap (λ k. Some k) (sym h.1))
parse_is bits text (Err e) h = go (is_number bits (without_leading_plus text)) refl
  where
    go : (b : Bool) → is_number bits (without_leading_plus text) ≡ b → parsed_number bits text ≡ None
    go false t = rw t refl
    go true t =
        let outer = both _ _ t in
        let inner = both _ _ outer.0 in
        absurd (h ((ltb-true _ _ inner.0, digits_from (without_leading_plus text) inner.1), ltb-true _ _ outer.1))

one_is : {E : Type 0} (G : List ℕ → Result ℕ E → Type 0) (bits : ℕ) (text : Text) (o : Option ℕ) → ((x : Result ℕ E) → G text x → ParsesUnsigned bits 10 text x)
    → ReadsOne G text o → parsed_number bits text ≡ o
one_is {E} G bits text (Some n) only read = parse_is {E = E} bits text (Ok n) (only (Ok n) read)
one_is {E} G bits text None only read = parse_is {E = E} bits text (Err read.0) (only (Err read.0) read.1)

-- the getter gives the number that the row holds
pub number_is : {E : Type 0} (G : List ℕ → Result ℕ E → Type 0) (bits : ℕ) (m : ArgMatches) (id : Text) (o : Option ℕ)
    → ((text : Text) (x : Result ℕ E) → G text x → ParsesUnsigned bits 10 text x) → (one_text (found_of m) id ≡ None → o ≡ None)
    → ((text : List ℕ) → one_text (found_of m) id ≡ Some text → ReadsOne G text o) → o ≡ number_in bits (rows_of (found_of m)) id
number_is G bits m id o only none some = go (one_text (found_of m) id) refl
  where
    go : (found : Option Text) → one_text (found_of m) id ≡ found → o ≡ number_in bits (rows_of (found_of m)) id
    go None e = none e ∙ ap (option_and_then (parsed_number bits)) (sym e ∙ one_text-rows (found_of m) id)
    go (Some text) e = sym (one_is G bits text o (only text) (some text e)) ∙ ap (option_and_then (parsed_number bits)) (sym e ∙ one_text-rows (found_of m) id)

tried_one : {E : Type 0} (G : List ℕ → Result ℕ E → Type 0) (bits : ℕ) (text : Text) (r : Result (Option ℕ) E) → ((x : Result ℕ E) → G text x → ParsesUnsigned bits 10 text x)
    → TriesOne G text r → result_ok r ≡ given_of bits (Some text)
tried_one {E} G bits text (Ok (Some n)) only tries = ap (option_map (λ k. Some k)) (sym (parse_is {E = E} bits text (Ok n) (only (Ok n) tries)))
tried_one {E} G bits text (Ok None) only tries = absurd tries
tried_one {E} G bits text (Err e) only tries = ap (option_map (λ k. Some k)) (sym (parse_is {E = E} bits text (Err e) (only (Err e) tries)))

-- the getter that can fail gives the number that the row holds, if there is a row, and fails if that is no number
pub given_is : {E : Type 0} (G : List ℕ → Result ℕ E → Type 0) (bits : ℕ) (m : ArgMatches) (id : Text) (r : Result (Option ℕ) E)
    → ((text : Text) (x : Result ℕ E) → G text x → ParsesUnsigned bits 10 text x) → (one_text (found_of m) id ≡ None → r ≡ Ok None)
    → ((text : List ℕ) → one_text (found_of m) id ≡ Some text → TriesOne G text r) → result_ok r ≡ given_in bits (rows_of (found_of m)) id
given_is G bits m id r only none some = go (one_text (found_of m) id) refl
  where
    go : (found : Option Text) → one_text (found_of m) id ≡ found → result_ok r ≡ given_in bits (rows_of (found_of m)) id
    go None e = ap result_ok (none e) ∙ ap (given_of bits) (sym e ∙ one_text-rows (found_of m) id)
    go (Some text) e = tried_one G bits text r (only text) (some text e) ∙ ap (given_of bits) (sym e ∙ one_text-rows (found_of m) id)
