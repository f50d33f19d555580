-- A law of printed events: each is a line of a script, and is read as what it was.
use Rattle.std.proofs.Common.{◌≡◌, ℕ, suc, ◌+◌, ◌-◌, ◌^◌, ◌<◌, ◌≤◌, Bool, true, false, List, [], ◌∷◌, ◌++◌, length, map, get_or, Some, refl, ap, ◌∙◌, arith, rules, append_assoc, length-append}
use Rattle.std.specs.Prelude.{◌==◌, ◌&&◌, not, decimal, codes, filter}
use Rattle.std.specs.Char.{is_ascii_digit}
use Rattle.std.specs.List.{slice_split, list_all, join_with_byte}
use Rattle.std.proofs.lemmas.Bool.{lt-ltb, le-leb, ne_eqb, and_parts, and_from, not-true}
use Rattle.std.proofs.lemmas.Bool.Decides.{nat_tests}
use Rattle.std.proofs.lemmas.Fmt.{decimal_nonempty, length-decimal-le, digits_decimal, digits_value-decimal}
use Rattle.std.proofs.lemmas.List.{get_or-append-add}
use Rattle.std.proofs.lemmas.Str.Parse.{IsNumeralModel, numerals_by_fold}
use Rattle.graph_model.specs.declared.event.Event.{Event}
use Rattle.graph_model.specs.declared.event.Event.TheVariants.{Begin, Root, New, Put, Clear, Link, Drop, Get, Same, Len, Seal, Abort, Force, Flip, Scan, Flush}
use Rattle.graph_model.specs.History.{IsSession, IsOfSession}
use Rattle.graph_model.specs.Text.{event_text}
use Rattle.script_text.specs.declared.line.Line.TheVariants.{One}
use Rattle.script_text.specs.Number.{value_from, value, number}
use Rattle.script_text.specs.Line.{pieces, words, session, numbers, call_of, read_text}
use Rattle.script_text.proofs.LineLaws.{line_of-session}
use Rattle.script_text.specs.Printed.{spelled_numbers, AreSpellable}

-- digits and their value, as the laws of printed numbers name them
model : IsNumeralModel (λ ds. list_all is_ascii_digit ds ≡ true) value
model = numerals_by_fold _ (search rules) value_from (search rules)

-- a printed number is read as what it was
pub number-decimal : (n : ℕ) → n < 2 ^ 64 → number (decimal n) ≡ Some n
number-decimal n spelled =
    let few : length (decimal n) ≤ 20 = length-decimal-le 20 n (omega arith) (omega arith) spelled in
    let value-is : value (decimal n) ≡ n = digits_value-decimal model n spelled in
    rw (lt-ltb 0 (length (decimal n)) (decimal_nonempty n spelled), le-leb (length (decimal n)) 20 few, digits_decimal model n spelled, value-is, lt-ltb n (2 ^ 64) spelled) refl

-- a printed session is read as what it was
pub session-decimal : (s : ℕ) → IsSession s → session (decimal s) ≡ Some s
session-decimal s own = rw (number-decimal s (omega (arith, own.1)), le-leb 1 s own.0, le-leb s 32 own.1) refl

-- printed numbers are read as what they were
pub numbers-decimal : (ns : List ℕ) → AreSpellable ns → numbers (map decimal ns) ≡ Some ns
numbers-decimal [] spelled = refl
numbers-decimal (n ∷ ns) spelled = rw (number-decimal n spelled.0, numbers-decimal ns spelled.1) refl

-- a byte that is no blank
abbrev is_plain : ℕ → Bool
is_plain b = not (b == 32)

-- there is a byte
abbrev has_byte : List ℕ → Bool
has_byte piece = not (length piece == 0)

-- a word has a byte, and no blank
abbrev is_word : List ℕ → Bool
is_word word = has_byte word && list_all is_plain word

digit_plain : (b : ℕ) → is_ascii_digit b ≡ true → is_plain b ≡ true
digit_plain b digit = grind (arith, nat_tests)

digits_plain : (ds : List ℕ) → list_all is_ascii_digit ds ≡ true → list_all is_plain ds ≡ true
digits_plain [] digits = refl
digits_plain (d ∷ ds) digits =
    let both = and_parts _ _ digits in and_from _ _ (digit_plain d both.0) (digits_plain ds both.1)

decimal_word : (n : ℕ) → n < 2 ^ 64 → is_word (decimal n) ≡ true
decimal_word n spelled =
    let some : (length (decimal n) == 0) ≡ false = ne_eqb _ _ (λ e. omega (arith, decimal_nonempty n spelled)) in
    rw (some, digits_plain (decimal n) (digits_decimal model n spelled)) refl

decimal_words : (ns : List ℕ) → AreSpellable ns → list_all is_word (map decimal ns) ≡ true
decimal_words [] spelled = refl
decimal_words (n ∷ ns) spelled = and_from _ _ (decimal_word n spelled.0) (decimal_words ns spelled.1)

-- what stands between the blanks
abbrev split : List ℕ → List (List ℕ)
split text = slice_split (λ b. b == 32) text

split_one : (word : List ℕ) → list_all is_plain word ≡ true → split word ≡ word ∷ []
split_one [] plain = refl
split_one (b ∷ bs) plain =
    let both = and_parts _ _ plain in rw (not-true (b == 32) both.0, split_one bs both.1) refl

split_at : (word rest : List ℕ) → list_all is_plain word ≡ true → split (word ++ 32 ∷ rest) ≡ word ∷ split rest
split_at [] rest plain = refl
split_at (b ∷ bs) rest plain =
    let both = and_parts _ _ plain in rw (not-true (b == 32) both.0, split_at bs rest both.1) refl

word_parts : (word : List ℕ) → is_word word ≡ true → (has_byte word ≡ true) × (list_all is_plain word ≡ true)
word_parts word is = and_parts (has_byte word) (list_all is_plain word) is

-- words with a blank between each two are cut into exactly these
pieces-join : (from : List (List ℕ)) → list_all is_word from ≡ true → pieces (join_with_byte 32 from) ≡ from
pieces-join [] each = refl
pieces-join (word ∷ []) each =
    let one = word_parts word (and_parts _ _ each).0 in ap (filter has_byte) (split_one word one.1) ∙ (rw one.0 refl)
pieces-join (word ∷ next ∷ more) each =
    let both = and_parts (is_word word) (list_all is_word (next ∷ more)) each in
    let one = word_parts word both.0 in
    ap (filter has_byte) (split_at word (join_with_byte 32 (next ∷ more)) one.1) ∙ (rw (one.0, pieces-join (next ∷ more) both.1) refl)

-- Neither the first nor the last byte is a blank, and there is one.
record IsTrimmed (text : List ℕ) : Type 0 where
  some : 0 < length text
  first : (get_or text 0 0 == 32) ≡ false
  last : (get_or text (length text - 1) 0 == 32) ≡ false

plain_last : (b : ℕ) (bs : List ℕ) → list_all is_plain (b ∷ bs) ≡ true → (get_or (b ∷ bs) (length bs) 0 == 32) ≡ false
plain_last b [] plain = not-true _ (and_parts (is_plain b) true plain).0
plain_last b (c ∷ cs) plain = plain_last c cs (and_parts (is_plain b) (list_all is_plain (c ∷ cs)) plain).1

word_trimmed : (word : List ℕ) → is_word word ≡ true → IsTrimmed word
word_trimmed [] is = cc
word_trimmed (b ∷ bs) is =
    let plain = (word_parts (b ∷ bs) is).1 in
    let at : length (b ∷ bs) - 1 ≡ length bs = omega arith in
    record {
      some = omega arith;
      first = not-true _ (and_parts (is_plain b) (list_all is_plain bs) plain).0;
      last = rw at (plain_last b bs plain);
    }

cut_trimmed : (word rest : List ℕ) → IsTrimmed word → IsTrimmed rest → IsTrimmed (word ++ 32 ∷ rest)
cut_trimmed [] rest one more = absurd (omega (arith, one.some))
cut_trimmed (b ∷ bs) rest one more =
    let at : length ((b ∷ bs) ++ 32 ∷ rest) - 1 ≡ length (b ∷ bs) + suc (length rest - 1) = omega (arith, more.some, length-append (b ∷ bs) (32 ∷ rest)) in
    record {
      some = omega arith;
      first = one.first;
      last = rw (at, get_or-append-add (b ∷ bs) (32 ∷ rest) (suc (length rest - 1)) 0) more.last;
    }

join_trimmed : (word : List ℕ) (more : List (List ℕ)) → list_all is_word (word ∷ more) ≡ true → IsTrimmed (join_with_byte 32 (word ∷ more))
join_trimmed word [] each = word_trimmed word (and_parts (is_word word) true each).0
join_trimmed word (next ∷ more) each =
    let both = and_parts (is_word word) (list_all is_word (next ∷ more)) each in
    cut_trimmed word (join_with_byte 32 (next ∷ more)) (word_trimmed word both.0) (join_trimmed next more both.1)

-- words with a blank between each two are exactly these words
pub words-join : (word : List ℕ) (more : List (List ℕ)) → list_all is_word (word ∷ more) ≡ true → words (join_with_byte 32 (word ∷ more)) ≡ Some (word ∷ more)
words-join word more each =
    let trimmed = join_trimmed word more each in
    rw (trimmed.first, trimmed.last, pieces-join (word ∷ more) each) refl

event_read : (event : Event) (s : ℕ) (verb : List ℕ) (ns : List ℕ) → IsSession s → event_text event ≡ join_with_byte 32 (decimal s ∷ verb ∷ map decimal ns) → is_word verb ≡ true → AreSpellable ns → call_of s verb ns ≡ Some (One event) → read_text (event_text event) ≡ Some (One event)
event_read event s verb ns own text word spelled call =
    let each = and_from _ _ (decimal_word s (omega (arith, own.1))) (and_from _ _ word (decimal_words ns spelled)) in
    rw (text, words-join (decimal s) (verb ∷ map decimal ns) each, line_of-session (decimal s) verb (map decimal ns) s (session-decimal s own), numbers-decimal ns spelled) call

flush_read : (p : ℕ) → p < 2 ^ 64 → read_text (event_text (Flush p)) ≡ Some (One (Flush p))
flush_read p spelled =
    let each = and_from _ _ refl (decimal_words (p ∷ []) (spelled, tt)) in rw (words-join (codes "flush") (decimal p ∷ []) each, number-decimal p spelled) refl

-- A printed event is a line of a script, and is read as what it was.
pub read_text-event_text : (event : Event) → IsOfSession event → AreSpellable (spelled_numbers event) → read_text (event_text event) ≡ Some (One event)
read_text-event_text (Begin s) own spelled = event_read (Begin s) s (codes "begin") [] own refl refl spelled refl
read_text-event_text (Root s h) own spelled = event_read (Root s h) s (codes "root") (h ∷ []) own (simp append_assoc) refl spelled refl
read_text-event_text (New s h len) own spelled = event_read (New s h len) s (codes "new") (h ∷ len ∷ []) own (simp append_assoc) refl spelled refl
read_text-event_text (Put s h i v) own spelled = event_read (Put s h i v) s (codes "put") (h ∷ i ∷ v ∷ []) own (simp append_assoc) refl spelled refl
read_text-event_text (Clear s h i) own spelled = event_read (Clear s h i) s (codes "clear") (h ∷ i ∷ []) own (simp append_assoc) refl spelled refl
read_text-event_text (Link s h i h2) own spelled = event_read (Link s h i h2) s (codes "link") (h ∷ i ∷ h2 ∷ []) own (simp append_assoc) refl spelled refl
read_text-event_text (Drop s h) own spelled = event_read (Drop s h) s (codes "drop") (h ∷ []) own (simp append_assoc) refl spelled refl
read_text-event_text (Get s h i h2) own spelled = event_read (Get s h i h2) s (codes "get") (h ∷ i ∷ h2 ∷ []) own (simp append_assoc) refl spelled refl
read_text-event_text (Same s h h2) own spelled = event_read (Same s h h2) s (codes "same") (h ∷ h2 ∷ []) own (simp append_assoc) refl spelled refl
read_text-event_text (Len s h) own spelled = event_read (Len s h) s (codes "len") (h ∷ []) own (simp append_assoc) refl spelled refl
read_text-event_text (Seal s) own spelled = event_read (Seal s) s (codes "seal") [] own refl refl spelled refl
read_text-event_text (Abort s) own spelled = event_read (Abort s) s (codes "abort") [] own refl refl spelled refl
read_text-event_text Force own spelled = refl
read_text-event_text Flip own spelled = refl
read_text-event_text Scan own spelled = refl
read_text-event_text (Flush p) own spelled = flush_read p spelled.0
