-- A law of printed events, one to a line: they are a script of just these.
use Rattle.std.proofs.Common.{◌≡◌, ℕ, ◌+◌, ◌^◌, ◌<◌, ◌≤◌, Bool, true, false, List, [], ◌∷◌, ◌++◌, length, map, fold, Some, Result, Ok, refl, sym, ap, ◌∙◌, arith, rules, append_assoc, append-nil}
use Rattle.std.specs.Prelude.{◌==◌, ◌&&◌, not, nat_lt, decimal, codes}
use Rattle.std.specs.Char.{is_ascii_digit}
use Rattle.std.specs.List.{AllByRecursion, flat_map, list_all, join_with_byte}
use Rattle.std.proofs.lemmas.Bool.{le-ltb, and_parts, and_from, not-true}
use Rattle.std.proofs.lemmas.Bool.Decides.{nat_tests}
use Rattle.std.proofs.lemmas.Fmt.{digits_decimal}
use Rattle.std.proofs.lemmas.Str.Parse.{IsNumeralModel, numerals_by_fold}
use Rattle.graph_model.specs.declared.event.Event.{Event}
use Rattle.graph_model.specs.declared.event.Event.TheVariants.{Begin, Root, New, Put, Clear, Link, Drop, Get, Same, Len, Seal, Abort, Force, Flip, Scan, Flush}
use Rattle.graph_model.specs.History.{IsSession, IsOfSession}
use Rattle.graph_model.specs.Text.{event_text}
use Rattle.script_text.specs.declared.line.Line.{Line}
use Rattle.script_text.specs.declared.line.Line.TheVariants.{One}
use Rattle.script_text.specs.Line.{read_text}
use Rattle.script_text.specs.Number.{value_from, value}
use Rattle.script_text.specs.Printed.{spelled_numbers, AreSpellable}
use Rattle.script_text.specs.Script.{lines, Reading, start, read_line, take_line, finish, script}
use Rattle.heap_theorems.specs.PrintedScript.{printed_script, IsPrintedEvent}
use Rattle.script_text.proofs.PrintedLaws.{read_text-event_text}

-- a byte that ends no line
abbrev in_line : ℕ → Bool
in_line b = not (b == 10)

model : IsNumeralModel (λ ds. list_all is_ascii_digit ds ≡ true) value
model = numerals_by_fold _ (search rules) value_from (search rules)

digit_in_line : (b : ℕ) → is_ascii_digit b ≡ true → in_line b ≡ true
digit_in_line b digit = grind (arith, nat_tests)

digits_in_line : (ds : List ℕ) → list_all is_ascii_digit ds ≡ true → list_all in_line ds ≡ true
digits_in_line [] digits = refl
digits_in_line (d ∷ ds) digits =
    let both = and_parts _ _ digits in and_from _ _ (digit_in_line d both.0) (digits_in_line ds both.1)

decimal_in_line : (n : ℕ) → n < 2 ^ 64 → list_all in_line (decimal n) ≡ true
decimal_in_line n spelled = digits_in_line (decimal n) (digits_decimal model n spelled)

decimals_in_line : (ns : List ℕ) → AreSpellable ns → list_all (list_all in_line) (map decimal ns) ≡ true
decimals_in_line [] spelled = refl
decimals_in_line (n ∷ ns) spelled = and_from _ _ (decimal_in_line n spelled.0) (decimals_in_line ns spelled.1)

join_in_line : (words : List (List ℕ)) → list_all (list_all in_line) words ≡ true → list_all in_line (join_with_byte 32 words) ≡ true
join_in_line [] each = refl
join_in_line (word ∷ []) each = (and_parts _ _ each).0
join_in_line (word ∷ next ∷ more) each =
    let both = and_parts (list_all in_line word) (list_all (list_all in_line) (next ∷ more)) each in
    append_in_line word (32 ∷ join_with_byte 32 (next ∷ more)) both.0 (join_in_line (next ∷ more) both.1)
  where
    append_in_line : (xs ys : List ℕ) → list_all in_line xs ≡ true → list_all in_line ys ≡ true → list_all in_line (xs ++ ys) ≡ true
    append_in_line [] ys first second = second
    append_in_line (x ∷ xs) ys first second =
        let both = and_parts _ _ first in and_from _ _ both.0 (append_in_line xs ys both.1 second)

call_in_line : (event : Event) (s : ℕ) (verb : List ℕ) (ns : List ℕ) → IsSession s → event_text event ≡ join_with_byte 32 (decimal s ∷ verb ∷ map decimal ns) → list_all in_line verb ≡ true → AreSpellable ns → list_all in_line (event_text event) ≡ true
call_in_line event s verb ns own text word spelled =
    let each = and_from _ _ (decimal_in_line s (omega (arith, own.1))) (and_from _ _ word (decimals_in_line ns spelled)) in
    rw text (join_in_line (decimal s ∷ verb ∷ map decimal ns) each)

-- a printed event is one line
event_in_line : (event : Event) → IsOfSession event → AreSpellable (spelled_numbers event) → list_all in_line (event_text event) ≡ true
event_in_line (Begin s) own spelled = call_in_line (Begin s) s (codes "begin") [] own refl refl spelled
event_in_line (Root s h) own spelled = call_in_line (Root s h) s (codes "root") (h ∷ []) own (simp append_assoc) refl spelled
event_in_line (New s h len) own spelled = call_in_line (New s h len) s (codes "new") (h ∷ len ∷ []) own (simp append_assoc) refl spelled
event_in_line (Put s h i v) own spelled = call_in_line (Put s h i v) s (codes "put") (h ∷ i ∷ v ∷ []) own (simp append_assoc) refl spelled
event_in_line (Clear s h i) own spelled = call_in_line (Clear s h i) s (codes "clear") (h ∷ i ∷ []) own (simp append_assoc) refl spelled
event_in_line (Link s h i h2) own spelled = call_in_line (Link s h i h2) s (codes "link") (h ∷ i ∷ h2 ∷ []) own (simp append_assoc) refl spelled
event_in_line (Drop s h) own spelled = call_in_line (Drop s h) s (codes "drop") (h ∷ []) own (simp append_assoc) refl spelled
event_in_line (Get s h i h2) own spelled = call_in_line (Get s h i h2) s (codes "get") (h ∷ i ∷ h2 ∷ []) own (simp append_assoc) refl spelled
event_in_line (Same s h h2) own spelled = call_in_line (Same s h h2) s (codes "same") (h ∷ h2 ∷ []) own (simp append_assoc) refl spelled
event_in_line (Len s h) own spelled = call_in_line (Len s h) s (codes "len") (h ∷ []) own (simp append_assoc) refl spelled
event_in_line (Seal s) own spelled = call_in_line (Seal s) s (codes "seal") [] own refl refl spelled
event_in_line (Abort s) own spelled = call_in_line (Abort s) s (codes "abort") [] own refl refl spelled
event_in_line Force own spelled = refl
event_in_line Flip own spelled = refl
event_in_line Scan own spelled = refl
event_in_line (Flush p) own spelled = join_in_line (codes "flush" ∷ decimal p ∷ []) (and_from _ _ refl (decimals_in_line (p ∷ []) spelled))

-- the first line of a text, where it has no other end
first_line : (text rest : List ℕ) → list_all in_line text ≡ true → lines (text ++ 10 ∷ rest) ≡ text ∷ lines rest
first_line [] rest each = refl
first_line (b ∷ bs) rest each =
    let both = and_parts _ _ each in rw (not-true (b == 10) both.0, first_line bs rest both.1) refl

-- a line that spells something adds that
one_read : (r : Reading) (text : List ℕ) (line : Line) → read_text text ≡ Some line → read_line r text ≡ Ok (record { number = r.number + 1; found = r.found ++ line ∷ [] })
one_read r [] line read = absurd (let none : read_text [] ≡ Some line = read in cc)
one_read r (b ∷ text) line read = rw read refl

all_read : (r : Reading) (events : List Event) → AllByRecursion IsPrintedEvent events → finish (fold take_line (Ok r) (lines (printed_script events))) ≡ Ok (r.found ++ map One events)
all_read r [] each = ap (λ (l : List Line). Ok l) (sym (append-nil r.found))
all_read r (event ∷ events) each =
    let one = each.0 in
    let text = event_text event in
    let rest = printed_script events in
    let next : Reading = record { number = r.number + 1; found = r.found ++ One event ∷ [] } in
    let cut : lines (printed_script (event ∷ events)) ≡ text ∷ lines rest = ap lines (append_assoc text (10 ∷ []) rest) ∙ first_line text rest (event_in_line event one.0 one.1) in
    let read : read_line r text ≡ Ok next = one_read r text (One event) (read_text-event_text event one.0 one.1) in
    ap (λ (ls : List (List ℕ)). finish (fold take_line (Ok r) ls)) cut ∙ ap (λ (x : Result Reading _). finish (fold take_line x (lines rest))) read ∙ all_read next events each.1 ∙ ap (λ (l : List Line). Ok l) (append_assoc r.found (One event ∷ []) (map One events))

-- Printed events are a script of just these, if their text is not too long.
pub script_printed : (events : List Event) → AllByRecursion IsPrintedEvent events → length (printed_script events) ≤ 1048576 → script (printed_script events) ≡ Ok (map One events)
script_printed events each few = rw (le-ltb 1048576 (length (printed_script events)) few) (all_read start events each)
