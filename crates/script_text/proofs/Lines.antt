-- Reading the lines of a script one after another.
use Rattle.std.proofs.Common.{◌≡◌, ℕ, suc, ◌+◌, ◌<◌, ◌≤◌, Bool, eqb, List, [], ◌∷◌, length, take, drop, fold, Option, Some, None, Result, Ok, Err, refl, sym, ap, ◌∙◌, arith, inl, inr}
use Rattle.std.specs.List.{position_or_len, before_first, after_first, onto_first}
use Rattle.std.proofs.lemmas.Bool.{cases_Bool}
use Rattle.std.proofs.lemmas.List.{length-drop}
use Rattle.script_text.specs.declared.line.Line.{Line}
use Rattle.script_text.specs.declared.script.ScriptError.{ScriptError}
use Rattle.script_text.specs.declared.script.ScriptError.TheVariants.{NoMemory, Fault}
use Rattle.script_text.specs.Line.{read_text}
use Rattle.script_text.specs.Script.{lines, Reading, with_line, read_line, take_line, finish, Fails}

abbrev is_newline : ℕ → Bool
is_newline b = eqb b 10

take-one : (n b : ℕ) (bs : List ℕ) → take (1 + n) (b ∷ bs) ≡ b ∷ take n bs
take-one n b bs = let e : 1 + n ≡ suc n = omega arith in rw e refl

drop-one : (n b : ℕ) (bs : List ℕ) → drop (1 + n + 1) (b ∷ bs) ≡ drop (n + 1) bs
drop-one n b bs = let e : 1 + n + 1 ≡ suc (n + 1) = omega arith in rw e refl

-- a byte that ends no line stands in front of the first line
onto : (b : ℕ) (bs : List ℕ) → (0 < length bs → lines bs ≡ before_first is_newline bs ∷ lines (after_first is_newline bs)) → onto_first b (lines bs) ≡ (b ∷ before_first is_newline bs) ∷ lines (after_first is_newline bs)
onto b [] cut = refl
onto b (c ∷ cs) cut = ap (onto_first b) (cut (omega arith))

-- the first line, and those that follow
lines_cut : (bytes : List ℕ) → 0 < length bytes → lines bytes ≡ before_first is_newline bytes ∷ lines (after_first is_newline bytes)
lines_cut [] some = absurd (omega arith)
lines_cut (b ∷ bs) some =
    elim (cases_Bool (eqb b 10)) [
      | inl here ↦ rw here refl
      | inr later ↦ rw later (onto b bs (lines_cut bs) ∙ sym (ap (λ (l : List ℕ). l ∷ lines (drop (1 + position_or_len is_newline bs + 1) (b ∷ bs))) (take-one (position_or_len is_newline bs) b bs) ∙ ap (λ (l : List ℕ). (b ∷ before_first is_newline bs) ∷ lines l) (drop-one (position_or_len is_newline bs) b bs)))
    ]

-- the same, of what was cut from the bytes
pub lines-cut : (bytes line rest : List ℕ) → 0 < length bytes → line ≡ before_first is_newline bytes → rest ≡ after_first is_newline bytes → lines bytes ≡ line ∷ lines rest
lines-cut bytes line rest some line-is rest-is = rw (line-is, rest-is) (lines_cut bytes some)

abbrev Read : Type 0
Read = Result Reading ScriptError

-- once reading failed, it has failed
fails_on : (e : ScriptError) (more : List (List ℕ)) → fold take_line (Err e) more ≡ Err e
fails_on e [] = refl
fails_on e (text ∷ more) = fails_on e more

pub goes_on : (r next : Reading) (rest text after : List ℕ) (total : Read) → lines rest ≡ text ∷ lines after → read_line r text ≡ Ok next → fold take_line (Ok r) (lines rest) ≡ total → fold take_line (Ok next) (lines after) ≡ total
goes_on r next rest text after total cut read same =
    ap (λ (x : Read). fold take_line x (lines after)) (sym read) ∙ sym (ap (fold take_line (Ok r)) cut) ∙ same

pub ends : (e : ScriptError) (r : Reading) (rest text after : List ℕ) (total : Read) → lines rest ≡ text ∷ lines after → Fails e (read_line r text) → fold take_line (Ok r) (lines rest) ≡ total → Fails e (finish total)
ends NoMemory r rest text after total cut read same = tt
ends (Fault line) r rest text after total cut read same =
    ap finish (sym same ∙ ap (fold take_line (Ok r)) cut ∙ ap (λ (x : Read). fold take_line x (lines after)) read ∙ fails_on (Fault line) (lines after))

abbrev ok : Reading → Read
ok r = Ok r

ok_is : (x y : Reading) → ok x ≡ ok y → x ≡ y
ok_is x y e = cc

number_with : (r next : Reading) (found : Option Line) → with_line r found ≡ ok next → next.number ≡ r.number + 1
number_with r next None e = absurd cc
number_with r next (Some found) e = let same = ok_is _ next e in ap (λ (x : Reading). x.number) (sym same)

-- each line counts
pub number-next : (r next : Reading) (text : List ℕ) → read_line r text ≡ ok next → next.number ≡ r.number + 1
number-next r next [] e = ap (λ (x : Reading). x.number) (sym (ok_is _ next e))
number-next r next (b ∷ bs) e = number_with r next (read_text (b ∷ bs)) e

-- what follows the first line is shorter
pub length-after : (bytes : List ℕ) → 0 < length bytes → length (after_first is_newline bytes) + 1 ≤ length bytes
length-after bytes some = omega (arith, length-drop (position_or_len is_newline bytes + 1) bytes)
