-- What is cut from a stream.
use Rattle.std.proofs.Common.{◌≡◌, inl, ℕ, ◌<◌, ◌≤◌, Bool, List, [], ◌∷◌, ◌++◌, length, Result, Ok, Err, refl, sym, ap, ◌∙◌, subst, arith, append_assoc, length-append}
use Rattle.std.specs.Prelude.{IsFalse, IfOk, OnOk}
use Rattle.line_reader.specs.Taking.{IsWithinLine, HasLine, IsCutAt, IsLineOf, Takes}
use Rattle.line_reader.specs.declared.reader.LineError.{LineError}
use Rattle.line_reader.specs.declared.reader.Taken.{Taken}
use Rattle.line_reader.specs.declared.reader.Taken.TheVariants.{Line, TooLong, Part, End}

no_newline : (line behind : List ℕ) → IsWithinLine (line ++ 10 ∷ behind) → ⊥
no_newline [] behind within = within.0 refl
no_newline (b ∷ line) behind within = no_newline line behind within.1

-- bytes with a whole line among them are not within a line
pub not_within : (bytes : List ℕ) → HasLine bytes → IsWithinLine bytes → ⊥
not_within bytes has within = no_newline has.line has.behind (subst IsWithinLine has.parts within)

module _ (text held held' left : List ℕ) (passing passing' : Bool) (done : IsFalse passing') where
  -- The text is that of a line whose newline is held.
  module _ (within : IsWithinLine text) (parts : held ≡ text ++ 10 ∷ held') where
    here : IsCutAt text (held ++ left) (held' ++ left)
    here = record { within = within; parts = inl (ap (λ (l : List ℕ). l ++ left) parts ∙ append_assoc text (10 ∷ held') left) }

    longer : 0 < length (held ++ left)
    longer =
        let size = length-append text (10 ∷ held') in
        let same : length held ≡ length (text ++ 10 ∷ held') = ap (λ (l : List ℕ). length l) parts in
        omega (arith, length-append held left, size, same)

    pub line_taken : (taken : Taken) → IsLineOf taken passing text → Takes taken passing (held ++ left) passing' (held' ++ left)
    line_taken (Line own) is = (is.0, done, record { cut = subst (λ (l : List ℕ). IsCutAt l (held ++ left) (held' ++ left)) (sym is.1) here; some = longer; short = subst (λ (l : List ℕ). length l ≤ 1048576) (sym is.1) is.2 })
    line_taken TooLong is = (done, record { text = text; cut = here; long = is })
    line_taken Part is = absurd is
    line_taken End is = absurd is

-- A line of bytes that are held, of which the newline is one.
pub line_result : (result : Result Taken LineError) (text held held' left : List ℕ) (passing passing' : Bool) → IsWithinLine text → (behind : List ℕ) → held ≡ text ++ 10 ∷ behind
    → IfOk result (λ taken. IsLineOf taken passing text) → OnOk result (held' ≡ behind) → OnOk result (IsFalse passing')
    → (stream : List ℕ) → held ++ left ≡ stream → IfOk result (λ taken. Takes taken passing stream passing' (held' ++ left))
line_result (Ok taken) text held held' left passing passing' within behind parts is rest done stream same =
    subst (λ (l : List ℕ). Takes taken passing l passing' (held' ++ left)) same
    (line_taken text held held' left passing passing' done within (parts ∙ ap (λ (l : List ℕ). text ++ 10 ∷ l) (sym rest)) taken is)
line_result (Err e) text held held' left passing passing' within behind parts is rest done stream same = tt
