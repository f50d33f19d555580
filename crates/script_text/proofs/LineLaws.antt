-- A law of lines: one whose first word spells a session asks something of that session.
use Rattle.std.proofs.Common.{◌≡◌, ℕ, false, List, [], ◌∷◌, Some, refl, subst, inl, inr}
use Rattle.std.specs.Prelude.{bytes_eq, codes, option_and_then}
use Rattle.std.proofs.lemmas.Bool.{cases_Bool}
use Rattle.std.proofs.lemmas.Slice.Eq.{bytes_eq-Decides}
use Rattle.script_text.specs.Line.{session, numbers, call_of, line_of}

-- a word that spells a session is not `flush`
no_flush : (word : List ℕ) (s : ℕ) → session word ≡ Some s → bytes_eq word (codes "flush") ≡ false
no_flush word s own =
    elim (cases_Bool (bytes_eq word (codes "flush"))) [
      | inl same ↦ let none : session (codes "flush") ≡ Some s = subst (λ w. session w ≡ Some s) ((bytes_eq-Decides word (codes "flush")).0 same) own in absurd cc
      | inr other ↦ other
    ]

-- what the line of a session asks
pub line_of-session : (first verb : List ℕ) (rest : List (List ℕ)) (s : ℕ) → session first ≡ Some s → line_of (first ∷ verb ∷ rest) ≡ option_and_then (call_of s verb) (numbers rest)
line_of-session first verb [] s own = rw (no_flush first s own, own) refl
line_of-session first verb (third ∷ rest) s own = rw own refl
