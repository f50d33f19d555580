-- Calls of more than three numbers, and the call that a line asks for.
use Rattle.std.proofs.Common.{◌≡◌, ℕ, ◌-◌, ◌≤◌, List, [], ◌∷◌, length, map, get_or, take, drop, Option, None, Some, refl, arith, take_all}
use Rattle.std.specs.Prelude.{option_map, option_and_then}
use Rattle.script_text.specs.Number.{number}
use Rattle.script_text.specs.Line.{session, numbers, call_of, line_of}
use Rattle.script_text.proofs.LineLaws.{line_of-session}

-- a number followed by others, if there are others
abbrev onto : Option (List ℕ) → Option ℕ → Option (List ℕ)
onto more n = option_and_then (λ (m : ℕ). option_map (λ (ns : List ℕ). m ∷ ns) more) n

four : (s : ℕ) (verb : List ℕ) (a b c d : Option ℕ) (more : Option (List ℕ)) → option_and_then (call_of s verb) (onto (onto (onto (onto more d) c) b) a) ≡ None
four s verb None b c d more = refl
four s verb (Some a) None c d more = refl
four s verb (Some a) (Some b) None d more = refl
four s verb (Some a) (Some b) (Some c) None more = refl
four s verb (Some a) (Some b) (Some c) (Some d) None = refl
four s verb (Some a) (Some b) (Some c) (Some d) (Some more) = refl

-- no verb takes four numbers or more
pub no_call : {A : Type 0} (s : ℕ) (verb : List ℕ) (bytes : A → List ℕ) (words : List A) → 4 ≤ length words → option_and_then (call_of s verb) (numbers (map bytes words)) ≡ None
no_call s verb bytes [] many = absurd (omega arith)
no_call s verb bytes (a ∷ []) many = absurd (omega arith)
no_call s verb bytes (a ∷ b ∷ []) many = absurd (omega arith)
no_call s verb bytes (a ∷ b ∷ c ∷ []) many = absurd (omega arith)
no_call s verb bytes (a ∷ b ∷ c ∷ d ∷ rest) many = four s verb (number (bytes a)) (number (bytes b)) (number (bytes c)) (number (bytes d)) (numbers (map bytes rest))

-- what the words ask of the session that the first of them spells
pub call_of-words : {A : Type 0} (bytes : A → List ℕ) (words : List A) (d : A) (s : ℕ) → 2 ≤ length words → session (bytes (get_or words 0 d)) ≡ Some s
    → option_and_then (call_of s (bytes (get_or words 1 d))) (numbers (map bytes (take (length words - 2) (drop 2 words)))) ≡ line_of (map bytes words)
call_of-words bytes [] d s two own = absurd (omega arith)
call_of-words bytes (first ∷ []) d s two own = absurd (omega arith)
call_of-words bytes (first ∷ verb ∷ rest) d s two own =
    let all : take (length (first ∷ verb ∷ rest) - 2) rest ≡ rest = take_all (length (first ∷ verb ∷ rest) - 2) rest (omega arith) in
    rw (all, line_of-session (bytes first) (bytes verb) (map bytes rest) s own) refl
