-- Words that are laid over others.
use Rattle.std.specs.Prelude.{ℕ, List, [], ◌∷◌, slice_set}

-- the words by address, with others laid over them
abbrev pub laid_over : List ℕ → List (ℕ × ℕ) → List ℕ
laid_over words [] = words
laid_over words (w ∷ ws) = slice_set (laid_over words ws) w.0 w.1
