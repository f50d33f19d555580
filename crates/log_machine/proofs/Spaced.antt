-- How the spaces lie in the words of the pages, and what lies in the used words.
use Rattle.std.proofs.Common.{ℕ, ◌+◌, ◌≤◌, List, [], ◌∷◌, refl, arith, inl, inr}
use Rattle.std.specs.List.{AllByRecursion}
use Rattle.log_machine.specs.declared.UndoEntry.{UndoEntry}
use Rattle.log_machine.specs.UndoEntry.{LiesInside}
use Rattle.log_machine.specs.Machine.{State, start, space_words, words_in}
use Rattle.log_machine.specs.Sound.{IsSpaced}

-- before the first record the root object stands in the first space
pub spaced_start : (pages first : ℕ) → 1 ≤ pages → IsSpaced (start pages first)
spaced_start pages first some = record { first = inl refl; room = omega arith; within = tt }

-- the used words are words of the pages
pub spaced_ends : (s : State) → IsSpaced s → s.base + s.used ≤ words_in s.pages
spaced_ends s is = elim is.first [ inl low ↦ let room = is.room in omega arith | inr high ↦ let room = is.room in omega arith ]

-- so are as many more as the space has room for
pub spaced_more : (s : State) (n : ℕ) → IsSpaced s → s.used + n ≤ space_words s.pages → s.base + s.used + n ≤ words_in s.pages
spaced_more s n is room = elim is.first [ inl low ↦ omega arith | inr high ↦ omega arith ]

-- a write of a used word is still one if more words are used
pub inside_on : (base used used' : ℕ) (us : List UndoEntry) → used ≤ used' → AllByRecursion (LiesInside base used) us → AllByRecursion (LiesInside base used') us
inside_on base used used' [] more inside = tt
inside_on base used used' (u ∷ us) more inside = (record { above = inside.0.above; below = omega (arith, inside.0.below, more) }, inside_on base used used' us more inside.1)
