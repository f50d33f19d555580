-- Where objects went, and what becomes of a word that leads to one.
use Rattle.std.specs.Prelude.{ℕ, ◌<◌, ◌==◌, List, [], ◌∷◌, map, All, Option, None, Some, unwrap_or, if◌then◌else◌}
use Rattle.std.specs.List.Sorted.{IsStrictlyIncreasing}
use Rattle.heap_words.specs.declared.Word.{Word}
use Rattle.heap_words.specs.declared.Word.TheVariants.{Null, Int, Stable, Volatile}
use Rattle.heap_words.specs.Word.{bits, meaning}
use Rattle.heap_words.specs.declared.TheConstants.{STABLE_WORDS}

-- Pairs say where objects went: each has the address at which an object stood, and the one to which it went.
pub record IsRelocation (pairs : List (ℕ × ℕ)) : Type 0 where
  pub ascending : IsStrictlyIncreasing (map (λ pair. pair.0) pairs)  -- no object is named twice, and where they stood ascends
  pub inside : All (λ pair. pair.1 < STABLE_WORDS) pairs  -- a reference can lead to where they went

-- where the object at an address went, if it moved
abbrev pub destination : List (ℕ × ℕ) → ℕ → Option ℕ
destination [] from = None
destination (pair ∷ pairs) from = if pair.0 == from then Some pair.1 else destination pairs from

-- where it stands then: an object that did not move is where it was
abbrev pub moved_to : List (ℕ × ℕ) → ℕ → ℕ
moved_to pairs from = unwrap_or (destination pairs from) from

-- a word of this meaning after the move
abbrev pub translated_by : List (ℕ × ℕ) → ℕ → Option Word → ℕ
translated_by pairs word None = word
translated_by pairs word (Some Null) = word
translated_by pairs word (Some (Int n)) = word
translated_by pairs word (Some (Stable address)) = bits (Stable (moved_to pairs address))
translated_by pairs word (Some (Volatile index)) = word

-- a word after the move: a reference to a stable object that moved leads to where it went, and every other word stays
abbrev pub translated_word : List (ℕ × ℕ) → ℕ → ℕ
translated_word pairs word = translated_by pairs word (meaning word)
