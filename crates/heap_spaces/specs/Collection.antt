-- A collection that runs: what it has to copy, what it has copied, and which of the copies may still lead to where their objects were.
use Rattle.std.specs.Prelude.{ℕ, ◌-◌, ◌/◌, Option, None, Some, List, [], ◌∷◌}
use Rattle.std.specs.Ordering.{nat_cmp}
use Rattle.std.specs.FinSet.{FinSet}
use Rattle.heap_words.specs.declared.TheConstants.{PAGE_WORDS}

-- What the records say of a collection.
pub record Collection : Type 0 where
  pub used : ℕ  -- how many words of the from-space its objects take
  pub copied : ℕ  -- how many of these words have been copied since the flip
  pub moved : FinSet nat_cmp  -- the from-space addresses of the objects copied since the flip
  pub gray : FinSet nat_cmp  -- the gray objects' addresses in the current space

-- how many words of the current space are kept for what is still to be copied
abbrev pub owed_by : Option Collection → ℕ
owed_by None = 0
owed_by (Some k) = k.used - k.copied

-- the addresses that a copy makes gray, by the header of the copy
abbrev pub gray_from : ℕ → ℕ → List ℕ
gray_from to header = to ∷ []

-- the page in which a word address lies
abbrev pub page_of : ℕ → ℕ
page_of at = at / PAGE_WORDS
