-- The words of the current space.
use Rattle.std.specs.Prelude.{◌≡◌, ℕ, ◌+◌, ◌-◌, ◌*◌, ◌≤◌, ◌⊎◌}
use Rattle.heap_words.specs.declared.TheConstants.{PAGE_WORDS}

-- The two spaces, as contracts see them.
pub record SpacesState : Type 0 where
  pub pages : ℕ  -- how many pages each of the two has
  pub base : ℕ  -- the address of the current space's first word
  pub used : ℕ  -- how many words of the current space are taken
  pub owed : ℕ  -- how many of its words are kept for what a collection has still to copy

-- how many words a space has
abbrev pub space_words : ℕ → ℕ
space_words pages = PAGE_WORDS * pages

-- how many words of the current space are not taken
abbrev pub free_words : SpacesState → ℕ
free_words spaces = space_words spaces.pages - spaces.used

-- how many words of it may be taken: those that are free and kept for nothing
abbrev pub open_words : SpacesState → ℕ
open_words spaces = free_words spaces - spaces.owed

-- the spaces when the next words of the current one are taken
abbrev pub with_taken : SpacesState → ℕ → SpacesState
with_taken spaces words = record spaces { used = spaces.used + words }

-- the spaces when the other one has become current, with none of its words taken, and all that were taken are still to be copied
abbrev pub flipped : SpacesState → SpacesState
flipped spaces = record { pages = spaces.pages; base = space_words spaces.pages - spaces.base; used = 0; owed = spaces.used }

-- the spaces when that many words, which were kept for it, are taken by a copy
abbrev pub with_copied : SpacesState → ℕ → SpacesState
with_copied spaces words = record spaces { used = spaces.used + words; owed = spaces.owed - words }

-- the spaces when nothing is left to be copied
abbrev pub with_none_owed : SpacesState → SpacesState
with_none_owed spaces = record spaces { owed = 0 }

-- What holds of the spaces of each heap: a copy always has room.
pub record IsSpaces (spaces : SpacesState) : Type 0 where
  pub few : spaces.pages ≤ 16384
  pub first : (spaces.base ≡ 0) ⊎ (spaces.base ≡ space_words spaces.pages)
  pub room : spaces.used + spaces.owed ≤ space_words spaces.pages
