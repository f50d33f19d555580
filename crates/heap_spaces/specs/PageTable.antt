-- A number for each page, which lies in memory with those of its group, or is 0.
use Rattle.std.specs.Prelude.{◌≡◌, ◌≢◌, ◌⊎◌, ℕ, ◌/◌, ◌%◌, ◌^◌, ◌<◌, ◌≤◌, ◌++◌, List, [], ◌∷◌, length, map, get_or, replicate, slice_index}

-- the numbers of a group of 64 pages, which are 0 if it has no memory
abbrev pub group_numbers : List ℕ → List ℕ
group_numbers [] = replicate 64 0
group_numbers (n ∷ ns) = n ∷ ns

-- the numbers of all pages, group after group
abbrev pub numbers_in : List (List ℕ) → List ℕ
numbers_in [] = []
numbers_in (g ∷ gs) = group_numbers g ++ numbers_in gs

-- for how many pages of each group there is memory
abbrev pub rooms_of : List (List ℕ) → List ℕ
rooms_of groups = map length groups

-- What contracts see of such a table.
pub record PageNumbers : Type 0 where
  pub numbers : List ℕ  -- the number of each page
  pub room : List ℕ  -- for how many pages of each group there is memory

-- there is memory for the page's number
abbrev pub HasRoom : List ℕ → ℕ → Type 0
HasRoom room page = page % 64 < slice_index room (page / 64)

-- a group has memory for all of its pages, or none
abbrev pub IsGroup : List ℕ → Type 0
IsGroup group = (length group ≡ 0) ⊎ (length group ≡ 64)

-- There are at most 2 ^ 20 groups, and each has memory for all of its pages, or none.
pub record AreGroups (groups : List (List ℕ)) : Type 0 where
  pub few : length groups ≤ 2 ^ 20
  pub each : (k : ℕ) → IsGroup (get_or groups k [])

-- The first page from another on whose number is not 0, and it is below 2 ^ 26.
pub record IsNextPage (numbers : List ℕ) (from page : ℕ) : Type 0 where
  pub behind : from ≤ page
  pub low : page < 2 ^ 26
  pub some : slice_index numbers page ≢ 0
  pub first : (p : ℕ) → from ≤ p → p < page → slice_index numbers p ≡ 0
