-- Which page is stored before another one gets dirty, where only so many may be.
use Rattle.std.specs.Prelude.{ℕ, ◌≤◌, ◌==◌, ◌||◌, not, nat_lt, Bool, List, [], ◌∷◌, length, fold, filter, Option, None, Some, if◌then◌else◌}
use Rattle.std.specs.List.{range_with_len}

-- whether a page is dirty: it has another LSN than the one with which it is stored
abbrev pub differs : (ℕ → ℕ) → (ℕ → ℕ) → ℕ → Bool
differs lsns stored p = not (lsns p == stored p)

-- the dirty pages, of so many
abbrev pub dirty_pages : ℕ → (ℕ → ℕ) → (ℕ → ℕ) → List ℕ
dirty_pages pages lsns stored = filter (differs lsns stored) (range_with_len 0 pages)

-- Page p comes before page q, or is the same: it has a lesser LSN, or the same one and no greater number.
pub record IsNoYounger (lsns : ℕ → ℕ) (p q : ℕ) : Type 0 where
  pub lsn : lsns p ≤ lsns q
  pub page : lsns q ≤ lsns p → p ≤ q

-- of two pages the one with the lesser LSN, or else the first
abbrev pub older : (ℕ → ℕ) → ℕ → ℕ → ℕ
older lsns p q = if nat_lt (lsns q) (lsns p) then q else p

-- of pages the first of those with the least LSN
abbrev pub oldest : (ℕ → ℕ) → List ℕ → Option ℕ
oldest lsns [] = None
oldest lsns (p ∷ ps) = Some (fold (older lsns) p ps)

-- The page that has to be stored before page p is written, where so many frames may hold dirty pages: none if p is dirty, or if fewer pages are.
abbrev pub victim : ℕ → ℕ → (ℕ → ℕ) → (ℕ → ℕ) → ℕ → Option ℕ
victim pages frames lsns stored p = if differs lsns stored p || nat_lt (length (dirty_pages pages lsns stored)) frames then None else oldest lsns (dirty_pages pages lsns stored)
