-- Writes, and the pages on which they are.
use Rattle.std.specs.Prelude.{ℕ, ◌<◌, List, map}
use Rattle.std.specs.List.{AllByRecursion}
use Rattle.page_redo.specs.Pages.{page_of}

-- the writes are below an address
abbrev pub AreBelow : ℕ → List (ℕ × ℕ) → Type 0
AreBelow end writes = AllByRecursion (λ w. w.0 < end) writes

-- the pages on which the writes are
abbrev pub pages_of : List (ℕ × ℕ) → List ℕ
pages_of writes = map page_of (map (λ w. w.0) writes)
