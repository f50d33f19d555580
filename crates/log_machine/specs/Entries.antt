-- Sums and facts over the entries of a map.
use Rattle.std.proofs.Common.{◌≡◌, ℕ, List, Some}
use Rattle.std.specs.Prelude.{sum_by}
use Rattle.std.specs.Ordering.{nat_cmp}
use Rattle.std.specs.FinMap.{FinMap, get, entries}
use Rattle.log_machine.specs.declared.UndoEntry.{UndoEntry}
use Rattle.log_machine.specs.Machine.{undo_bytes}

-- Sums over the values.

-- the sum of what f says of each value
abbrev pub sum_over : {X : Type 0} → (X → ℕ) → List (ℕ × X) → ℕ
sum_over f es = sum_by (λ e. f e.1) es

-- What holds of each value.

-- something holds of each key and its value
abbrev pub EachKeyed : {X : Type 0} → (ℕ → X → Type 0) → FinMap nat_cmp X → Type 0
EachKeyed {X} P m = (k : ℕ) (v : X) → get m k ≡ Some v → P k v

-- the bytes that are kept for all of them
abbrev pub bytes_over : FinMap nat_cmp (List UndoEntry) → ℕ
bytes_over undo = sum_over undo_bytes (entries undo)
