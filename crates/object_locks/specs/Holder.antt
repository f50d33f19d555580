-- Which transaction holds a lock in conflict with one that is asked for.
use Rattle.std.specs.Prelude.{ℕ, List, [], ◌∷◌, Option, None, Some, min, if◌then◌else◌}
use Rattle.std.specs.FinSet as set
use Rattle.object_locks.specs.declared.holding.Holding.{Holding}
use Rattle.object_locks.specs.Conflict.{conflicts}
use Rattle.object_locks.specs.Holdings.{Holdings}

-- the lesser of a number and another that may be absent
abbrev pub lesser : ℕ → Option ℕ → ℕ
lesser n None = n
lesser n (Some m) = min n m

-- the least transaction of these holdings that conflict with what is asked for, if one does
abbrev pub least_in_conflict : Holding → List Holding → Option ℕ
least_in_conflict asked [] = None
least_in_conflict asked (h ∷ hs) = if conflicts h asked then Some (lesser h.transaction (least_in_conflict asked hs)) else least_in_conflict asked hs

-- the same for all that is held
abbrev pub holder_of : Holdings → Holding → Option ℕ
holder_of held asked = least_in_conflict asked (set.items held)
