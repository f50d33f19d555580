-- What is held, as a set: who uses which object, and how.
use Rattle.std.specs.Prelude.{◌≡◌, ℕ, ◌≤◌, ◌==◌, ◌↔◌, true, false, not, List, map, Contains}
use Rattle.std.specs.List.Sorted.{IsStrictlyIncreasing}
use Rattle.std.specs.Ordering.{nat_cmp, ordering_then}
use Rattle.std.specs.declared.cmp.Ordering.{Ordering}
use Rattle.std.specs.FinSet as set
use Rattle.object_locks.specs.declared.holding.Key.{Key}
use Rattle.object_locks.specs.declared.holding.Mode.{Mode}
use Rattle.object_locks.specs.declared.holding.Mode.TheVariants.{Shared, Exclusive}
use Rattle.object_locks.specs.declared.holding.Holding.{Holding}
use Rattle.object_locks.specs.Conflict.{conflicts}
use Rattle.relocation.specs.Relocation.{moved_to}

abbrev pub mode_number : Mode → ℕ
mode_number Shared = 0
mode_number Exclusive = 1

-- holdings are ordered by object, then by transaction, then by mode
abbrev pub holding_cmp : Holding → Holding → Ordering
holding_cmp a b =
    ordering_then (nat_cmp a.key.address b.key.address)
    (ordering_then (nat_cmp a.transaction b.transaction) (nat_cmp (mode_number a.mode) (mode_number b.mode)))

-- what is held
abbrev pub Holdings : Type 0
Holdings = set.FinSet holding_cmp

-- transaction t holds something that conflicts with what is asked for
abbrev pub IsInConflict : Holdings → Holding → ℕ → Type 0
IsInConflict held asked t = (h : Holding) × (set.contains held h ≡ true) × (conflicts h asked ≡ true) × (h.transaction ≡ t)

-- nothing that is held conflicts with what is asked for
abbrev pub MayHold : Holdings → Holding → Type 0
MayHold held asked = (h : Holding) → set.contains held h ≡ true → conflicts h asked ≡ false

-- t is the least transaction in conflict with what is asked for
pub record IsLeastInConflict (held : Holdings) (asked : Holding) (t : ℕ) : Type 0 where
  pub conflicts : IsInConflict held asked t
  pub least : (other : ℕ) → IsInConflict held asked other → t ≤ other

-- a transaction locks the object at an address
abbrev pub IsLocked : Holdings → ℕ → Type 0
IsLocked held address = (h : Holding) × (set.contains held h ≡ true) × (h.key.address ≡ address)

-- These are the addresses of the objects that are locked, ascending, each once.
pub record AreLocked (held : Holdings) (addresses : List ℕ) : Type 0 where
  pub ascending : IsStrictlyIncreasing addresses
  pub each : (address : ℕ) → Contains addresses address ↔ IsLocked held address

-- what is held without transaction t
abbrev pub without : Holdings → ℕ → Holdings
without held t = set.retain held (λ h. not (h.transaction == t))

-- a holding whose object has moved, as pairs of old and new addresses say
abbrev pub moved_with : List (ℕ × ℕ) → Holding → Holding
moved_with pairs h = record h { key = record { address = moved_to pairs h.key.address } }

-- what is held after the objects have moved
abbrev pub rekeyed : List (ℕ × ℕ) → Holdings → Holdings
rekeyed pairs held = set.from_list (map (moved_with pairs) (set.items held))
