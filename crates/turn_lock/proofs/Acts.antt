-- A step whose act is of a known kind.
use Rattle.std.proofs.Common.{◌≡◌, ℕ, ◌<◌, ◌⊎◌, length, slice_index, Option, Some}
use mathlib.Core.Option.{some}
use lib.ListN.{get_elem?}
use Rattle.atomic_table.specs.Table.{State, Me, Act, keeps, takes, Allows, Valid, stepped, carried_after}

module _ {S V : Type 0} where
  -- as `Allows` of atomic_table, and the act is one of these
  abbrev pub AllowsAs : (Act S → Type 0) → (State S V → Type 0) → ℕ → ℕ → Me S V → ℕ → (ℕ → ℕ) → (ℕ → Me S V → Type 0) → Type 0
  AllowsAs says holds slots id me i f then = (s : State S V) → holds s → length s.homes ≡ slots → get_elem? s.views id ≡ some me.0 → slice_index s.words i < 18446744073709551616
      → (w : V) × (a : Act S) × says a × Valid s.homes me.1 a × holds (stepped s i (f (slice_index s.words i)) id me.1 w a) × then (slice_index s.words i) (w, carried_after me.1 a)

-- a look takes the value, or moves nothing
abbrev pub IsLook : {T : Type 0} → Act (Option T) → Type 0
IsLook a = (a ≡ keeps) ⊎ ((x : _) × (a ≡ takes 0 (Some x)))

module _ {S V : Type 0} where
  -- a step whose act is known is a step
  pub as_allows : (says : Act S → Type 0) (holds : State S V → Type 0) (slots id : ℕ) (me : Me S V) (i : ℕ) (f : ℕ → ℕ) (then : ℕ → Me S V → Type 0) → AllowsAs says holds slots id me i f then → Allows holds slots id me i f then
  as_allows says holds slots id me i f then law s r n at small = let t = law s r n at small in (t.0, t.1, t.3, t.4, t.5)
