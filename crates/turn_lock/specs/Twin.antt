-- One table with two turns, seen as two tables with one turn each.
-- Words 0 to 2 and slot 0 are the value's turn, words 3 and 4 and slot 1 the device's, whose front is always 0 and no word.
use Rattle.std.specs.Prelude.{◌≡◌, ℕ, ◌-◌, List, [], ◌∷◌, ◌++◌, map, take, drop, length}
use mathlib.Core.Option.{none, some}
use mathlib.Core.Option as maybe
use Rattle.atomic_table.specs.Table.{State}
use Rattle.turn_lock.specs.declared.twin_view.Cell.{Cell}
use Rattle.turn_lock.specs.declared.twin_view.Cell.TheVariants.{OfValue, OfDevice}
use Rattle.turn_lock.specs.declared.twin_view.TwinView.{TwinView}

module _ {A B : Type 0} where
  abbrev pub value_home : maybe.Option (Cell A B) → maybe.Option A
  value_home none = none
  value_home (some (OfValue a)) = some a
  value_home (some (OfDevice b)) = none

  abbrev pub device_home : maybe.Option (Cell A B) → maybe.Option B
  device_home none = none
  device_home (some (OfValue a)) = none
  device_home (some (OfDevice b)) = some b

  abbrev pub device_onto : ℕ → Cell A B → List (ℕ × B) → List (ℕ × B)
  device_onto k (OfValue a) l = l
  device_onto k (OfDevice b) l = (k - 1, b) ∷ l

  -- of the slots that are out with a pass, those of the device's turn
  abbrev pub device_part : List (ℕ × Cell A B) → List (ℕ × B)
  device_part [] = []
  device_part (x ∷ xs) = device_onto x.0 x.1 (device_part xs)

module _ {A B V W X : Type 0} where
  -- the value's turn
  abbrev pub value_side : State (Cell A B) (TwinView V W X) → State A V
  value_side s = record { words = take 3 s.words; homes = map value_home (take 1 s.homes); views = map (λ (v : TwinView V W X). v.value) s.views }

  -- the device's turn
  abbrev pub device_side : State (Cell A B) (TwinView V W X) → State B W
  device_side s = record { words = drop 3 s.words ++ 0 ∷ []; homes = map device_home (drop 1 s.homes); views = map (λ (v : TwinView V W X). v.device) s.views }

  -- The two rules, each on its part of the table, and what ties them.
  pub record Together (R : State A V → Type 0) (Q : State B W → Type 0) (Ties : State (Cell A B) (TwinView V W X) → Type 0) (s : State (Cell A B) (TwinView V W X)) : Type 0 where
    pub turn : R (value_side s)
    pub other : Q (device_side s)
    pub five : length s.words ≡ 5
    pub ties : Ties s
