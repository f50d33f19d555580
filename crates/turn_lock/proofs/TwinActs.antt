-- The acts of one turn as acts of the table with two turns, and the part of a pass that one turn sees.
use Rattle.std.proofs.Common.{◌≡◌, ℕ, ◌+◌, List, [], ◌∷◌}
use Rattle.atomic_table.specs.Table.{Me, Act, keeps, takes, gives, chain}
use Rattle.turn_lock.specs.declared.twin_view.Cell.{Cell}
use Rattle.turn_lock.specs.declared.twin_view.Cell.TheVariants.{OfValue, OfDevice}
use Rattle.turn_lock.specs.declared.twin_view.TwinView.{TwinView}
use Rattle.turn_lock.specs.Twin.{device_part}

module _ {A B : Type 0} where
  abbrev pub value_onto : ℕ → Cell A B → List (ℕ × A) → List (ℕ × A)
  value_onto k (OfValue a) l = (k, a) ∷ l
  value_onto k (OfDevice b) l = l

  -- of the slots that are out with a pass, those of the value's turn
  abbrev pub value_part : List (ℕ × Cell A B) → List (ℕ × A)
  value_part [] = []
  value_part (x ∷ xs) = value_onto x.0 x.1 (value_part xs)

  -- an act of the value's turn as one of the table
  abbrev pub up : Act A → Act (Cell A B)
  up keeps = keeps
  up (takes k x) = takes k (OfValue x)
  up gives = gives
  up (chain a b) = chain (up a) (up b)

  -- an act of the value's turn that the table can make: what is given was taken last
  abbrev pub Plain : List (ℕ × Cell A B) → Act A → Type 0
  Plain c keeps = Unit {0}
  Plain c (takes k x) = k ≡ 0
  Plain c gives = (x : A) × (under : List (ℕ × Cell A B)) × (c ≡ (0, OfValue x) ∷ under)
  Plain c (chain a b) = ⊥

  -- an act of the device's turn as one of the table
  abbrev pub down : Act B → Act (Cell A B)
  down keeps = keeps
  down (takes k y) = takes (k + 1) (OfDevice y)
  down gives = gives
  down (chain a b) = chain (down a) (down b)

module _ {B : Type 0} where
  -- An act of the device's turn that one step of the table can make. What is given is put in another way.
  abbrev pub PlainDown : Act B → Type 0
  PlainDown keeps = Unit {0}
  PlainDown (takes k y) = k ≡ 0
  PlainDown gives = ⊥
  PlainDown (chain a b) = ⊥

module _ {A B V W X : Type 0} where
  -- the value's part of a pass
  abbrev pub value_me : Me (Cell A B) (TwinView V W X) → Me A V
  value_me me = (me.0.value, value_part me.1)

  -- the device's part of a pass
  abbrev pub device_me : Me (Cell A B) (TwinView V W X) → Me B W
  device_me me = (me.0.device, device_part me.1)
