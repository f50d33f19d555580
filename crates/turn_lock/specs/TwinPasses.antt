-- What contracts say of a lock with two turns and of its passes.
use Rattle.std.specs.Prelude.{◌≡◌, ◌≢◌, ℕ, ◌%◌, ◌^◌, List, [], ◌∷◌, Option, Some, None}
use Rattle.atomic_table.specs.Table.{Me}
use Rattle.turn_lock.specs.declared.twin_lock.TwinLock.{TwinLock}
use Rattle.turn_lock.specs.declared.twin_pass.TwinPass.{TwinPass}
use Rattle.turn_lock.specs.declared.view.View.{View}
use Rattle.turn_lock.specs.declared.view.Stage.TheVariants.{Resting, Waiting, Turn, Raised}
use Rattle.turn_lock.specs.declared.twin_view.Cell.{Cell}
use Rattle.turn_lock.specs.declared.twin_view.Cell.TheVariants.{OfValue, OfDevice}
use Rattle.turn_lock.specs.declared.twin_view.Counted.{Counted}
use Rattle.turn_lock.specs.Twin.{device_part}
use Rattle.turn_lock.specs.Tied.{Seen}

module _ {T D E : Type 0} where
  -- the value that was handed to the lock, as it was then
  abbrev pub first_of : TwinLock T D E → T
  first_of lock = lock.table.shared.key.first.value

  -- the device that was handed to it, with no turns made
  abbrev pub first_device_of : TwinLock T D E → Counted D
  first_device_of lock = lock.table.shared.key.device.value

  -- how many passes were made with it
  abbrev pub passes_of : TwinLock T D E → ℕ
  passes_of lock = lock.table.shared.key.passes

  -- what the pass knows, and the slots that are out with it
  abbrev pub me_of : TwinPass T D E → Me (Cell (Option T) (Option (Counted D))) (Seen T E (Counted D) ℕ)
  me_of pass = pass.seat.me

  -- the label that it was made with
  abbrev pub label_of : TwinPass T D E → ℕ
  label_of pass = pass.label

  -- what it knows of the value's turns
  abbrev pub value_view : TwinPass T D E → View T E
  value_view pass = pass.seat.me.0.value

  -- what it knows of the device's turns
  abbrev pub device_view : TwinPass T D E → View (Counted D) ℕ
  device_view pass = pass.seat.me.0.device

  -- its number, and those of the passes that were joined into it
  abbrev pub pass_numbers : TwinPass T D E → List ℕ
  pass_numbers pass = pass.seat.me.0.value.numbers

  -- the history as far as it was seen
  abbrev pub seen_of : TwinPass T D E → List E
  seen_of pass = pass.seat.me.0.value.seen

  -- the same of each pass that was joined into it, and of itself before
  abbrev pub parts_of : TwinPass T D E → List (List E)
  parts_of pass = pass.seat.me.0.value.parts

  -- the entries of its own turns, each with its place in the history
  abbrev pub mine_of : TwinPass T D E → List (ℕ × E)
  mine_of pass = pass.seat.me.0.value.mine

  -- how many turns with the value it has made
  abbrev pub value_turns : TwinPass T D E → ℕ
  value_turns pass = pass.seat.me.0.value.turns

  -- how many turns with the device it has made
  abbrev pub device_turns : TwinPass T D E → ℕ
  device_turns pass = pass.seat.me.0.device.turns

  -- the greatest front that it has seen
  abbrev pub front_of : TwinPass T D E → ℕ
  front_of pass = pass.seat.me.0.value.front

  -- the empty turns of the value that it took or raised last
  abbrev pub empty_of : TwinPass T D E → ℕ
  empty_of pass = pass.seat.me.0.value.empty

  -- for how many untold failures it answers, at most
  abbrev pub owes_of : TwinPass T D E → ℕ
  owes_of pass = pass.seat.me.0.more.owes

  -- the value that it took or raised last, which stays known once it is put back
  abbrev pub own_of : TwinPass T D E → Option T
  own_of pass = pass.seat.me.0.more.own

module _ {D : Type 0} where
  -- a device without its count
  abbrev pub uncounted : Option (Counted D) → Option D
  uncounted (Some c) = Some c.device
  uncounted None = None

module _ {T D E : Type 0} where
  -- the device that it took last, or raised since then, which stays known once it is put back
  abbrev pub down_of : TwinPass T D E → Option D
  down_of pass = uncounted pass.seat.me.0.more.down

  -- the device that it took, raised or put back last; before that, the one that was handed in
  abbrev pub saw_of : TwinPass T D E → Option D
  saw_of pass = uncounted pass.seat.me.0.more.saw

  -- what each pass saw of the device that was joined into it, and itself before
  abbrev pub device_parts_of : TwinPass T D E → List (Counted D)
  device_parts_of pass = pass.seat.me.0.more.parts

  -- It has no ticket of either turn.
  pub record IsAtRest (pass : TwinPass T D E) : Type 0 where
    pub value : pass.seat.me.0.value.stage ≡ Resting
    pub device : pass.seat.me.0.device.stage ≡ Resting
    pub slots : pass.seat.me.1 ≡ []

  -- It has this ticket of the value's turn, and none of the device's: so nobody who has the device waits for the value.
  pub record WaitsForValue (pass : TwinPass T D E) (ticket : ℕ) : Type 0 where
    pub value : pass.seat.me.0.value.stage ≡ Waiting
    pub ticket_is : ticket ≡ pass.seat.me.0.value.ticket % 2 ^ 64
    pub device : pass.seat.me.0.device.stage ≡ Resting
    pub slots : pass.seat.me.1 ≡ []

  -- It has this ticket of the device's turn.
  pub record WaitsForDevice (pass : TwinPass T D E) (ticket : ℕ) : Type 0 where
    pub device : pass.seat.me.0.device.stage ≡ Waiting
    pub ticket_is : ticket ≡ pass.seat.me.0.device.ticket % 2 ^ 64

  -- The value is out with it, and the device is not.
  pub record HasValue (pass : TwinPass T D E) : Type 0 where
    pub value : pass.seat.me.0.value.stage ≡ Turn
    pub slots : pass.seat.me.1 ≡ (0, OfValue None) ∷ []

  -- Both are out with it.
  pub record HasBoth (pass : TwinPass T D E) : Type 0 where
    pub value : pass.seat.me.0.value.stage ≡ Turn
    pub device : pass.seat.me.0.device.stage ≡ Turn
    pub slots : pass.seat.me.1 ≡ (1, OfDevice None) ∷ (0, OfValue None) ∷ []

  -- The device is out with it, taken after all else that is, with this count of turns.
  pub record HasDevice (pass : TwinPass T D E) (turns : ℕ) : Type 0 where
    pub device : pass.seat.me.0.device.stage ≡ Turn
    pub under : List (ℕ × Cell (Option T) (Option (Counted D)))
    pub slots : pass.seat.me.1 ≡ (1, OfDevice None) ∷ under
    pub alone : device_part under ≡ []
    pub turns_is : pass.seat.me.0.device.empty ≡ turns
    pub none_seen : pass.seat.me.0.device.seen ≡ []

  -- It is still that pass: of the same lock, with the same label and numbers, and the same passes were joined into it.
  pub record IsSamePass (old new : TwinPass T D E) : Type 0 where
    pub lock : new.seat.table_id ≡ old.seat.table_id
    pub label : label_of new ≡ label_of old
    pub first : new.seat.me.0.value.first ≡ old.seat.me.0.value.first
    pub first_device : new.seat.me.0.device.first ≡ old.seat.me.0.device.first
    pub numbers : pass_numbers new ≡ pass_numbers old
    pub device_numbers : new.seat.me.0.device.numbers ≡ old.seat.me.0.device.numbers
    pub parts : parts_of new ≡ parts_of old
    pub devices : device_parts_of new ≡ device_parts_of old

  -- It is a pass of this lock.
  pub record IsPassOf (lock : TwinLock T D E) (pass : TwinPass T D E) : Type 0 where
    pub lock_is : pass.seat.table_id ≡ lock.table.shared.table_id
    pub first_is : pass.seat.me.0.value.first ≡ Some (first_of lock)
    pub first_device_is : pass.seat.me.0.device.first ≡ Some (first_device_of lock)
    pub number : pass_numbers pass ≢ []
    pub numbers_are : pass.seat.me.0.device.numbers ≡ pass_numbers pass

  -- It is the pass with this number and label of a lock that was just made around a value with this history.
  pub record IsNew (lock : TwinLock T D E) (number label : ℕ) (log : List E) (pass : TwinPass T D E) : Type 0 where
    pub of_lock : IsPassOf lock pass
    pub at_rest : IsAtRest pass
    pub label_is : label_of pass ≡ label
    pub number_is : pass_numbers pass ≡ number ∷ []
    pub seen : seen_of pass ≡ log
    pub parts : parts_of pass ≡ []
    pub mine : mine_of pass ≡ []
    pub turns : value_turns pass ≡ 0
    pub turns_with_device : device_turns pass ≡ 0
    pub front : front_of pass ≡ 0
    pub own : own_of pass ≡ None
    pub down : down_of pass ≡ None
    pub saw : saw_of pass ≡ Some (first_device_of lock).device
    pub devices : device_parts_of pass ≡ []
    pub owes : owes_of pass ≡ 0

  -- What is known of the device's turns, and of the device, is as it was.
  pub record KeepsDevice (old new : TwinPass T D E) : Type 0 where
    pub view : device_view new ≡ device_view old
    pub down : new.seat.me.0.more.down ≡ old.seat.me.0.more.down
    pub saw : new.seat.me.0.more.saw ≡ old.seat.me.0.more.saw

  -- What is known of the value's turns, and of the value, is as it was.
  pub record KeepsValue (old new : TwinPass T D E) : Type 0 where
    pub view : value_view new ≡ value_view old
    pub own : own_of new ≡ own_of old

  -- The value that was raised is still out with it, and nothing else is.
  pub record HasRaised (entries : T → List E) (empty_turns : T → ℕ) (pass : TwinPass T D E) (value : T) : Type 0 where
    pub stage : pass.seat.me.0.value.stage ≡ Raised
    pub slots : pass.seat.me.1 ≡ (0, OfValue None) ∷ []
    pub own : own_of pass ≡ Some value
    pub entries_are : entries value ≡ seen_of pass
    pub empty_is : empty_turns value ≡ empty_of pass
