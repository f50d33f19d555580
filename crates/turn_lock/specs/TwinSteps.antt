-- What each kind of step on a table with two turns changes in what the pass knows, and what it returns.
use Rattle.std.specs.Prelude.{◌≡◌, ◌≢◌, ℕ, ◌+◌, ◌%◌, ◌^◌, ◌≤◌, Bool, true, List, [], ◌∷◌, ◌++◌, drop, Option, Some, None}
use Rattle.atomic_table.specs.Table.{Me, rest}
use Rattle.turn_lock.specs.declared.twin_view.Cell.{Cell}
use Rattle.turn_lock.specs.declared.twin_view.Cell.TheVariants.{OfValue, OfDevice}
use Rattle.turn_lock.specs.declared.twin_view.TwinView.{TwinView}
use Rattle.turn_lock.specs.declared.twin_view.More.{More}
use Rattle.turn_lock.specs.Turning.{IsBeginning, greatest}
use Rattle.turn_lock.specs.Rule.{is_held}
use Rattle.turn_lock.specs.Steps.{waiting, in_turn, raising, resting, left_to_deal, dealt, joined, spent, Suits}
use Rattle.turn_lock.specs.Tied.{Seen}

abbrev Knows : Type 0 → Type 0 → Type 0 → Type 0 → Type 0
Knows T E D F = Me (Cell (Option T) (Option D)) (Seen T E D F)

module _ {V W X : Type 0} where
  -- with another view of the value's turn, and more
  abbrev pub with_value : TwinView V W X → V → X → TwinView V W X
  with_value v w m = record v { value = w; more = m }

  -- with another view of the device's turn, and more
  abbrev pub with_device : TwinView V W X → W → X → TwinView V W X
  with_device v w m = record v { device = w; more = m }

module _ {D : Type 0} where
  -- the first of two that there is
  abbrev pub either_saw : Option D → Option D → Option D
  either_saw (Some d) other = Some d
  either_saw None other = other

  -- the device that was seen, if one was
  abbrev pub what_saw : Option D → List D
  what_saw (Some d) = d ∷ []
  what_saw None = []

module _ {T D : Type 0} where
  -- with this value to put back, and this many untold failures to answer for
  abbrev pub raises_value : More T D → T → ℕ → More T D
  raises_value m value owes = record m { own = Some value; owes = owes }

  -- with this value and this device to put back, and this many untold failures to answer for
  abbrev pub raises_both : More T D → T → D → ℕ → More T D
  raises_both m value device owes = record m { own = Some value; down = Some device; saw = Some device; owes = owes }

  -- with this device put back, and this many untold failures to answer for
  abbrev pub gave_device : More T D → D → ℕ → More T D
  gave_device m device owes = record m { saw = Some device; owes = owes }

  -- what two passes know together
  abbrev pub more_joined : More T D → More T D → More T D
  more_joined m n = record m { saw = either_saw m.saw n.saw; parts = (what_saw m.saw ++ what_saw n.saw) ++ (m.parts ++ n.parts); owes = m.owes + n.owes }

  -- nothing is known
  abbrev pub more_spent : More T D
  more_spent = record { own = None; down = None; saw = None; parts = []; owes = 0 }

module _ {T E D F : Type 0} where
  -- a ticket of the value's turn was taken, and the word has its remainder
  abbrev pub value_queued : Knows T E D F → ℕ → Knows T E D F → Type 0
  value_queued m r n = (t : ℕ) × (r ≡ t % 2 ^ 64) × (n ≡ (with_value m.0 (waiting m.0.value t) m.0.more, m.1))

  -- a ticket of the device's turn was taken, and the word has its remainder
  abbrev pub device_queued : Knows T E D F → ℕ → Knows T E D F → Type 0
  device_queued m r n = (t : ℕ) × (r ≡ t % 2 ^ 64) × (n ≡ (with_device m.0 (waiting m.0.device t) m.0.more, m.1))

  -- the value's turn was passed, and its slot was put back
  abbrev pub value_passed : Knows T E D F → Knows T E D F → Type 0
  value_passed m n = n ≡ (with_value m.0 (resting m.0.value) m.0.more, rest m.1)

  -- the device's turn was an empty one and was passed, its slot was put back, and this is known of both
  abbrev pub device_passed : ℕ → More T D → Knows T E D F → Knows T E D F → Type 0
  device_passed empty more m n = (known : ℕ) × (n ≡ (with_device m.0 (resting (raising m.0.device m.0.device.seen empty known)) more, rest m.1))

  -- the front was read, which is at least any that the pass knew
  abbrev pub value_read : Knows T E D F → ℕ → Knows T E D F → Type 0
  value_read m r n = (n ≡ (with_value m.0 (record m.0.value { front = r }) m.0.more, m.1)) × (m.0.value.front ≤ r)

  -- what is left of the first seat's numbers after one more pass
  abbrev pub twin_left : Seen T E D F → Seen T E D F
  twin_left v = record v { value = left_to_deal v.value; device = left_to_deal v.device }

  -- what one more pass knows
  abbrev pub twin_dealt : Seen T E D F → Seen T E D F
  twin_dealt v = record v { value = dealt v.value; device = dealt v.device }

  -- what two passes know together
  abbrev pub twin_joined : Seen T E D F → Seen T E D F → Seen T E D F
  twin_joined v w = record { value = joined v.value w.value; device = joined v.device w.device; more = more_joined v.more w.more }

  -- the view of a pass that was joined into another one
  abbrev pub twin_spent : Seen T E D F
  twin_spent = record { value = spent; device = spent; more = more_spent }

-- the front was raised to that of a value with this history and these empty turns, and this is known of what goes back
abbrev pub twin_raised : {T E D F : Type 0} → (T → ℕ) → (E → ℕ) → List E → ℕ → More T D → Knows T E D F → Knows T E D F → Type 0
twin_raised stood front log empty more m n = (known : ℕ) × (n ≡ (with_value m.0 (raising m.0.value log empty known) more, m.1))
    × ((first : _) → m.0.value.first ≡ Some first → known ≡ greatest front (drop (stood first) log)) × (m.0.value.front ≤ known)

module _ {T D : Type 0} (beside : T → D → Type 0) (later : D → D → Type 0) where
  -- some device lies beside this value, and is the one that was seen or a later one
  abbrev pub LaterBeside : Option D → T → Type 0
  LaterBeside saw value = (device : D) × beside value device × ((d : D) → saw ≡ Some d → later d device)

module _ {T E D : Type 0} (entries : T → List E) (follows : T → Type 0) (beside : T → D → Type 0) where
  -- this device lies beside some value, which continues what was seen, and is the pass's own where it is out with it
  abbrev pub BesideKnown : List E → Bool → Option T → D → Type 0
  BesideKnown seen out own device = (value : T) × IsBeginning seen (entries value) × follows value × beside value device × (out ≡ true → own ≡ Some value)

module _ {T E D F : Type 0} (entries : T → List E) (stood : T → ℕ) (front : E → ℕ) (empty_turns : T → ℕ) (follows : T → T → Type 0) (beside : T → T → D → Type 0) (later : D → D → Type 0) where
  -- the ticket was served, and the value is taken, beside a device that is not earlier than the one that the pass saw
  abbrev pub GetsValue : Knows T E D F → Knows T E D F → Type 0
  GetsValue m n = (value : T) × (known : ℕ) × (n ≡ (with_value m.0 (in_turn m.0.value (entries value) (empty_turns value) known) (record m.0.more { own = Some value }), (0, OfValue (Some value)) ∷ m.1))
      × Suits entries stood front empty_turns follows m.0.value value known × ((first : T) → m.0.value.first ≡ Some first → LaterBeside (beside first) later m.0.more.saw value)

  -- the value's turn was checked, and begins if the ticket is served
  abbrev pub value_looked : Knows T E D F → ℕ → Knows T E D F → Type 0
  value_looked m r n = (r ≡ m.0.value.ticket % 2 ^ 64 → GetsValue m n) × (r ≢ m.0.value.ticket % 2 ^ 64 → n ≡ m)

module _ {T E D F : Type 0} (entries : T → List E) (follows : T → T → Type 0) (beside : T → T → D → Type 0) (entries' : D → List F) (empty_turns' : D → ℕ) (later : D → D → Type 0) where
  -- The ticket was served, and the device is taken: the one that the pass saw or a later one, beside a value that fits what the pass knows.
  abbrev pub GetsDevice : Knows T E D F → Knows T E D F → Type 0
  GetsDevice m n = (device : D) × (known : ℕ) × (n ≡ (with_device m.0 (in_turn m.0.device (entries' device) (empty_turns' device) known) (record m.0.more { down = Some device; saw = Some device }), (1, OfDevice (Some device)) ∷ m.1))
      × ((d : D) → m.0.more.saw ≡ Some d → later d device)
      × ((first : T) → m.0.value.first ≡ Some first → BesideKnown entries (follows first) (beside first) m.0.value.seen (is_held m.0.value.stage) m.0.more.own device)

  -- the device's turn was checked, and begins if the ticket is served
  abbrev pub device_looked : Knows T E D F → ℕ → Knows T E D F → Type 0
  device_looked m r n = (r ≡ m.0.device.ticket % 2 ^ 64 → GetsDevice m n) × (r ≢ m.0.device.ticket % 2 ^ 64 → n ≡ m)
