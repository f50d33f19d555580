-- What ties the two turns: the value and the device as they are known, and the clauses between them.
use Rattle.std.specs.Prelude.{◌≡◌, ℕ, ◌+◌, ◌≤◌, ◌⊎◌, true, List, [], Option, Some, None}
use Rattle.std.specs.List.{AllByRecursion}
use mathlib.Core.Option.{some}
use lib.ListN.{get_elem?}
use Rattle.atomic_table.specs.Table.{State}
use Rattle.turn_lock.specs.declared.view.View.{View}
use Rattle.turn_lock.specs.declared.twin_view.Cell.{Cell}
use Rattle.turn_lock.specs.declared.twin_view.Cell.TheVariants.{OfValue, OfDevice}
use Rattle.turn_lock.specs.declared.twin_view.TwinView.{TwinView}
use Rattle.turn_lock.specs.declared.twin_view.More.{More}
use Rattle.turn_lock.specs.declared.twin_view.Counted.{Counted}
use Rattle.turn_lock.specs.Turning.{total}
use Rattle.turn_lock.specs.Rule.{Kept, is_held, newcomer}
use Rattle.turn_lock.specs.Twin.{Together}

-- what a pass knows of the turns of a value and of a device
abbrev pub Seen : Type 0 → Type 0 → Type 0 → Type 0 → Type 0
Seen T E D F = TwinView (View T E) (View D F) (More T D)

module _ {T E D F : Type 0} (entries : T → List E) (follows : T → T → Type 0) (first : T) where
  -- This value is out with a pass, which has it as the rule of its turn asks.
  pub record IsOwn (views : List (Seen T E D F)) (value : T) : Type 0 where
    pub seat : ℕ
    pub view : Seen T E D F
    pub seat_is : get_elem? views seat ≡ some view
    pub held : is_held view.value.stage ≡ true
    pub own_is : view.more.own ≡ Some value
    pub entries_are : entries value ≡ view.value.seen
    pub follows_is : follows first value

-- This device is out with a pass.
pub record IsDown {T E D F : Type 0} (views : List (Seen T E D F)) (device : D) : Type 0 where
  pub seat : ℕ
  pub view : Seen T E D F
  pub seat_is : get_elem? views seat ≡ some view
  pub held : is_held view.device.stage ≡ true
  pub down_is : view.more.down ≡ Some device

-- Where the passes' debts covered what was owed, and one of them owes this in place of that, they cover what is owed then.
abbrev pub Covers : ℕ → ℕ → ℕ → ℕ → Type 0
Covers owed owes owed' owes' = (others : ℕ) → owed ≤ others + owes → owed' ≤ others + owes'

module _ {T D : Type 0} (beside : T → D → Type 0) (later : D → D → Type 0) (owed : T → D → ℕ) where
  -- The value goes back in place of another one, whatever the device is by now: it is later than the one that the pass saw.
  abbrev pub MayRaise : Option D → T → ℕ → T → ℕ → Type 0
  MayRaise saw old owes new owes' = (device : D) → ((d : D) → saw ≡ Some d → later d device) → beside old device → beside new device × Covers (owed old device) owes (owed new device) owes'

  -- The value and the device go back in place of others.
  abbrev pub MayRaiseBoth : T → D → ℕ → T → D → ℕ → Type 0
  MayRaiseBoth old down owes new device owes' = beside old down → beside new device × later down device × Covers (owed old down) owes (owed new device) owes'

  -- The device goes back in place of another one, whatever the value is by now, of those that are possible.
  abbrev pub MayPut : (T → Type 0) → D → ℕ → D → ℕ → Type 0
  MayPut possible old owes new owes' = (value : T) → possible value → beside value old → beside value new × later old new × Covers (owed value old) owes (owed value new) owes'

module _ {T E D F : Type 0} (entries : T → List E) (follows : T → T → Type 0) (first : T) (first' : D) (beside : T → D → Type 0) (later : D → D → Type 0) (owed : T → D → ℕ) where
  -- The value and the device, at home or out with a pass, are what they have to be to each other. The device is later than the first one, and than each that a pass saw,
  -- or a pass that became part of it; and what is owed is owed by passes.
  pub record Tied (s : State (Cell (Option T) (Option D)) (Seen T E D F)) : Type 0 where
    pub value : T
    pub device : D
    pub value_is : (get_elem? s.homes 0 ≡ some (some (OfValue (Some value)))) ⊎ IsOwn entries follows first s.views value
    pub device_is : (get_elem? s.homes 1 ≡ some (some (OfDevice (Some device)))) ⊎ IsDown s.views device
    pub beside_is : beside value device
    pub since : later first' device
    pub seen_is : (seat : ℕ) (v : Seen T E D F) → get_elem? s.views seat ≡ some v → (d : D) → v.more.saw ≡ Some d → later d device
    pub parts_in : (seat : ℕ) (v : Seen T E D F) → get_elem? s.views seat ≡ some v → AllByRecursion (λ d. later d device) v.more.parts
    pub told : owed value device ≤ total (λ (v : Seen T E D F). v.more.owes) s.views
    pub idle : (seat : ℕ) (v : Seen T E D F) → get_elem? s.views seat ≡ some v → v.value.numbers ≡ [] → v.more.owes ≡ 0

-- no turn with a device acknowledges a number
abbrev pub no_front : ℕ → ℕ
no_front n = 0

module _ {D : Type 0} where
  -- a device has no history, and each turn with it is an empty one
  abbrev pub no_entries : Counted D → List ℕ
  no_entries c = []

  abbrev pub none_stood : Counted D → ℕ
  none_stood c = 0

  abbrev pub turns_of : Counted D → ℕ
  turns_of c = c.turns

  abbrev pub any_follows : Counted D → Counted D → Type 0
  any_follows a b = Unit {0}

-- The rule of the two turns.
abbrev pub TwinKept : {T E D : Type 0} → (T → List E) → (T → ℕ) → (E → ℕ) → (T → ℕ) → (T → T → Type 0) → (T → T → D → Type 0) → (D → D → Type 0) → (T → D → ℕ) → T → Counted D → ℕ
    → State (Cell (Option T) (Option (Counted D))) (Seen T E (Counted D) ℕ) → Type 0
TwinKept entries stood front empty_turns follows beside later owed first device passes = Together (Kept entries stood front empty_turns follows first passes) (Kept no_entries none_stood no_front turns_of any_follows device passes)
    (Tied entries follows first device (λ v c. beside first v c.device) (λ c d. later c.device d.device) (λ v c. owed v c.device))

-- the view of the first seat, which has the numbers of all passes, and saw the device that was handed in
abbrev pub twin_newcomer : {T E D : Type 0} → (T → List E) → T → Counted D → ℕ → Seen T E (Counted D) ℕ
twin_newcomer entries first device passes = record { value = newcomer entries first passes; device = newcomer no_entries device passes; more = record { own = None; down = None; saw = Some device; parts = []; owes = 0 } }
