-- What each kind of step on the table changes in what the pass knows, and what it returns.
use Rattle.std.specs.Prelude.{◌≡◌, ◌≢◌, ℕ, ◌+◌, ◌%◌, ◌^◌, ◌≤◌, List, [], ◌∷◌, ◌++◌, max, take, drop, Option, Some, None}
use Rattle.atomic_table.specs.Table.{Me, rest}
use Rattle.turn_lock.specs.declared.view.View.{View}
use Rattle.turn_lock.specs.declared.view.Stage.TheVariants.{Resting, Waiting, Turn, Raised}
use Rattle.turn_lock.specs.Turning.{IsBeginning, greatest, StandIn, added, longer}

abbrev Knows : Type 0 → Type 0 → Type 0
Knows T E = Me (Option T) (View T E)

module _ {T E : Type 0} where
  -- with this ticket
  abbrev pub waiting : View T E → ℕ → View T E
  waiting v ticket = record v { stage = Waiting; ticket = ticket }

  -- in its turn, with a value of this history, these empty turns and this front
  abbrev pub in_turn : View T E → List E → ℕ → ℕ → View T E
  in_turn v log empty front = record v { stage = Turn; seen = log; empty = empty; front = front }

  -- with this value to put back, and the entry that is new in it among its own
  abbrev pub raising : View T E → List E → ℕ → ℕ → View T E
  raising v log empty front = record v { stage = Raised; seen = log; empty = empty; front = front; mine = v.mine ++ added v.seen log }

  -- with no ticket, and one more turn made
  abbrev pub resting : View T E → View T E
  resting v = record v { stage = Resting; turns = v.turns + 1 }

  -- what is left of the first seat's numbers after one more pass
  abbrev pub left_to_deal : View T E → View T E
  left_to_deal v = record v { numbers = drop 1 v.numbers }

  -- what one more pass knows
  abbrev pub dealt : View T E → View T E
  dealt v = record v { numbers = take 1 v.numbers }

  -- what two passes know together
  abbrev pub joined : View T E → View T E → View T E
  joined v w = record v { numbers = v.numbers ++ w.numbers; seen = longer v.seen w.seen; parts = v.seen ∷ w.seen ∷ (v.parts ++ w.parts); mine = v.mine ++ w.mine; turns = v.turns + w.turns; front = max v.front w.front }

  -- the view of a pass that was joined into another one
  abbrev pub spent : View T E
  spent = record { first = None; numbers = []; stage = Resting; ticket = 0; seen = []; parts = []; empty = 0; mine = []; turns = 0; front = 0 }

  -- a ticket was taken, and the word has its remainder
  abbrev pub queued : Knows T E → ℕ → Knows T E → Type 0
  queued m r n = (t : ℕ) × (r ≡ t % 2 ^ 64) × (n ≡ (waiting m.0 t, m.1))

  -- the turn was passed, and the slot was put back
  abbrev pub passed : Knows T E → Knows T E → Type 0
  passed m n = n ≡ (resting m.0, rest m.1)

  -- the front was read, which is at least any that the pass knew
  abbrev pub read : Knows T E → ℕ → Knows T E → Type 0
  read m r n = (n ≡ (record m.0 { front = r }, m.1)) × (m.0.front ≤ r)

module _ {T E : Type 0} (entries : T → List E) (stood : T → ℕ) (front : E → ℕ) (empty_turns : T → ℕ) (follows : T → T → Type 0) where
  -- What a pass learns of the value that it gets: it is the lock's, and continues all that the pass had seen and done.
  pub record Suits (v : View T E) (value : T) (known : ℕ) : Type 0 where
    pub seen_in : IsBeginning v.seen (entries value)
    pub mine_in : StandIn (entries value) v.mine
    pub stood_is : (first : T) → v.first ≡ Some first → stood value ≡ stood first
    pub follows_is : (first : T) → v.first ≡ Some first → follows first value
    pub front_is : (first : T) → v.first ≡ Some first → known ≡ greatest front (drop (stood first) (entries value))
    pub front_up : v.front ≤ known

  -- the ticket was served, and the value is taken
  abbrev pub Gets : Knows T E → Knows T E → Type 0
  Gets m n = (value : T) × (known : ℕ) × (n ≡ (in_turn m.0 (entries value) (empty_turns value) known, (0, Some value) ∷ m.1)) × Suits m.0 value known

  -- the turn was checked, and begins if the ticket is served
  abbrev pub looked : Knows T E → ℕ → Knows T E → Type 0
  looked m r n = (r ≡ m.0.ticket % 2 ^ 64 → Gets m n) × (r ≢ m.0.ticket % 2 ^ 64 → n ≡ m)

-- The value that is put back is the one that the view keeps, and the lock's.
pub record GoesBack {T E : Type 0} (entries : T → List E) (stood : T → ℕ) (empty_turns : T → ℕ) (follows : T → T → Type 0) (first : T) (v : View T E) (value : T) : Type 0 where
  pub entries_are : entries value ≡ v.seen
  pub empty_is : empty_turns value ≡ v.empty
  pub stood_is : stood value ≡ stood first
  pub follows_is : follows first value

-- the front was raised to that of a value with this history and these empty turns, which is put back
abbrev pub raised : {T E : Type 0} → (T → ℕ) → (E → ℕ) → List E → ℕ → Knows T E → Knows T E → Type 0
raised stood front log empty m n = (known : ℕ) × (n ≡ (raising m.0 log empty known, m.1)) × ((first : _) → m.0.first ≡ Some first → known ≡ greatest front (drop (stood first) log))
    × (m.0.front ≤ known)
