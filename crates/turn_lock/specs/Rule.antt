-- The rule of the lock, over the words, the slot and what each pass knows.
-- Word 0 is the number of tickets that were taken, word 1 the number of turns that were passed, both modulo 2^64, and word 2 is the front.
use Rattle.std.specs.Prelude.{◌≡◌, ℕ, ◌+◌, ◌-◌, ◌%◌, ◌^◌, ◌<◌, ◌≤◌, ◌⊎◌, Bool, true, false, List, [], ◌∷◌, length, drop, cond, Option, Some}
use Rattle.std.specs.List.{AllByRecursion}
use mathlib.Core.Option.{some, none}
use mathlib.Core.Option as maybe
use lib.ListN.{get_elem?}
use Rattle.atomic_table.specs.Table.{State}
use Rattle.turn_lock.specs.declared.view.View.{View}
use Rattle.turn_lock.specs.declared.view.Stage.{Stage}
use Rattle.turn_lock.specs.declared.view.Stage.TheVariants.{Resting, Waiting, Turn, Raised}
use Rattle.turn_lock.specs.Turning.{one, times, total, EachOnce, numbers_from, IsBeginning, greatest, places, StandIn}

-- a pass at this stage has a ticket
abbrev pub is_queued : Stage → Bool
is_queued Resting = false
is_queued Waiting = true
is_queued Turn = true
is_queued Raised = true

-- the value is out with a pass at this stage
abbrev pub is_held : Stage → Bool
is_held Resting = false
is_held Waiting = false
is_held Turn = true
is_held Raised = true

-- how many more turns the value that is put back has than the one that was taken
abbrev pub ahead : Stage → ℕ
ahead Resting = 0
ahead Waiting = 0
ahead Turn = 0
ahead Raised = 1

module _ {T E : Type 0} where
  -- how many tickets the pass has, none or one
  abbrev pub tickets : View T E → ℕ
  tickets v = cond (is_queued v.stage) 1 0

  -- how many tickets of this number it has
  abbrev pub tickets_of : ℕ → View T E → ℕ
  tickets_of t v = cond (is_queued v.stage) (one t v.ticket) 0

  -- how many of its own entries stand at this place
  abbrev pub times_at : ℕ → View T E → ℕ
  times_at k v = times k (places v.mine)

module _ {T E : Type 0} (entries : T → List E) (stood : T → ℕ) (front : E → ℕ) (empty_turns : T → ℕ) (follows : T → T → Type 0) (first : T) (passes : ℕ) where
  -- the front that the history since the lock was made acknowledges
  abbrev pub front_of : List E → ℕ
  front_of log = greatest front (drop (stood first) log)

  -- A value with this history and this count of empty turns has had this many turns, modulo 2^64.
  abbrev pub HasTurns : List E → ℕ → ℕ → Type 0
  HasTurns log empty turns = (length log - stood first + empty) % 2 ^ 64 ≡ turns % 2 ^ 64

  -- What one pass knows fits the history and the number of turns that were passed.
  pub record Fits (served : ℕ) (log : List E) (v : View T E) : Type 0 where
    pub first_is : (value : T) → v.first ≡ Some value → value ≡ first
    pub seen_in : IsBeginning v.seen log
    pub parts_in : AllByRecursion (λ seen. IsBeginning seen log) v.parts
    pub mine_in : StandIn log v.mine
    pub front_in : v.front ≤ front_of log
    pub turn_is : is_held v.stage ≡ true → v.ticket ≡ served
    pub idle : v.numbers ≡ [] → (v.stage ≡ Resting) × (v.mine ≡ []) × (v.turns ≡ 0)

  -- What all passes know together.
  pub record Shared (taken served : ℕ) (log : List E) (views : List (View T E)) : Type 0 where
    pub tickets_once : EachOnce (λ t. total (tickets_of t) views) served taken
    pub tickets_out : total tickets views + served ≡ taken
    pub numbers_once : EachOnce (λ n. total (λ v. times n v.numbers) views) 0 passes
    pub numbers_all : total (λ v. length v.numbers) views ≡ passes
    pub places_once : EachOnce (λ k. total (times_at k) views) (stood first) (length log)
    pub turns_made : total (λ v. v.turns) views ≡ served
    pub each : (seat : ℕ) (v : View T E) → get_elem? views seat ≡ some v → Fits served log v

  -- The value is at home, with all turns that were passed.
  pub record AtHome (served : ℕ) (log : List E) (home : maybe.Option (Option T)) (views : List (View T E)) : Type 0 where
    pub value : T
    pub home_is : home ≡ some (Some value)
    pub entries_are : entries value ≡ log
    pub stood_is : stood value ≡ stood first
    pub follows_is : follows first value
    pub turns_are : HasTurns log (empty_turns value) served
    pub nobody : (seat : ℕ) (v : View T E) → get_elem? views seat ≡ some v → is_held v.stage ≡ false

  -- The value is out with one pass, which keeps what goes back.
  pub record IsOut (served : ℕ) (log : List E) (home : maybe.Option (Option T)) (views : List (View T E)) : Type 0 where
    pub seat : ℕ
    pub view : View T E
    pub seat_is : get_elem? views seat ≡ some view
    pub held : is_held view.stage ≡ true
    pub home_is : home ≡ none
    pub seen_is : view.seen ≡ log
    pub front_is : view.front ≡ front_of log
    pub turns_are : HasTurns log view.empty (served + ahead view.stage)

  -- The rule.
  pub record Kept (s : State (Option T) (View T E)) : Type 0 where
    pub taken : ℕ
    pub served : ℕ
    pub log : List E
    pub home : maybe.Option (Option T)
    pub words_are : s.words ≡ taken % 2 ^ 64 ∷ served % 2 ^ 64 ∷ front_of log ∷ []
    pub homes_are : s.homes ≡ home ∷ []
    pub few : passes < 2 ^ 64
    pub long : stood first ≤ length log
    pub knows : Shared taken served log s.views
    pub slot : AtHome served log home s.views ⊎ IsOut served log home s.views

-- the view of the first seat, which has the numbers of all passes
abbrev pub newcomer : {T E : Type 0} → (T → List E) → T → ℕ → View T E
newcomer entries first passes = record { first = Some first; numbers = numbers_from 0 passes; stage = Resting; ticket = 0; seen = entries first; parts = []; empty = 0; mine = []; turns = 0; front = 0 }
