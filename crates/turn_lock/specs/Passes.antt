-- What contracts say of a lock and of its passes.
use Rattle.std.specs.Prelude.{◌≡◌, ◌≢◌, ℕ, ◌+◌, List, [], ◌∷◌, ◌++◌, max, Some, None}
use Rattle.turn_lock.specs.declared.lock.TurnLock.{TurnLock}
use Rattle.turn_lock.specs.declared.pass.Pass.{Pass}
use Rattle.turn_lock.specs.declared.view.Stage.TheVariants.{Resting, Turn}
use Rattle.turn_lock.specs.Turning.{longer}

module _ {T E : Type 0} where
  -- the value that was handed to the lock, as it was then
  abbrev pub first_of : TurnLock T E → T
  first_of lock = lock.table.shared.key.first.value

  -- how many passes were made with it
  abbrev pub passes_of : TurnLock T E → ℕ
  passes_of lock = lock.table.shared.key.passes

module _ {T E : Type 0} where
  -- the label that it was made with
  abbrev pub label_of : Pass T E → ℕ
  label_of pass = pass.label

  -- its number, and those of the passes that were joined into it
  abbrev pub pass_numbers : Pass T E → List ℕ
  pass_numbers pass = pass.seat.me.0.numbers

  -- the history as far as it was seen
  abbrev pub seen_of : Pass T E → List E
  seen_of pass = pass.seat.me.0.seen

  -- the same of each pass that was joined into it, and of itself before
  abbrev pub parts_of : Pass T E → List (List E)
  parts_of pass = pass.seat.me.0.parts

  -- the entries of its own turns, each with its place in the history
  abbrev pub mine_of : Pass T E → List (ℕ × E)
  mine_of pass = pass.seat.me.0.mine

  -- how many turns it has made
  abbrev pub turns_of : Pass T E → ℕ
  turns_of pass = pass.seat.me.0.turns

  -- the greatest front that it has seen
  abbrev pub front_of : Pass T E → ℕ
  front_of pass = pass.seat.me.0.front

  -- the empty turns of the value that it was given last
  abbrev pub empty_of : Pass T E → ℕ
  empty_of pass = pass.seat.me.0.empty

  -- It has no ticket.
  pub record IsResting (pass : Pass T E) : Type 0 where
    pub stage : pass.seat.me.0.stage ≡ Resting
    pub slots : pass.seat.me.1 ≡ []

  -- It is its turn, and the value is out with it.
  pub record HasTurn (pass : Pass T E) : Type 0 where
    pub stage : pass.seat.me.0.stage ≡ Turn
    pub slots : pass.seat.me.1 ≡ (0, None) ∷ []

  -- It is still that pass: of the same lock, with the same label and numbers, and the same passes were joined into it.
  pub record IsSamePass (old new : Pass T E) : Type 0 where
    pub lock : new.seat.table_id ≡ old.seat.table_id
    pub first : new.seat.me.0.first ≡ old.seat.me.0.first
    pub label : label_of new ≡ label_of old
    pub numbers : pass_numbers new ≡ pass_numbers old
    pub parts : parts_of new ≡ parts_of old

  -- Its history and its own turns are as they were.
  pub record HasSameTurns (old new : Pass T E) : Type 0 where
    pub seen : seen_of new ≡ seen_of old
    pub mine : mine_of new ≡ mine_of old
    pub turns : turns_of new ≡ turns_of old

  -- Two passes became one, with the label of the first.
  pub record IsJoined (one other new : Pass T E) : Type 0 where
    pub lock : new.seat.table_id ≡ one.seat.table_id
    pub first : new.seat.me.0.first ≡ one.seat.me.0.first
    pub label : label_of new ≡ label_of one
    pub numbers : pass_numbers new ≡ pass_numbers one ++ pass_numbers other
    pub seen : seen_of new ≡ longer (seen_of one) (seen_of other)
    pub parts : parts_of new ≡ seen_of one ∷ seen_of other ∷ (parts_of one ++ parts_of other)
    pub mine : mine_of new ≡ mine_of one ++ mine_of other
    pub turns : turns_of new ≡ turns_of one + turns_of other
    pub front : front_of new ≡ max (front_of one) (front_of other)

module _ {T E : Type 0} where
  -- It is a pass of this lock.
  pub record IsPassOf (lock : TurnLock T E) (pass : Pass T E) : Type 0 where
    pub lock_is : pass.seat.table_id ≡ lock.table.shared.table_id
    pub first_is : pass.seat.me.0.first ≡ Some (first_of lock)
    pub number : pass_numbers pass ≢ []

  -- It is the pass with this number and label of a lock that was just made around a value.
  pub record IsNew (lock : TurnLock T E) (number label : ℕ) (log : List E) (pass : Pass T E) : Type 0 where
    pub of_lock : IsPassOf lock pass
    pub resting : IsResting pass
    pub label_is : label_of pass ≡ label
    pub number_is : pass_numbers pass ≡ number ∷ []
    pub seen : seen_of pass ≡ log
    pub parts : parts_of pass ≡ []
    pub mine : mine_of pass ≡ []
    pub turns : turns_of pass ≡ 0
    pub front : front_of pass ≡ 0
