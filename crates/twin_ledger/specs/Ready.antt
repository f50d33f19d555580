-- What functions that post ask of a pass.
use Rattle.std.specs.Prelude.{◌≡◌, ℕ, ◌≤◌, true, List, [], length, Some}
use Rattle.twin_ledger.specs.declared.ledger.Journal.{Journal}
use Rattle.twin_ledger.specs.declared.ledger.Mirror.{Mirror}
use Rattle.turn_lock.specs.declared.twin_lock.TwinLock.{TwinLock}
use Rattle.turn_lock.specs.declared.twin_pass.TwinPass.{TwinPass}
use Rattle.turn_lock.specs.declared.view.Stage.TheVariants.{Resting}
use Rattle.turn_lock.specs.Merging.{Rise}
use Rattle.turn_lock.specs.TwinPasses.{IsPassOf, IsAtRest, WaitsForDevice, first_of, owes_of, me_of, mine_of, seen_of, saw_of}

abbrev pub Lock : Type 0
Lock = TwinLock Journal Mirror ℕ

abbrev pub Pass : Type 0
Pass = TwinPass Journal Mirror ℕ

-- It is a pass of this lock, without a ticket, and has nothing to tell.
pub record IsReady (lock : Lock) (pass : Pass) : Type 0 where
  pub of_lock : IsPassOf lock pass
  pub at_rest : IsAtRest pass
  pub nothing : owes_of pass ≡ 0

-- Its own posts stand in the journal in the order in which it posted them, after those that the journal had before, all of which it has seen.
pub record IsRisen (lock : Lock) (pass : Pass) : Type 0 where
  pub rise : Rise (first_of lock).before (mine_of pass)
  pub long : (first_of lock).before ≤ length (seen_of pass)

-- It waits for the mirror with what it has seen of the posts, and has nothing to tell.
pub record IsShowing (lock : Lock) (pass : Pass) (ticket : ℕ) (shown : List ℕ) : Type 0 where
  pub of_lock : IsPassOf lock pass
  pub value : (me_of pass).0.value.stage ≡ Resting
  pub slots : (me_of pass).1 ≡ []
  pub waits : WaitsForDevice pass ticket
  pub seen : shown ≡ seen_of pass
  pub nothing : owes_of pass ≡ 0

-- It is at rest, and owes this; if that is something, it saw the mirror fail.
pub record IsOwing (lock : Lock) (pass : Pass) (owes : ℕ) : Type 0 where
  pub of_lock : IsPassOf lock pass
  pub at_rest : IsAtRest pass
  pub owes_is : owes_of pass ≡ owes
  pub saw : owes ≡ 1 → (mirror : Mirror) × (saw_of pass ≡ Some mirror) × (mirror.failed ≡ true)
