-- What a play requires of its events.
use Rattle.std.specs.Prelude.{◌≡◌, ℕ, ◌≤◌, Bool, IsTrue, List, length, Ok}
use Rattle.std.specs.List.{AllByRecursion}
use Rattle.graph_model.specs.History.{IsOfSession}
use Rattle.script_text.specs.declared.line.Line.{Line}
use Rattle.script_text.specs.Line.{events}
use Rattle.script_text.specs.Script.{script}

-- Each event of these lines is of a session, or of none, and they are no more than those of the longest script.
pub record IsScript (lines : List Line) : Type 0 where
  pub sessions : AllByRecursion IsOfSession (events lines)
  pub few : length (events lines) ≤ 2097152

-- The lines are those of a script that was read: of the bytes that were left in the source, if it is modelled.
pub record IsReadFrom (told : Bool) (left : List ℕ) (lines : List Line) : Type 0 where
  pub bytes : List ℕ
  pub script : script bytes ≡ Ok lines
  pub own : IsTrue told → bytes ≡ left
