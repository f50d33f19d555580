-- What successive runs report.
use Rattle.std.specs.Prelude.{◌≡◌, ◌⊎◌, ℕ, List, [], ◌∷◌, Some, Ok}
use Rattle.graph_model.specs.Graph.{Graph}
use Rattle.script_text.specs.declared.line.Line.{Line}
use Rattle.script_text.specs.Script.{script}
use Rattle.heap_program.specs.declared.status.Status.{Status}
use Rattle.heap_program.specs.Causes.{IsInputError}
use Rattle.black_box.specs.declared.turns.Turn.{Turn}
use Rattle.black_box.specs.Told.{TellsRun}

module _ {S K : Type 0} (left : S → List ℕ) (written : K → List ℕ) where
  -- A run ended before it began, since its script is bad or could not be read or memory ran out: it wrote nothing, and left the graph as it
  -- was. Or it read its script, and has a history.
  abbrev pub TellsTurn : Graph → Turn S K → Turn S K → Graph → Type 0
  TellsTurn begins turn turn' kept =
      (status : Status) × (turn'.status ≡ Some status)
      × ((IsInputError status × (written turn'.sink ≡ written turn.sink) × (kept ≡ begins))
      ⊎ ((read : List Line) × (script (left turn.source) ≡ Ok read) × TellsRun begins read status (written turn.sink) (written turn'.sink) kept))

  -- Each run continues from the graph that the one before it left.
  abbrev pub TellTurns : Graph → List (Turn S K) → List (Turn S K) → Graph → Type 0
  TellTurns begins [] [] kept = kept ≡ begins
  TellTurns begins (turn ∷ turns) (turn' ∷ turns') kept = (between : Graph) × TellsTurn begins turn turn' between × TellTurns between turns turns' kept
  TellTurns begins turns turns' kept = ⊥
