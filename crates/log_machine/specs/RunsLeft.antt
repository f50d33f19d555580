-- The runs that an iterator has still to give.
use Rattle.std.specs.Prelude.{ℕ, List, drop}
use Rattle.log_machine.specs.declared.runs.Runs.{Runs}
use Rattle.log_machine.specs.Runs.{runs}

abbrev pub runs_left : Runs → List (ℕ × List ℕ)
runs_left it = drop it.given (runs it.rec.now)
