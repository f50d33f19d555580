-- How far a load has been made.
use Rattle.std.specs.Prelude.{ℕ, ◌+◌, List}
use Rattle.script_text.specs.declared.line.Line.{Line}
use Rattle.script_text.specs.declared.load.Load.{Load}
use Rattle.script_text.specs.Load.{rounds_lines}

-- how many rounds are still to be made
abbrev pub rounds_left : Load → ℕ
rounds_left load = load.left

-- their lines
abbrev pub lines_left : Load → List Line
lines_left load = rounds_lines load.left (load.made + 1) load.draws
