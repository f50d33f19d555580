-- Writes to different fields.
use Rattle.std.specs.Prelude.{ℕ, List}
use Rattle.std.specs.FinMap as map
use Rattle.log_machine.specs.Machine.{State, each_taken_back}

-- the words when the writes of all other transactions are taken back
abbrev pub others_taken_back : State → ℕ → List ℕ → List ℕ
others_taken_back s t words = each_taken_back (map.entries (map.remove s.undo t)) words
