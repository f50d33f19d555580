-- What the words and the script of a play and a graph ask for, by the program's own readers.
use Rattle.std.specs.Prelude.{◌≡◌, ℕ, List, None, Some, Err}
use Rattle.command_words.specs.Command.{command}
use Rattle.command_words.specs.declared.commands.Command.TheVariants.{Play, Graph}
use Rattle.command_words.specs.declared.commands.CommandError.{CommandError}
use Rattle.command_words.specs.declared.commands.CommandError.TheVariants as unread
use Rattle.script_text.specs.Script.{script}
use Rattle.script_text.specs.declared.script.ScriptError.{ScriptError}
use Rattle.script_text.specs.declared.script.ScriptError.TheVariants as bad
use Rattle.black_box.specs.declared.asking.Unasked.{Unasked}
use Rattle.black_box.specs.declared.asking.Unasked.TheVariants.{NoMemory, Words, Script}

-- The words are those of a play on a new heap without a stop.
abbrev pub AskPlay : List (List ℕ) → Type 0
AskPlay words = (pages : ℕ) × (command words ≡ Some (Play (Some pages) None))

-- The words are those of a graph.
abbrev pub AskGraph : List (List ℕ) → Type 0
AskGraph words = command words ≡ Some Graph

-- Nothing was run for this reason.
abbrev pub IsReason : Unasked → List (List ℕ) → List (List ℕ) → List ℕ → Type 0
IsReason NoMemory play graph bytes = Unit {0}
IsReason Words play graph bytes = AskPlay play × AskGraph graph → ⊥
IsReason (Script line) play graph bytes = script bytes ≡ Err (bad.Fault line)

-- the reason that an error of the words is
abbrev pub command_reason : CommandError → Unasked
command_reason unread.NoMemory = NoMemory
command_reason unread.Usage = Words

-- the reason that an error of the script is
abbrev pub script_reason : ScriptError → Unasked
script_reason bad.NoMemory = NoMemory
script_reason (bad.Fault line) = Script line
