-- Scripts: one line after another, up to the first bad one.
use Rattle.std.specs.Prelude.{◌≡◌, ℕ, ◌+◌, ◌==◌, nat_lt, List, [], ◌∷◌, ◌++◌, length, fold, Option, None, Some, Result, Ok, Err, if◌then◌else◌}
use Rattle.std.specs.List.{onto_first}
use Rattle.script_text.specs.declared.line.Line.{Line}
use Rattle.script_text.specs.declared.script.ScriptError.{ScriptError}
use Rattle.script_text.specs.declared.script.ScriptError.TheVariants.{NoMemory, Fault}
use Rattle.script_text.specs.Line.{read_text}
use Rattle.script_text.specs.declared.script.TheConstants.{MOST_BYTES}

-- the lines: each ends at a newline or at the end
abbrev pub lines : List ℕ → List (List ℕ)
lines [] = []
lines (b ∷ bs) = if b == 10 then [] ∷ lines bs else onto_first b (lines bs)

-- How far a script has been read.
pub record Reading : Type 0 where
  pub number : ℕ  -- the number of the next line, from 1
  pub found : List Line

abbrev pub start : Reading
start = record { number = 1; found = [] }

-- one more line, or the number of a bad one
abbrev pub with_line : Reading → Option Line → Result Reading ScriptError
with_line r None = Err (Fault r.number)
with_line r (Some line) = Ok (record { number = r.number + 1; found = r.found ++ line ∷ [] })

-- an empty line only counts
abbrev pub read_line : Reading → List ℕ → Result Reading ScriptError
read_line r [] = Ok (record r { number = r.number + 1 })
read_line r (b ∷ text) = with_line r (read_text (b ∷ text))

-- nothing is read after the first bad line
abbrev pub take_line : Result Reading ScriptError → List ℕ → Result Reading ScriptError
take_line (Err e) text = Err e
take_line (Ok r) text = read_line r text

-- the lines found, once all are read
abbrev pub finish : Result Reading ScriptError → Result (List Line) ScriptError
finish (Err e) = Err e
finish (Ok r) = Ok r.found

-- the lines of a script of at most 1,048,576 bytes, or the number of the first bad line, where 0 stands for one that is too long
abbrev pub script : List ℕ → Result (List Line) ScriptError
script bytes = if nat_lt MOST_BYTES (length bytes) then Err (Fault 0) else finish (fold take_line (Ok start) (lines bytes))

-- out of memory, or reading fails so
abbrev pub Fails : {Y : Type 0} → ScriptError → Result Y ScriptError → Type 0
Fails NoMemory read = Unit {0}
Fails (Fault line) read = read ≡ Err (Fault line)

-- what a function returned, seen by view, is what reading gives, unless it ran out of memory
abbrev pub Gives : {X Y : Type 0} → (X → Y) → Result X ScriptError → Result Y ScriptError → Type 0
Gives view (Ok x) read = read ≡ Ok (view x)
Gives view (Err e) read = Fails e read
