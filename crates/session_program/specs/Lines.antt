-- What the lines of a session ask for, and how each of them is answered.
use Rattle.std.specs.Prelude.{◌≡◌, ℕ, ◌+◌, nat_lt, List, [], ◌∷◌, ◌++◌, length, map, codes, bytes_eq, Option, None, Some, if◌then◌else◌}
use Rattle.std.specs.Fmt.{decimal}
use Rattle.std.specs.List.{flat_map}
use Rattle.graph_model.specs.declared.event.Event.{Event}
use Rattle.graph_model.specs.declared.reply.Entry.{Entry}
use Rattle.script_text.specs.declared.line.Line.{Line}
use Rattle.script_text.specs.Line.{read_text, line_events}
use Rattle.heap_program.specs.Play.{lines_text}
use Rattle.line_reader.specs.declared.reader.TheConstants.{MOST_LINE}

-- the line that says that a line is not in the grammar of scripts
abbrev pub fault_line : ℕ → List ℕ
fault_line number = codes "script fault at line " ++ decimal number ++ 10 ∷ []

-- the line that requests that the heap be opened again
abbrev pub reopen_line : List ℕ
reopen_line = codes "reopen"

-- the line that says that `reopen` was not allowed then
abbrev pub unfinished_line : List ℕ
unfinished_line = codes "reopen -> unfinished" ++ 10 ∷ []

-- the line that says that the heap was closed, to be opened again
abbrev pub closed_line : List ℕ
closed_line = codes "reopen -> closed" ++ 10 ∷ []

-- what is answered to a line that is not in the grammar
abbrev pub said_against : ℕ → List ℕ → List ℕ
said_against number text = if bytes_eq text reopen_line then unfinished_line else fault_line number

-- the events of what was found in a line
abbrev pub found_events : Option Line → List Event
found_events None = []
found_events (Some line) = line_events line

-- what is answered to a bad line
abbrev pub found_fault : ℕ → List ℕ → Option Line → List ℕ
found_fault number text None = said_against number text
found_fault number text (Some line) = []

-- The events that a line names, which is None where it was too long. An empty line and one that is not in the grammar name none.
abbrev pub named : Option (List ℕ) → List Event
named None = []
named (Some []) = []
named (Some (b ∷ text)) = found_events (read_text (b ∷ text))

-- what is answered to it, if it is not empty and not in the grammar
abbrev pub fault_of : ℕ → Option (List ℕ) → List ℕ
fault_of number None = fault_line number
fault_of number (Some []) = []
fault_of number (Some (b ∷ text)) = found_fault number (b ∷ text) (read_text (b ∷ text))

-- A line that was answered, with the entries that it gave the history.
pub record Answered : Type 0 where
  pub text : Option (List ℕ)
  pub heard : List Entry

-- its entries are those of the events that it names
abbrev pub IsOfItsEvents : Answered → Type 0
IsOfItsEvents a = map (λ e. e.event) a.heard ≡ named a.text

-- the events that these lines name
abbrev pub asked : List Answered → List Event
asked answered = flat_map (λ a. named a.text) answered

-- the entries that they gave
abbrev pub heard_of : List Answered → List Entry
heard_of answered = flat_map (λ a. a.heard) answered

-- their answers, if the first of them has that number
abbrev pub answers_text : ℕ → List Answered → List ℕ
answers_text number [] = []
answers_text number (a ∷ answered) = (fault_of number a.text ++ lines_text a.heard) ++ answers_text (number + 1) answered

-- a line as it is taken: none of its bytes if they are too many
abbrev pub as_taken : List ℕ → Option (List ℕ)
as_taken line = if nat_lt MOST_LINE (length line) then None else Some line
