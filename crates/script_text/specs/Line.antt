-- The lines of a script: the words of each, and what they ask for.
use Rattle.std.specs.Prelude.{ℕ, ◌-◌, ◌==◌, ◌||◌, ◌&&◌, not, nat_le, Bool, List, [], ◌∷◌, length, filter, find, slice_index, Option, None, Some, option_map, option_and_then, bytes_eq, codes, if◌then◌else◌}
use Rattle.std.specs.List.{slice_split, flat_map}
use Rattle.graph_model.specs.declared.event.Event.{Event}
use Rattle.graph_model.specs.declared.event.Event.TheVariants.{Begin, Root, New, Put, Clear, Link, Drop, Get, Same, Len, Seal, Abort, Force, Flip, Scan, Flush}
use Rattle.script_text.specs.declared.line.Line.{Line}
use Rattle.script_text.specs.declared.line.Line.TheVariants.{One, Commit}
use Rattle.script_text.specs.Number.{number}

-- the first or the last byte is a blank
abbrev pub has_outer_blank : List ℕ → Bool
has_outer_blank text = slice_index text 0 == 32 || slice_index text (length text - 1) == 32

-- what stands between the blanks of a line, without the empty pieces
abbrev pub pieces : List ℕ → List (List ℕ)
pieces text = filter (λ piece. not (length piece == 0)) (slice_split (λ b. b == 32) text)

-- the words of a line, which one or more blanks part
abbrev pub words : List ℕ → Option (List (List ℕ))
words text = if has_outer_blank text then None else Some (pieces text)

-- a session is a number from 1 to 32
abbrev pub is_session : ℕ → Bool
is_session s = nat_le 1 s && nat_le s 32

-- the session that the word spells, as every number is spelled
abbrev pub session : List ℕ → Option ℕ
session word = option_and_then (λ s. if is_session s then Some s else None) (number word)

-- the numbers that the words spell, if each spells one
abbrev pub numbers : List (List ℕ) → Option (List ℕ)
numbers [] = Some []
numbers (word ∷ words) = option_and_then (λ n. option_map (λ more. n ∷ more) (numbers words)) (number word)

-- the verbs that take these numbers, and what each asks of session s
abbrev pub calls : ℕ → List ℕ → List (List ℕ × Line)
calls s [] =
    (codes "begin", One (Begin s)) ∷ (codes "seal", One (Seal s)) ∷ (codes "abort", One (Abort s)) ∷ (codes "commit", Commit s) ∷ []
calls s (h ∷ []) = (codes "root", One (Root s h)) ∷ (codes "drop", One (Drop s h)) ∷ (codes "len", One (Len s h)) ∷ []
calls s (h ∷ second ∷ []) =
    (codes "new", One (New s h second)) ∷ (codes "clear", One (Clear s h second)) ∷ (codes "same", One (Same s h second)) ∷ []
calls s (h ∷ i ∷ third ∷ []) =
    (codes "put", One (Put s h i third)) ∷ (codes "link", One (Link s h i third)) ∷ (codes "get", One (Get s h i third)) ∷ []
calls s more = []

-- what a verb asks of session s with these numbers
abbrev pub call_of : ℕ → List ℕ → List ℕ → Option Line
call_of s verb given = option_map (λ call. call.1) (find (λ call. bytes_eq verb call.0) (calls s given))

-- what the verb asks of the session that the first word spells, with the numbers that the rest spell
abbrev pub session_line : List ℕ → List ℕ → List (List ℕ) → Option Line
session_line first verb rest = option_and_then (λ s. option_and_then (call_of s verb) (numbers rest)) (session first)

-- the flush of the page that the word spells
abbrev pub flush_of : List ℕ → Option Line
flush_of page = option_map (λ p. One (Flush p)) (number page)

-- the line that a single word spells
abbrev pub bare_line : List ℕ → Option Line
bare_line word =
    if bytes_eq word (codes "force") then Some (One Force)
    else if bytes_eq word (codes "flip") then Some (One Flip)
    else if bytes_eq word (codes "scan") then Some (One Scan)
    else None

-- the line that the words spell
abbrev pub line_of : List (List ℕ) → Option Line
line_of [] = None
line_of (word ∷ []) = bare_line word
line_of (word ∷ given ∷ []) = if bytes_eq word (codes "flush") then flush_of given else session_line word given []
line_of (first ∷ verb ∷ rest) = session_line first verb rest

-- the line that the text spells
abbrev pub read_text : List ℕ → Option Line
read_text text = option_and_then line_of (words text)

-- the events that a line stands for
abbrev pub line_events : Line → List Event
line_events (One event) = event ∷ []
line_events (Commit s) = Seal s ∷ Force ∷ []

-- the events of a script
abbrev pub events : List Line → List Event
events lines = flat_map line_events lines
