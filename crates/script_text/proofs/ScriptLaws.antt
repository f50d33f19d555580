-- Laws of scripts: the sessions of their events, and how many events there are.
use Rattle.std.proofs.Common.{◌≡◌, ℕ, ◌+◌, ◌*◌, ◌≤◌, Bool, true, false, List, [], ◌∷◌, ◌++◌, length, fold, Option, Some, None, Result, Ok, Err, refl, subst, arith, length-append}
use Rattle.std.specs.Prelude.{◌==◌, nat_lt, nat_le, IfSome, IfOk, option_map, option_and_then, find, bytes_eq, codes, if◌then◌else◌}
use Rattle.std.specs.List.{AllByRecursion, onto_first}
use Rattle.std.proofs.lemmas.Bool.{ltb-false, leb-true, and_parts}
use Rattle.graph_model.specs.declared.event.Event.TheVariants.{Force, Flip, Scan, Flush}
use Rattle.graph_model.specs.History.{IsSession, IsOfSession}
use Rattle.script_text.specs.declared.line.Line.{Line}
use Rattle.script_text.specs.declared.line.Line.TheVariants.{One}
use Rattle.script_text.specs.declared.script.ScriptError.{ScriptError}
use Rattle.script_text.specs.declared.script.ScriptError.TheVariants.{Fault}
use Rattle.script_text.specs.Number.{number}
use Rattle.script_text.specs.Line.{words, is_session, session, numbers, calls, call_of, session_line, flush_of, bare_line, line_of, read_text, line_events, events}
use Rattle.script_text.specs.Script.{lines as text_lines, Reading, start, with_line, read_line, take_line, finish, script}

-- The events of a line are of sessions, and there are at most two.
abbrev IsSound : Line → Type 0
IsSound line = AllByRecursion IsOfSession (line_events line) × (length (line_events line) ≤ 2)

-- The line is sound, if there is one.
abbrev IsSoundIn : Option Line → Type 0
IsSoundIn found = IfSome found IsSound

calls_sound : (s : ℕ) → IsSession s → (given : List ℕ) → AllByRecursion (λ (call : List ℕ × Line). IsSound call.1) (calls s given)
calls_sound s own [] =
    (((own, tt), omega arith), (((own, tt), omega arith), (((own, tt), omega arith), (((own, (tt, tt)), omega arith), tt))))
calls_sound s own (h ∷ []) = (((own, tt), omega arith), (((own, tt), omega arith), (((own, tt), omega arith), tt)))
calls_sound s own (h ∷ second ∷ []) = (((own, tt), omega arith), (((own, tt), omega arith), (((own, tt), omega arith), tt)))
calls_sound s own (h ∷ i ∷ third ∷ []) = (((own, tt), omega arith), (((own, tt), omega arith), (((own, tt), omega arith), tt)))
calls_sound s own (a ∷ b ∷ c ∷ d ∷ more) = tt

find_sound : (verb : List ℕ) (from : List (List ℕ × Line)) → AllByRecursion (λ (call : List ℕ × Line). IsSound call.1) from → IsSoundIn (option_map (λ (call : List ℕ × Line). call.1) (find (λ (call : List ℕ × Line). bytes_eq verb call.0) from))
find_sound verb [] sound = tt
find_sound verb (call ∷ more) sound =
    elim (bytes_eq verb call.0) as (λ here. IsSoundIn (option_map (λ (one : List ℕ × Line). one.1) (if here then Some call else find (λ (one : List ℕ × Line). bytes_eq verb one.0) more))) [
      | true ↦ sound.0
      | false ↦ find_sound verb more sound.1
    ]

then_holds : {X Y : Type 0} (P : Y → Type 0) (f : X → Option Y) (o : Option X) → ((x : X) → IfSome (f x) P) → IfSome (option_and_then f o) P
then_holds P f None holds = tt
then_holds P f (Some x) holds = holds x

if_sound : (b : Bool) (found other : Option Line) → IsSoundIn found → IsSoundIn other → IsSoundIn (if b then found else other)
if_sound true found other sound sound_else = sound
if_sound false found other sound sound_else = sound_else

number_own : (s : ℕ) (inside : Bool) → is_session s ≡ inside → IfSome (if inside then Some s else None) IsSession
number_own s true is = let both = and_parts (nat_le 1 s) (nat_le s 32) is in (leb-true 1 s both.0, leb-true s 32 both.1)
number_own s false is = tt

session_own : (word : List ℕ) → IfSome (session word) IsSession
session_own word = then_holds IsSession (λ s. if is_session s then Some s else None) (number word) (λ s. number_own s (is_session s) refl)

flush_sound : (page : Option ℕ) → IsSoundIn (option_map (λ p. One (Flush p)) page)
flush_sound None = tt
flush_sound (Some p) = ((tt, tt), omega arith)

call_sound : (found : Option ℕ) (verb : List ℕ) (rest : List (List ℕ)) → IfSome found IsSession → IsSoundIn (option_and_then (λ s. option_and_then (call_of s verb) (numbers rest)) found)
call_sound None verb rest own = tt
call_sound (Some s) verb rest own =
    then_holds IsSound (call_of s verb) (numbers rest) (λ given. find_sound verb (calls s given) (calls_sound s own given))

session_line_sound : (first verb : List ℕ) (rest : List (List ℕ)) → IsSoundIn (session_line first verb rest)
session_line_sound first verb rest = call_sound (session first) verb rest (session_own first)

bare_sound : (word : List ℕ) → IsSoundIn (bare_line word)
bare_sound word =
    if_sound (bytes_eq word (codes "force")) (Some (One Force)) _ ((tt, tt), omega arith)
    (if_sound (bytes_eq word (codes "flip")) (Some (One Flip)) _ ((tt, tt), omega arith)
    (if_sound (bytes_eq word (codes "scan")) (Some (One Scan)) None ((tt, tt), omega arith) tt))

line_sound : (words : List (List ℕ)) → IsSoundIn (line_of words)
line_sound [] = tt
line_sound (word ∷ []) = bare_sound word
line_sound (word ∷ given ∷ []) =
    if_sound (bytes_eq word (codes "flush")) (flush_of given) (session_line word given []) (flush_sound (number given)) (session_line_sound word given [])
line_sound (first ∷ verb ∷ third ∷ rest) = session_line_sound first verb (third ∷ rest)

text_sound : (text : List ℕ) → IsSoundIn (read_text text)
text_sound text = then_holds IsSound line_of (words text) line_sound

-- Of what was read of n lines: each line found is sound, and there are no more than n.
abbrev IsRead : ℕ → Result Reading ScriptError → Type 0
IsRead n read = IfOk read (λ r. AllByRecursion IsSound r.found × (length r.found ≤ n))

pub AllByRecursion-append : {X : Type 0} (P : X → Type 0) (xs ys : List X) → AllByRecursion P xs → AllByRecursion P ys → AllByRecursion P (xs ++ ys)
AllByRecursion-append P [] ys h k = k
AllByRecursion-append P (x ∷ xs) ys h k = (h.0, AllByRecursion-append P xs ys h.1 k)

with_read : (n : ℕ) (r : Reading) (found : Option Line) → AllByRecursion IsSound r.found → length r.found ≤ n → IsSoundIn found → IsRead (n + 1) (with_line r found)
with_read n r None sound few one = tt
with_read n r (Some line) sound few one = (AllByRecursion-append IsSound r.found (line ∷ []) sound (one, tt), omega (arith, length-append r.found (line ∷ [])))

line_read : (n : ℕ) (r : Reading) (text : List ℕ) → AllByRecursion IsSound r.found → length r.found ≤ n → IsRead (n + 1) (read_line r text)
line_read n r [] sound few = (sound, omega arith)
line_read n r (b ∷ text) sound few = with_read n r (read_text (b ∷ text)) sound few (text_sound (b ∷ text))

take_read : (n : ℕ) (read : Result Reading ScriptError) (text : List ℕ) → IsRead n read → IsRead (n + 1) (take_line read text)
take_read n (Err e) text h = tt
take_read n (Ok r) text h = line_read n r text h.0 h.1

all_read : (n : ℕ) (read : Result Reading ScriptError) (texts : List (List ℕ)) → IsRead n read → IsRead (n + length texts) (fold take_line read texts)
all_read n read [] h = subst (λ (k : ℕ). IsRead k read) (omega arith) h
all_read n read (text ∷ texts) h =
    subst (λ (k : ℕ). IsRead k (fold take_line (take_line read text) texts)) (omega arith) (all_read (n + 1) (take_line read text) texts (take_read n read text h))

finish_read : (n : ℕ) (read : Result Reading ScriptError) (lines : List Line) → IsRead n read → finish read ≡ Ok lines → AllByRecursion IsSound lines × (length lines ≤ n)
finish_read n (Err e) lines h is = cc
finish_read n (Ok r) lines h is =
    let found : r.found ≡ lines = cc in
    subst (λ (l : List Line). AllByRecursion IsSound l × (length l ≤ n)) found h

onto_few : (b : ℕ) (lines : List (List ℕ)) → length (onto_first b lines) ≤ length lines + 1
onto_few b [] = omega arith
onto_few b (line ∷ lines) = omega arith

newline_few : (ends : Bool) (b : ℕ) (lines : List (List ℕ)) → length (if ends then [] ∷ lines else onto_first b lines) ≤ length lines + 1
newline_few true b lines = omega arith
newline_few false b lines = onto_few b lines

lines_few : (bytes : List ℕ) → length (text_lines bytes) ≤ length bytes
lines_few [] = omega arith
lines_few (b ∷ bytes) = omega (arith, newline_few (b == 10) b (text_lines bytes), lines_few bytes)

not_long : (long : Bool) (read : Result (List Line) ScriptError) (lines : List Line) → (if long then Err (Fault 0) else read) ≡ Ok lines → (long ≡ false) × (read ≡ Ok lines)
not_long true read lines is = cc
not_long false read lines is = (refl, is)

script_sound : (bytes : List ℕ) (lines : List Line) → script bytes ≡ Ok lines → AllByRecursion IsSound lines × (length lines ≤ 1048576)
script_sound bytes lines is =
    let short = not_long (nat_lt 1048576 (length bytes)) (finish (fold take_line (Ok start) (text_lines bytes))) lines is in
    let read = finish_read (0 + length (text_lines bytes)) _ lines (all_read 0 (Ok start) (text_lines bytes) (tt, omega arith)) short.1 in
    (read.0, omega (arith, read.1, lines_few bytes, ltb-false _ _ short.0))

events_sound : (lines : List Line) → AllByRecursion IsSound lines → AllByRecursion IsOfSession (events lines)
events_sound [] sound = tt
events_sound (line ∷ lines) sound = AllByRecursion-append IsOfSession (line_events line) (events lines) sound.0.0 (events_sound lines sound.1)

events_few : (lines : List Line) → AllByRecursion IsSound lines → length (events lines) ≤ 2 * length lines
events_few [] sound = omega arith
events_few (line ∷ lines) sound = omega (arith, length-append (line_events line) (events lines), sound.0.1, events_few lines sound.1)

-- Each event of a script is of a session, from 1 to 32, or of none.
pub script_sessions : (bytes : List ℕ) (lines : List Line) → script bytes ≡ Ok lines → AllByRecursion IsOfSession (events lines)
script_sessions bytes lines is = events_sound lines (script_sound bytes lines is).0

-- A line has a byte or a newline, and stands for at most two events.
pub script_few : (bytes : List ℕ) (lines : List Line) → script bytes ≡ Ok lines → length (events lines) ≤ 2097152
script_few bytes lines is =
    let read = script_sound bytes lines is in omega (arith, read.1, events_few lines read.0)

-- The events of one line are of sessions.
pub text_sessions : (text : List ℕ) (line : Line) → read_text text ≡ Some line → AllByRecursion IsOfSession (line_events line)
text_sessions text line is = (subst IsSoundIn is (text_sound text)).0
