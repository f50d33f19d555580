-- The command that the words of the command line spell: the parser's matches over the table of commands, and what is read off them.
use Rattle.std.specs.Prelude.{◌≡◌, ℕ, ◌^◌, ◌&&◌, nat_lt, List, [], ◌∷◌, Option, None, Some, option_map, option_and_then, unwrap_or, bytes_eq, codes, if◌then◌else◌}
use Rattle.std.specs.Str.Parse.{digits_value, without_leading_plus}
use Rattle.clap.specs.Kinds.{Kinds}
use Rattle.clap.specs.ValueTests.{is_numeral}
use Rattle.clap.specs.Walk.{Row, Text, one_of}
use Rattle.clap.specs.Simple.{subcommand_of}
use Rattle.clap.specs.Faults.{fault_of}
use Rattle.clap.specs.declared.error.kind.ErrorKind.{ErrorKind}
use Rattle.clap.specs.declared.error.kind.ErrorKind.TheVariants as kind
use Rattle.command_words.specs.Table.{program}
use Rattle.command_words.specs.declared.commands.Command.{Command}
use Rattle.command_words.specs.declared.commands.Command.TheVariants.{Format, Play, Threads, Graph, Load}
use Rattle.command_words.specs.declared.commands.CommandError.{CommandError}
use Rattle.command_words.specs.declared.commands.CommandError.TheVariants.{NoMemory, Usage}
use Rattle.command_words.specs.declared.commands.Numbers.{Numbers}
use Rattle.command_words.specs.declared.commands.Stop.{Stop}

-- the whole number of that many bits that a text is
abbrev pub parsed_number : ℕ → Text → Option ℕ
parsed_number bits text =
    let digits = without_leading_plus text in
    if is_numeral digits && nat_lt (digits_value 10 digits) (2 ^ bits) then Some (digits_value 10 digits) else None

-- the number of an argument
abbrev pub number_in : ℕ → List Row → Text → Option ℕ
number_in bits rows id = option_and_then (parsed_number bits) (one_of id rows)

abbrev pub parsed_numbers : Option ℕ → Option ℕ → Option ℕ → Option Numbers
parsed_numbers (Some pages) (Some log_bytes) (Some first) = Some (record { pages = pages; log_bytes = log_bytes; first = first })
parsed_numbers _ _ _ = None

abbrev pub numbers_in : List Row → Option Numbers
numbers_in rows = parsed_numbers (number_in 32 rows (codes "pages")) (number_in 32 rows (codes "log_bytes")) (number_in 32 rows (codes "first"))

abbrev pub given_of : ℕ → Option Text → Option (Option ℕ)
given_of bits None = Some None
given_of bits (Some text) = option_map (λ n. Some n) (parsed_number bits text)

-- the number of an option, if it is given; nothing, where what is given is no such number
abbrev pub given_in : ℕ → List Row → Text → Option (Option ℕ)
given_in bits rows id = given_of bits (one_of id rows)

-- how the disk stops; if only the second stop is given, the first one never comes
abbrev pub stop_of : Option ℕ → Option ℕ → Option Stop
stop_of (Some after) again = Some (record { after = after; again = again })
stop_of None (Some again) = Some (record { after = 18446744073709551615; again = Some again })
stop_of None None = None

abbrev pub play_of : Option (Option ℕ) → Option (Option ℕ) → Option (Option ℕ) → Option Command
play_of (Some fresh) (Some stop) (Some again) = Some (Play fresh (stop_of stop again))
play_of _ _ _ = None

abbrev pub play_in : List Row → Option Command
play_in rows = play_of (given_in 32 rows (codes "fresh")) (given_in 64 rows (codes "stop")) (given_in 64 rows (codes "again"))

-- if nothing else is given, an event that is answered busy is made up to 1,000 times
abbrev pub threads_of : Option (Option ℕ) → Option (Option ℕ) → Option Command
threads_of (Some fresh) (Some tries) = Some (Threads fresh (unwrap_or tries 1000))
threads_of _ _ = None

abbrev pub threads_in : List Row → Option Command
threads_in rows = threads_of (given_in 32 rows (codes "fresh")) (given_in 32 rows (codes "tries"))

abbrev pub load_of : Option ℕ → Option ℕ → Option (Option ℕ) → Option Command
load_of (Some seed) (Some count) (Some fresh) = Some (Load seed count fresh)
load_of _ _ _ = None

abbrev pub load_in : List Row → Option Command
load_in rows = load_of (number_in 32 rows (codes "seed")) (number_in 32 rows (codes "count")) (given_in 32 rows (codes "fresh"))

-- the command of that name, with what its matches hold
abbrev pub command_of : Text → List Row → Option Command
command_of name rows =
    if bytes_eq name (codes "format") then option_map (λ numbers. Format numbers) (numbers_in rows)
    else (if bytes_eq name (codes "play") then play_in rows
    else (if bytes_eq name (codes "threads") then threads_in rows
    else (if bytes_eq name (codes "graph") then Some Graph
    else (if bytes_eq name (codes "load") then load_in rows else None))))

-- what an error of the parser is to the program
abbrev pub error_of : ErrorKind → CommandError
error_of kind.OutOfMemory = NoMemory
error_of _ = Usage

-- nothing, where the parser finds a fault
abbrev pub without_fault : Kinds → Option Command → Option Command
without_fault [] c = c
without_fault (k ∷ ks) c = None

-- the command that the words spell, of which the first is the program's name
unfoldable pub command : List Text → Option Command
command words = without_fault (fault_of program words) (option_and_then (λ p. command_of p.0 p.1) (subcommand_of program words))

-- the parser takes the words: it finds no fault in them
unfoldable pub IsTaken : List Text → Type 0
IsTaken words = fault_of program words ≡ []
