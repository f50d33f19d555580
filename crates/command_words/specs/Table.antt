-- The table of commands, as the parser of command lines reads it.
use Rattle.std.specs.Prelude.{ℕ, List, [], ◌∷◌, Some, true, false, pos, codes}
use Rattle.clap.specs.Walk.{Rule, Text}
use Rattle.clap.specs.Simple.{App, Shape, new_rule, new_shape}
use Rattle.clap.specs.declared.builder.value_parser.ValueParser.{ValueParser}
use Rattle.clap.specs.declared.builder.value_parser.ValueParser.TheVariants as vp

-- the whole numbers of 32 bits from low to high
abbrev pub between : ℕ → ℕ → ValueParser
between low high = vp.Signed (pos low) (pos high)

-- the whole numbers of 64 bits
abbrev pub any_number : ValueParser
any_number = vp.Unsigned 0 18446744073709551615

-- an argument that has to be given, at the place where it stands in its command
abbrev pub argument : Text → ValueParser → Rule
argument id parser = record (new_rule id) { parser = Some parser; required = true }

-- an option of that name, which may be left out
abbrev pub option : Text → ValueParser → Rule
option name parser = record (new_rule name) { long = Some name; parser = Some parser }

abbrev pub row : Text → List Rule → Shape
row name rules = record (new_shape name) { rules = rules }

abbrev pub format_row : Shape
format_row = row (codes "format") (
    argument (codes "pages") (between 1 16384)
    ∷ argument (codes "log_bytes") (between 64 1073741824)
    ∷ argument (codes "first") (between 1 4294967295)
    ∷ [])

abbrev pub play_row : Shape
play_row = row (codes "play") (
    option (codes "fresh") (between 1 16384)
    ∷ option (codes "stop") any_number
    ∷ option (codes "again") any_number
    ∷ [])

abbrev pub threads_row : Shape
threads_row = row (codes "threads") (
    option (codes "fresh") (between 1 16384)
    ∷ option (codes "tries") (between 1 1000000)
    ∷ [])

abbrev pub graph_row : Shape
graph_row = row (codes "graph") []

abbrev pub load_row : Shape
load_row = row (codes "load") (
    argument (codes "seed") (between 0 2147483647)
    ∷ argument (codes "count") (between 0 100000)
    ∷ option (codes "fresh") (between 1 16384)
    ∷ [])

-- the program: one of its commands is required, and neither help nor a version is among them
unfoldable pub program : App
program = record {
  top = record (new_shape (codes "heap")) {
    is_leaf = false;
    disable_help_flag = true;
    disable_help_subcommand = true;
    disable_version_flag = true;
    subcommand_required = true;
  };
  subs = format_row ∷ play_row ∷ threads_row ∷ graph_row ∷ load_row ∷ [];
}
