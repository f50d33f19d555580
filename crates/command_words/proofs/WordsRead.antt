-- What a parse of the words says of the command that they spell.
use Rattle.std.proofs.Common.{◌≡◌, ◌∙◌, true, List, [], ◌∷◌, Option, Some, None, Result, Ok, Err, IfOk, refl, sym, subst, ap, ap₂, inl, inr, option_map}
use Rattle.std.specs.Prelude.{option_and_then}
use Rattle.std.specs.Result.{result_ok}
use Rattle.clap.specs.Kinds.{HasKind, Kinds}
use Rattle.clap.specs.Faults.{fault_of, is_simple_and_free}
use Rattle.clap.specs.Matches.{subcommand_name_of}
use Rattle.clap.specs.Simple.{App, HasMatchesOf, is_simple, subcommand_of, subcommand_rows_of}
use Rattle.clap.specs.Values.{kind_of}
use Rattle.clap.specs.Walk.{Row, Text}
use Rattle.clap.specs.declared.error.Error.{Error}
use Rattle.clap.specs.declared.parser.matches.ArgMatches.{ArgMatches}
use Rattle.clap.specs.declared.parser.matches.ArgMatches.TheViews.{out-ArgMatches}
use Rattle.command_words.specs.Command.{command, command_of, error_of, without_fault}
use Rattle.command_words.specs.Table.{program}
use Rattle.command_words.specs.declared.commands.Command.{Command}
use Rattle.command_words.specs.declared.commands.CommandError.{CommandError}
use Rattle.command_words.specs.declared.commands.CommandError.TheVariants.{Usage}

simple_and_free : is_simple_and_free program ≡ true
unfolding program
simple_and_free = refl

simple : is_simple program ≡ true
unfolding program
simple = refl

-- what the parser promises of a command that is the program
pub no_fault : (a : App) (words : List Text) → a ≡ program → (is_simple_and_free a ≡ true → fault_of a words ≡ []) → fault_of program words ≡ []
no_fault a words is promise = ap (λ b. fault_of b words) (sym is) ∙ promise (ap is_simple_and_free is ∙ simple_and_free)

pub has_fault : (a : App) (words : List Text) (e : Error) → a ≡ program → (is_simple_and_free a ≡ true → HasKind (fault_of a words) e) → HasKind (fault_of program words) e
has_fault a words e is promise = subst (λ b. HasKind (fault_of b words) e) is (promise (ap is_simple_and_free is ∙ simple_and_free))

pub met_is : (a : App) (words : List Text) (m : ArgMatches) → a ≡ program → HasMatchesOf a words m → subcommand_rows_of m ≡ subcommand_of program words
met_is a words m is promise = (promise (ap is_simple is ∙ simple)).1 ∙ ap (λ b. subcommand_of b words) is

none_by_fault : (kinds : Kinds) (e : Error) (c : Option Command) → HasKind kinds e → error_of (kind_of e) ≡ Usage → without_fault kinds c ≡ None
none_by_fault [] e c (inl memory) usage =
    let swapped = rw memory at usage in
    cc
none_by_fault [] e c (inr none) usage = absurd none
none_by_fault (k ∷ ks) e c has usage = refl

-- words at which the parser fails for more than memory spell nothing
pub fault_is_none : (words : List Text) (e : Error) → HasKind (fault_of program words) e → error_of (kind_of e) ≡ Usage → command words ≡ None
unfolding command
fault_is_none words e has usage = none_by_fault (fault_of program words) e (option_and_then (λ p. command_of p.0 p.1) (subcommand_of program words)) has usage

-- words at which it has no fault spell what its matches say
pub matched_is : (words : List Text) (met : Option (Text × List Row)) → fault_of program words ≡ [] → met ≡ subcommand_of program words
    → command words ≡ option_and_then (λ p. command_of p.0 p.1) met
unfolding command
matched_is words met none is =
    ap (λ kinds. without_fault kinds (option_and_then (λ p. command_of p.0 p.1) (subcommand_of program words))) none
    ∙ ap (option_and_then (λ (p : Text × List Row). command_of p.0 p.1)) (sym is)

fused : {S A B : Type 0} (f : S → A) (g : S → B) (sub : Option S) → option_map f sub ≡ option_map (λ (p : A × B). p.0) (option_map (λ b. (f b, g b)) sub)
fused f g None = refl
fused f g (Some b) = refl

name_is : (m : ArgMatches) → subcommand_name_of m ≡ option_map (λ (p : Text × List Row). p.0) (subcommand_rows_of m)
name_is m = fused _ _ (out-ArgMatches m).subcommand

joined : (met : Option (Text × List Row)) (name : Text) (rows : List Row) → Some name ≡ option_map (λ (p : Text × List Row). p.0) met
    → Some rows ≡ option_map (λ (p : Text × List Row). p.1) met → met ≡ Some (name, rows)
joined None name rows a b = cc
joined (Some p) name rows a b =
    let first : p.0 ≡ name = cc in
    let second : p.1 ≡ rows = cc in
    ap₂ (λ (x : Text) (y : List Row). Some (x, y)) first second

absent : (met : Option (Text × List Row)) → None ≡ option_map (λ (p : Text × List Row). p.0) met → met ≡ None
absent None a = refl
absent (Some p) a = cc

abbrev commanded : Option (Text × List Row) → Option Command
commanded met = option_and_then (λ p. command_of p.0 p.1) met

-- where the parser met no subcommand, the words spell nothing
pub met_none : (words : List Text) (m : ArgMatches) → fault_of program words ≡ [] → subcommand_rows_of m ≡ subcommand_of program words
    → None ≡ subcommand_name_of m → command words ≡ None
met_none words m faultless is none =
    matched_is words (subcommand_rows_of m) faultless is ∙ ap commanded (absent (subcommand_rows_of m) (none ∙ name_is m))

-- where it met one, they spell what that one's name and rows say
pub met_some : (words : List Text) (m : ArgMatches) (name : Text) (rows : List Row) → fault_of program words ≡ [] → subcommand_rows_of m ≡ subcommand_of program words
    → Some name ≡ subcommand_name_of m → Some rows ≡ option_map (λ (p : Text × List Row). p.1) (subcommand_rows_of m) → command words ≡ command_of name rows
met_some words m name rows faultless is named held =
    matched_is words (subcommand_rows_of m) faultless is ∙ ap commanded (joined (subcommand_rows_of m) name rows (named ∙ name_is m) held)

pub read_of : (spelled : Option Command) (r : Result Command CommandError) → spelled ≡ result_ok r → IfOk r (λ c. spelled ≡ Some c)
read_of spelled (Ok c) e = e
read_of spelled (Err x) e = tt
