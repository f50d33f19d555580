-- Words spell a command just where the parser finds no fault, and an option that is given is read.
use Rattle.std.proofs.Common.{◌≡◌, ◌∙◌, ◌&&◌, ◌<◌, ◌^◌, not, ℕ, Bool, true, false, List, [], ◌∷◌, Option, Some, None, refl, sym, ap, codes, arith}
use Rattle.std.specs.Prelude.{find, is_some, nat_lt, option_and_then, option_map, pos, slice_get, unwrap_or}
use Rattle.std.specs.List.{AllByRecursion, list_any}
use Rattle.std.specs.Option.{option_map_or}
use Rattle.std.specs.Str.{bytes_eq}
use Rattle.std.specs.Str.Parse.{ParsesUnsigned, digits_value, without_leading_plus}
use Rattle.std.proofs.lemmas.Bool.{or_parts}
use Rattle.std.proofs.lemmas.Slice.Eq.{bytes_eq-Decides}
use Rattle.clap.specs.Facts.{explicit_source, parser_of_value}
use Rattle.clap.specs.Faults.{check_fault, defaults_fault, entered_fault, fault_of, level_fault, settle_fault, walk_fault}
use Rattle.clap.specs.Kinds.{Kinds, check_kinds}
use Rattle.clap.specs.Lexer.{without_minus}
use Rattle.clap.specs.Matches.{ReadsOne}
use Rattle.clap.specs.Simple.{App, Shape, argument_words, built, entered, label_of, names_of, rows_at, subcommand_of}
use Rattle.clap.specs.Takes.{is_given, value_passes, values_pass}
use Rattle.clap.specs.ValueTests.{accepts, is_numeral}
use Rattle.clap.specs.Values.{read_as, reading_of}
use Rattle.clap.specs.Walk.{Row, Rule, Text, answers_to, arg_by_id, arg_by_short, finished, nothing_held, reading_by, row_text, rows_after, settled, stop_after, walk, walk_from}
use Rattle.clap.specs.declared.builder.value_parser.Reading.{Reading}
use Rattle.clap.specs.declared.builder.value_parser.ValueParser.{ValueParser}
use Rattle.clap.specs.declared.builder.value_parser.ValueParser.TheVariants as vp
use Rattle.clap.proofs.CallerReads.{signed_reads}
use Rattle.clap.proofs.ValueTestLemmas.{accepts-Accepts}
use Rattle.clap.proofs.WalkLemmas.{both}
use Rattle.command_words.specs.Command.{IsTaken, command, command_of, given_in, given_of, load_of, number_in, parsed_number, parsed_numbers, play_of, stop_of, threads_of, without_fault}
use Rattle.command_words.proofs.NumberLaws.{parses, parses_not}
use Rattle.command_words.proofs.RowLaws.{HasValue, IsPlainRule, Passes, found, level_good, neither}
use Rattle.command_words.specs.Table.{program}
use Rattle.command_words.specs.declared.commands.Command.{Command}
use Rattle.command_words.specs.declared.commands.Command.TheVariants.{Format, Graph, Load, Play, Threads}

-- ---- what is given is read

-- each text that the parser lets through is a number of that many bits, as it is read
abbrev Reads : ValueParser → ℕ → Type 0
Reads p bits = (ignore_case : Bool) (v : Text) → accepts ignore_case p v ≡ true → (n : ℕ) × (parsed_number bits (read_as (reading_of p) v) ≡ Some n)

reads_one : (text : Text) (number : Option ℕ) → parsed_number 32 text ≡ number → ReadsOne {E = ℕ} (λ t r. ParsesUnsigned 32 10 t r) text number
reads_one text None e = (0, parses_not 32 text 0 e)
reads_one text (Some n) e = parses 32 text n e

signed_number : (low high : ℕ) → high < 2 ^ 32 → Reads (vp.Signed (pos low) (pos high)) 32
signed_number low high fits ignore_case v passes =
    let got = signed_reads ℕ (λ t r. ParsesUnsigned 32 10 t r) 32 low high v (parsed_number 32 (without_minus v)) (reads_one (without_minus v) _ refl) (λ u x g. g) fits
    (accepts-Accepts ignore_case (vp.Signed (pos low) (pos high)) v passes) in
    (got.0, got.1)

unsigned_number : Reads (vp.Unsigned 0 18446744073709551615) 64
unsigned_number ignore_case v passes =
    let outer = both (is_numeral (without_leading_plus v)) _ passes in
    let inner = both (nat_lt (digits_value 10 (without_leading_plus v)) (2 ^ 64)) _ outer.1 in
    (digits_value 10 (without_leading_plus v), rw (outer.0, inner.0) refl)

-- the argument of that id takes numbers of that many bits
abbrev IsNumber : List Rule → Text → ℕ → Rule → Type 0
IsNumber c id bits a = (arg_by_id c id ≡ Some a) × Reads (parser_of_value a.parser) bits

-- a row of such an argument holds a number
row_read : (c : List Rule) (rows : List Row) (id : Text) (bits : ℕ) (a : Rule) (r : Row) → IsNumber c id bits a → AllByRecursion (Passes c) rows
    → find (λ r. bytes_eq r.id id) rows ≡ Some r → (text : Text) × (row_text r ≡ Some text) × ((n : ℕ) × (parsed_number bits text ≡ Some n))
row_read c rows id bits a r is all at =
    let met = found (Passes c) _ rows r all at in
    let own = met.0 a (ap (arg_by_id c) ((bytes_eq-Decides r.id id).0 met.1) ∙ is.0) in
    first r.values own.0 own.1 own.2
  where
    first : (values : List Text) → values_pass a values ≡ true → r.reading ≡ reading_by a → HasValue values
        → (text : Text) × (option_map (read_as r.reading) (slice_get values 0) ≡ Some text) × ((n : ℕ) × (parsed_number bits text ≡ Some n))
    first [] passes reads some = absurd some
    first (v ∷ vs) passes reads some =
        let read = is.1 a.ignore_case v (both (value_passes a v) (values_pass a vs) passes).0 in
        (read_as r.reading v, refl, (read.0, ap (λ (how : Reading). parsed_number bits (read_as how v)) reads ∙ read.1))

-- what is given of such an argument is read
number_read : (c : List Rule) (rows : List Row) (id : Text) (bits : ℕ) (a : Rule) → IsNumber c id bits a → AllByRecursion (Passes c) rows → is_given id rows ≡ true
    → (n : ℕ) × (number_in bits rows id ≡ Some n)
number_read c rows id bits a is all given = go (find (λ r. bytes_eq r.id id) rows) refl given
  where
    go : (of : Option Row) → find (λ r. bytes_eq r.id id) rows ≡ of → option_map_or (λ r. explicit_source r.source) of false ≡ true
        → (n : ℕ) × (option_and_then (parsed_number bits) (option_and_then row_text of) ≡ Some n)
    go None at none = cc
    go (Some r) at here =
        let read = row_read c rows id bits a r is all at in
        (read.2.0, ap (option_and_then (parsed_number bits)) read.1 ∙ read.2.1)

-- such an option is a number, if it is given
given_read : (c : List Rule) (rows : List Row) (id : Text) (bits : ℕ) (a : Rule) → IsNumber c id bits a → AllByRecursion (Passes c) rows
    → (number : Option ℕ) × (given_in bits rows id ≡ Some number)
given_read c rows id bits a is all = go (find (λ r. bytes_eq r.id id) rows) refl
  where
    go : (of : Option Row) → find (λ r. bytes_eq r.id id) rows ≡ of → (number : Option ℕ) × (given_of bits (option_and_then row_text of) ≡ Some number)
    go None at = (None, refl)
    go (Some r) at =
        let read = row_read c rows id bits a r is all at in
        (Some read.2.0, ap (given_of bits) read.1 ∙ ap (option_map (λ n. Some n)) read.2.1)

-- ---- no fault, and a command

checks_none : (x y z : Bool) → check_kinds x y z ≡ [] → (y ≡ false) × (z ≡ false)
checks_none true y z e = cc
checks_none false true z e = cc
checks_none false false true e = cc
checks_none false false false e = (refl, refl)

-- the last check of a level has no fault
check_none : (s : Shape) (names : List (Text × List Text)) (words : List Text) (has : Bool) (below : Kinds) → level_fault s names nothing_held words has below ≡ []
    → check_fault s (finished s.rules (walk s.rules names nothing_held words).held) has ≡ []
check_none s names words has below none =
    let end = (walk s.rules names nothing_held words).held in
    let walked = neither (walk_fault s names (walk_from nothing_held) words) _ none in
    let under = neither below _ walked.1 in
    let settling = neither (settle_fault s.rules s.args_override_self end) _ under.1 in
    (neither (defaults_fault (settled s.rules end).rows s.rules) (check_fault s (finished s.rules end) has) settling.1).1

-- words that have no fault at a command spell one
abbrev Spells : Shape → Type 0
Spells s = (words : List Text) → level_fault s [] nothing_held words false [] ≡ [] → (c : Command) × (command_of s.name (rows_after s.rules [] words) ≡ Some c)

-- no required argument is missing from these rows
abbrev IsWhole : Shape → List Row → Type 0
IsWhole s rows = list_any (λ a. a.required && not (is_given a.id rows)) s.rules ≡ false

none_missing : (s : Shape) (words : List Text) → s.subcommand_negates_reqs ≡ false → level_fault s [] nothing_held words false [] ≡ [] → IsWhole s (rows_after s.rules [] words)
none_missing s words negates none =
    let rows = rows_after s.rules [] words in
    let wanted = (checks_none _ _ _ (check_none s [] words false [] none)).1 in
    ap (λ b. not (b && false) && list_any (λ (a : Rule). a.required && not (is_given a.id rows)) s.rules) (sym negates) ∙ wanted

abbrev numbered : Option ℕ → Option ℕ → Option ℕ → Option Command
numbered pages log first = option_map (λ numbers. Format numbers) (parsed_numbers pages log first)

format_spells : (s : Shape) (pages log first : Rule) → s.name ≡ codes "format" → s.subcommand_negates_reqs ≡ false → AllByRecursion (IsPlainRule s.rules) s.rules
    → ((x : ℕ) → arg_by_short s.rules x ≡ None) → IsNumber s.rules (codes "pages") 32 pages → IsNumber s.rules (codes "log_bytes") 32 log → IsNumber s.rules (codes "first") 32 first
    → ((rows : List Row) → IsWhole s rows
    → (is_given (codes "pages") rows ≡ true) × (is_given (codes "log_bytes") rows ≡ true) × (is_given (codes "first") rows ≡ true)) → Spells s
format_spells s pages log first name negates plain letters are_pages are_bytes is_first needs words none =
    let rows = rows_after s.rules [] words in
    let all = level_good s plain letters words none in
    let given = needs rows (none_missing s words negates none) in
    let p = number_read s.rules rows (codes "pages") 32 pages are_pages all given.0 in
    let l = number_read s.rules rows (codes "log_bytes") 32 log are_bytes all given.1 in
    let f = number_read s.rules rows (codes "first") 32 first is_first all given.2 in (
      Format (record { pages = p.0; log_bytes = l.0; first = f.0 }),
      ap (λ (t : Text). command_of t rows) name
          ∙ ap (λ o. numbered o (number_in 32 rows (codes "log_bytes")) (number_in 32 rows (codes "first"))) p.1
          ∙ ap (λ o. numbered (Some p.0) o (number_in 32 rows (codes "first"))) l.1
          ∙ ap (λ o. numbered (Some p.0) (Some l.0) o) f.1,
    )

play_spells : (s : Shape) (fresh stop again : Rule) → s.name ≡ codes "play" → AllByRecursion (IsPlainRule s.rules) s.rules → ((x : ℕ) → arg_by_short s.rules x ≡ None)
    → IsNumber s.rules (codes "fresh") 32 fresh → IsNumber s.rules (codes "stop") 64 stop → IsNumber s.rules (codes "again") 64 again → Spells s
play_spells s fresh stop again name plain letters are_pages is_stop is_again words none =
    let rows = rows_after s.rules [] words in
    let all = level_good s plain letters words none in
    let p = given_read s.rules rows (codes "fresh") 32 fresh are_pages all in
    let n = given_read s.rules rows (codes "stop") 64 stop is_stop all in
    let m = given_read s.rules rows (codes "again") 64 again is_again all in (
      Play p.0 (stop_of n.0 m.0),
      ap (λ (t : Text). command_of t rows) name
          ∙ ap (λ o. play_of o (given_in 64 rows (codes "stop")) (given_in 64 rows (codes "again"))) p.1
          ∙ ap (λ o. play_of (Some p.0) o (given_in 64 rows (codes "again"))) n.1
          ∙ ap (λ o. play_of (Some p.0) (Some n.0) o) m.1,
    )

threads_spells : (s : Shape) (fresh tries : Rule) → s.name ≡ codes "threads" → AllByRecursion (IsPlainRule s.rules) s.rules → ((x : ℕ) → arg_by_short s.rules x ≡ None)
    → IsNumber s.rules (codes "fresh") 32 fresh → IsNumber s.rules (codes "tries") 32 tries → Spells s
threads_spells s fresh tries name plain letters are_pages are_tries words none =
    let rows = rows_after s.rules [] words in
    let all = level_good s plain letters words none in
    let p = given_read s.rules rows (codes "fresh") 32 fresh are_pages all in
    let n = given_read s.rules rows (codes "tries") 32 tries are_tries all in (
      Threads p.0 (unwrap_or n.0 1000),
      ap (λ (t : Text). command_of t rows) name ∙ ap (λ o. threads_of o (given_in 32 rows (codes "tries"))) p.1 ∙ ap (λ o. threads_of (Some p.0) o) n.1,
    )

graph_spells : (s : Shape) → s.name ≡ codes "graph" → Spells s
graph_spells s name words none = (Graph, ap (λ (t : Text). command_of t (rows_after s.rules [] words)) name)

load_spells : (s : Shape) (seed count fresh : Rule) → s.name ≡ codes "load" → s.subcommand_negates_reqs ≡ false → AllByRecursion (IsPlainRule s.rules) s.rules
    → ((x : ℕ) → arg_by_short s.rules x ≡ None) → IsNumber s.rules (codes "seed") 32 seed → IsNumber s.rules (codes "count") 32 count → IsNumber s.rules (codes "fresh") 32 fresh
    → ((rows : List Row) → IsWhole s rows → (is_given (codes "seed") rows ≡ true) × (is_given (codes "count") rows ≡ true)) → Spells s
load_spells s seed count fresh name negates plain letters is_seed is_count are_pages needs words none =
    let rows = rows_after s.rules [] words in
    let all = level_good s plain letters words none in
    let given = needs rows (none_missing s words negates none) in
    let x = number_read s.rules rows (codes "seed") 32 seed is_seed all given.0 in
    let n = number_read s.rules rows (codes "count") 32 count is_count all given.1 in
    let p = given_read s.rules rows (codes "fresh") 32 fresh are_pages all in (
      Load x.0 n.0 p.0,
      ap (λ (t : Text). command_of t rows) name
          ∙ ap (λ o. load_of o (number_in 32 rows (codes "count")) (given_in 32 rows (codes "fresh"))) x.1
          ∙ ap (λ o. load_of (Some x.0) o (given_in 32 rows (codes "fresh"))) n.1
          ∙ ap (λ o. load_of (Some x.0) (Some n.0) o) p.1,
    )

given : (b : Bool) → not b ≡ false → b ≡ true
given true e = refl
given false e = cc

all_spell : AllByRecursion Spells (built program).subs
unfolding program
all_spell = (
  format_spells _ _ _ _ refl refl
      (record { own = refl; some_value = refl; set = refl; no_default = refl }, (record { own = refl; some_value = refl; set = refl; no_default = refl }, (record { own = refl; some_value = refl; set = refl; no_default = refl }, tt)))
      (λ x. refl) (refl, signed_number 1 16384 (omega arith)) (refl, signed_number 64 1073741824 (omega arith)) (refl, signed_number 1 4294967295 (omega arith))
      (λ rows whole.
      let first = or_parts (not (is_given (codes "pages") rows)) _ whole in
      let second = or_parts (not (is_given (codes "log_bytes") rows)) _ first.1 in
      let third = or_parts (not (is_given (codes "first") rows)) _ second.1 in
      (given _ first.0, given _ second.0, given _ third.0)),
  (
    play_spells _ _ _ _ refl
        (record { own = refl; some_value = refl; set = refl; no_default = refl }, (record { own = refl; some_value = refl; set = refl; no_default = refl }, (record { own = refl; some_value = refl; set = refl; no_default = refl }, tt)))
        (λ x. refl) (refl, signed_number 1 16384 (omega arith)) (refl, unsigned_number) (refl, unsigned_number),
    (
      threads_spells _ _ _ refl
          (record { own = refl; some_value = refl; set = refl; no_default = refl }, (record { own = refl; some_value = refl; set = refl; no_default = refl }, tt))
          (λ x. refl) (refl, signed_number 1 16384 (omega arith)) (refl, signed_number 1 1000000 (omega arith)),
      (
        graph_spells _ refl,
        (
          load_spells _ _ _ _ refl refl
              (record { own = refl; some_value = refl; set = refl; no_default = refl }, (record { own = refl; some_value = refl; set = refl; no_default = refl }, (record { own = refl; some_value = refl; set = refl; no_default = refl }, tt)))
              (λ x. refl) (refl, signed_number 0 2147483647 (omega arith)) (refl, signed_number 0 100000 (omega arith)) (refl, signed_number 1 16384 (omega arith))
              (λ rows whole.
              let first = or_parts (not (is_given (codes "seed") rows)) _ whole in
              let second = or_parts (not (is_given (codes "count") rows)) _ first.1 in
              (given _ first.0, given _ second.0)),
          tt,
        ),
      ),
    ),
  ),
)

abbrev spelled : Option (Text × List Row) → Option Command
spelled met = option_and_then (λ p. command_of p.0 p.1) met

entered_spells : (b : App) → AllByRecursion Spells b.subs → (stop : Option (Text × List Text)) → entered_fault b stop ≡ [] → is_some (entered b stop) ≡ true
    → (c : Command) × (spelled (entered b stop) ≡ Some c)
entered_spells b all None none some = cc
entered_spells b all (Some p) none some = go (find (λ s. answers_to p.0 (label_of s)) b.subs) refl none some
  where
    go : (of : Option Shape) → find (λ s. answers_to p.0 (label_of s)) b.subs ≡ of → option_map_or (λ s. level_fault s [] nothing_held p.1 false []) of [] ≡ []
        → is_some (option_map (λ s. rows_at s p.1) of) ≡ true → (c : Command) × (spelled (option_map (λ s. rows_at s p.1) of) ≡ Some c)
    go None at n here = cc
    go (Some s) at n here = (found Spells _ b.subs s all at).0 p.1 n

has_one : (has required : Bool) → required ≡ true → (not has && required) ≡ false → has ≡ true
has_one true required asked e = refl
has_one false required asked e = cc

app_spells : (a : App) → AllByRecursion Spells (built a).subs → (built a).top.subcommand_required ≡ true → (words : List Text) → fault_of a words ≡ []
    → (c : Command) × (spelled (subcommand_of a words) ≡ Some c)
app_spells a all required words none =
    let b = built a in
    let stop = stop_after b.top.rules (names_of b) (argument_words a words) in
    let has = is_some (entered b stop) in
    let behind = neither (walk_fault b.top (names_of b) (walk_from nothing_held) (argument_words a words)) _ none in
    let below = neither (entered_fault b stop) _ behind.1 in
    let asked = (checks_none _ _ _ (check_none b.top (names_of b) (argument_words a words) has (entered_fault b stop) none)).0 in
    entered_spells b all stop below.0 (has_one has b.top.subcommand_required required asked)

required : (built program).top.subcommand_required ≡ true
unfolding program
required = refl

-- words that the parser takes spell a command
pub taken_spells : (words : List Text) → IsTaken words → (c : Command) × (command words ≡ Some c)
unfolding command IsTaken
taken_spells words none =
    let given = app_spells program all_spell required words none in
    (given.0, ap (λ (kinds : Kinds). without_fault kinds (spelled (subcommand_of program words))) none ∙ given.1)

-- and it takes the words that spell one
pub spelled_taken : (words : List Text) (c : Command) → command words ≡ Some c → IsTaken words
unfolding command IsTaken
spelled_taken words c e = go (fault_of program words) refl e
  where
    go : (kinds : Kinds) → fault_of program words ≡ kinds → without_fault kinds (spelled (subcommand_of program words)) ≡ Some c → fault_of program words ≡ []
    go [] none is = none
    go (k ∷ ks) some is = cc

-- so it does not take those that spell none
pub none_not_taken : (words : List Text) → command words ≡ None → IsTaken words → ⊥
none_not_taken words none taken =
    let some = (taken_spells words taken).1 in
    cc
