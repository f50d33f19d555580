-- Each command that words spell is within the limits of the table.
use Rattle.std.proofs.Common.{◌≡◌, ◌∙◌, ◌<◌, ◌≤◌, ◌^◌, ℕ, true, false, List, [], ◌∷◌, Option, Some, None, refl, sym, ap, subst, codes, arith}
use Rattle.std.specs.Prelude.{IfSome, find, option_and_then, option_map, pos, slice_get, unwrap_or}
use Rattle.std.specs.List.{AllByRecursion}
use Rattle.std.specs.Option.{option_map_or}
use Rattle.std.specs.Str.{bytes_eq}
use Rattle.std.specs.Str.Parse.{ParsesUnsigned}
use Rattle.std.proofs.lemmas.Slice.Eq.{bytes_eq-Decides}
use Rattle.clap.specs.Facts.{parser_of_value}
use Rattle.clap.specs.Faults.{entered_fault, fault_of, level_fault, walk_fault}
use Rattle.clap.specs.Kinds.{Kinds}
use Rattle.clap.specs.Lexer.{without_minus}
use Rattle.clap.specs.Simple.{App, Shape, argument_words, built, entered, label_of, names_of, rows_at, subcommand_of}
use Rattle.clap.specs.Takes.{value_passes, values_pass}
use Rattle.clap.specs.ValueTests.{accepts}
use Rattle.clap.specs.Values.{IsSignedIn, read_as, reading_of}
use Rattle.clap.specs.Walk.{Row, Rule, Text, answers_to, arg_by_id, arg_by_short, nothing_held, one_of, row_text, rows_after, stop_after, walk_from}
use Rattle.clap.specs.declared.builder.value_parser.Reading.{Reading}
use Rattle.clap.specs.declared.builder.value_parser.ValueParser.{ValueParser}
use Rattle.clap.specs.declared.builder.value_parser.ValueParser.TheVariants as vp
use Rattle.clap.proofs.CallerReads.{signed_reads}
use Rattle.clap.proofs.ValueTestLemmas.{accepts-Accepts}
use Rattle.clap.proofs.WalkLemmas.{both}
use Rattle.command_words.specs.Command.{command, command_of, given_in, given_of, load_of, number_in, parsed_number, parsed_numbers, play_of, stop_of, threads_of, without_fault}
use Rattle.command_words.proofs.NumberLaws.{number_fits, parses}
use Rattle.command_words.specs.Limits.{IsPages, IsStop, IsWithin}
use Rattle.command_words.proofs.RowLaws.{IsPlainRule, Passes, found, level_good, neither}
use Rattle.command_words.specs.Table.{program}
use Rattle.command_words.specs.declared.commands.Command.{Command}
use Rattle.command_words.specs.declared.commands.Command.TheVariants.{Format, Graph, Load, Play, Threads}

-- ---- the number in a row

-- the argument of that id takes the numbers from low to high
abbrev IsNumber : List Rule → Text → ℕ → ℕ → Rule → Type 0
IsNumber c id low high a = (arg_by_id c id ≡ Some a) × (parser_of_value a.parser ≡ vp.Signed (pos low) (pos high))

number_within : (c : List Rule) (rows : List Row) (id : Text) (low high n : ℕ) (a : Rule) → IsNumber c id low high a → high < 2 ^ 32 → AllByRecursion (Passes c) rows
    → number_in 32 rows id ≡ Some n → (low ≤ n) × (n ≤ high)
number_within c rows id low high n a is fits all e = go (find (λ r. bytes_eq r.id id) rows) refl e
  where
    first : (how : Reading) (values : List Text) → how ≡ reading_of (vp.Signed (pos low) (pos high)) → values_pass a values ≡ true
        → option_and_then (parsed_number 32) (option_map (read_as how) (slice_get values 0)) ≡ Some n → (low ≤ n) × (n ≤ high)
    first how [] reads passes e = cc
    first how (v ∷ vs) reads passes e =
        let passed : accepts a.ignore_case (parser_of_value a.parser) v ≡ true = (both (value_passes a v) (values_pass a vs) passes).0 in
        let here : accepts a.ignore_case (vp.Signed (pos low) (pos high)) v ≡ true = subst (λ (p : ValueParser). accepts a.ignore_case p v ≡ true) is.1 passed in
        let in_range : IsSignedIn (pos low) (pos high) v = accepts-Accepts a.ignore_case (vp.Signed (pos low) (pos high)) v here in
        let number : parsed_number 32 (without_minus v) ≡ Some n = ap (λ (r : Reading). parsed_number 32 (read_as r v)) (sym reads) ∙ e in
        let got = signed_reads ℕ (λ t r. ParsesUnsigned 32 10 t r) 32 low high v (Some n) (parses 32 (without_minus v) n number) (λ u x g. g) fits in_range in
        let same : n ≡ got.0 = let some = got.1 in cc in
        (rw same got.2, rw same got.3)

    go : (of : Option Row) → find (λ r. bytes_eq r.id id) rows ≡ of → option_and_then (parsed_number 32) (option_and_then row_text of) ≡ Some n → (low ≤ n) × (n ≤ high)
    go None at e = cc
    go (Some r) at e =
        let here = found (Passes c) _ rows r all at in
        let own = here.0 a (ap (arg_by_id c) ((bytes_eq-Decides r.id id).0 here.1) ∙ is.0) in
        first r.reading r.values (own.1 ∙ ap reading_of is.1) own.0 e

-- ---- the commands

-- words that have no fault at a command spell one that is within the limits
abbrev SpellsWithin : Shape → Type 0
SpellsWithin s = (words : List Text) → level_fault s [] nothing_held words false [] ≡ [] → (c : Command) → command_of s.name (rows_after s.rules [] words) ≡ Some c → IsWithin c

pages_within : (c : List Rule) (rows : List Row) (id : Text) (a : Rule) (number : Option ℕ) → IsNumber c id 1 16384 a → AllByRecursion (Passes c) rows → number_in 32 rows id ≡ number
    → IfSome number IsPages
pages_within c rows id a None is all e = tt
pages_within c rows id a (Some n) is all e = number_within c rows id 1 16384 n a is (omega arith) all e

format_within : (s : Shape) (pages log first : Rule) → s.name ≡ codes "format" → AllByRecursion (IsPlainRule s.rules) s.rules → ((x : ℕ) → arg_by_short s.rules x ≡ None)
    → IsNumber s.rules (codes "pages") 1 16384 pages → IsNumber s.rules (codes "log_bytes") 64 1073741824 log → IsNumber s.rules (codes "first") 1 4294967295 first → SpellsWithin s
format_within s pages log first name plain letters are_pages are_bytes is_first words none c e =
    go (number_in 32 rows (codes "pages")) (number_in 32 rows (codes "log_bytes")) (number_in 32 rows (codes "first")) refl refl refl
    (ap (λ (t : Text). command_of t rows) (sym name) ∙ e)
  where
    rows : List Row
    rows = rows_after s.rules [] words

    all : AllByRecursion (Passes s.rules) (rows_after s.rules [] words)
    all = level_good s plain letters words none

    go : (p l f : Option ℕ) → number_in 32 (rows_after s.rules [] words) (codes "pages") ≡ p → number_in 32 (rows_after s.rules [] words) (codes "log_bytes") ≡ l
        → number_in 32 (rows_after s.rules [] words) (codes "first") ≡ f → option_map (λ numbers. Format numbers) (parsed_numbers p l f) ≡ Some c → IsWithin c
    go None l f a b d is = cc
    go (Some p) None f a b d is = cc
    go (Some p) (Some l) None a b d is = cc
    go (Some p) (Some l) (Some f) a b d is =
        let p_in = number_within s.rules (rows_after s.rules [] words) (codes "pages") 1 16384 p pages are_pages (omega arith) all a in
        let l_in = number_within s.rules (rows_after s.rules [] words) (codes "log_bytes") 64 1073741824 l log are_bytes (omega arith) all b in
        let f_in = number_within s.rules (rows_after s.rules [] words) (codes "first") 1 4294967295 f first is_first (omega arith) all d in
        let same : Format (record { pages = p; log_bytes = l; first = f }) ≡ c = cc in
        subst IsWithin same (record {
          some_page = p_in.0;
          most_pages = p_in.1;
          least_log = l_in.0;
          most_log = l_in.1;
          some_first = f_in.0;
          most_first = omega arith;
        })

given_is_in : (bits : ℕ) (rows : List Row) (id : Text) (number : Option ℕ) → given_in bits rows id ≡ Some number → number_in bits rows id ≡ number
given_is_in bits rows id number e = go (one_of id rows) e
  where
    there : (read : Option ℕ) → option_map (λ n. Some n) read ≡ Some number → read ≡ number
    there None is = cc
    there (Some n) is = cc

    go : (text : Option Text) → given_of bits text ≡ Some number → option_and_then (parsed_number bits) text ≡ number
    go None is = cc
    go (Some text) is = there (parsed_number bits text) is

stop_within : (rows : List Row) (after again : Option ℕ) → number_in 64 rows (codes "stop") ≡ after → number_in 64 rows (codes "again") ≡ again → IfSome (stop_of after again) IsStop
stop_within rows None None a b = tt
stop_within rows None (Some m) a b = (omega arith, number_fits 64 rows (codes "again") m b)
stop_within rows (Some n) None a b = (number_fits 64 rows (codes "stop") n a, tt)
stop_within rows (Some n) (Some m) a b = (number_fits 64 rows (codes "stop") n a, number_fits 64 rows (codes "again") m b)

play_within : (s : Shape) (fresh : Rule) → s.name ≡ codes "play" → AllByRecursion (IsPlainRule s.rules) s.rules → ((x : ℕ) → arg_by_short s.rules x ≡ None)
    → IsNumber s.rules (codes "fresh") 1 16384 fresh → SpellsWithin s
play_within s fresh name plain letters are_pages words none c e =
    go (given_in 32 rows (codes "fresh")) (given_in 64 rows (codes "stop")) (given_in 64 rows (codes "again")) refl refl refl
    (ap (λ (t : Text). command_of t rows) (sym name) ∙ e)
  where
    rows : List Row
    rows = rows_after s.rules [] words

    go : (p n m : Option (Option ℕ)) → given_in 32 (rows_after s.rules [] words) (codes "fresh") ≡ p → given_in 64 (rows_after s.rules [] words) (codes "stop") ≡ n
        → given_in 64 (rows_after s.rules [] words) (codes "again") ≡ m → play_of p n m ≡ Some c → IsWithin c
    go None n m a b d is = cc
    go (Some p) None m a b d is = cc
    go (Some p) (Some n) None a b d is = cc
    go (Some p) (Some n) (Some m) a b d is =
        let same : Play p (stop_of n m) ≡ c = cc in
        subst IsWithin same (
          pages_within s.rules (rows_after s.rules [] words) (codes "fresh") fresh p are_pages (level_good s plain letters words none)
              (given_is_in 32 (rows_after s.rules [] words) (codes "fresh") p a),
          stop_within (rows_after s.rules [] words) n m (given_is_in 64 (rows_after s.rules [] words) (codes "stop") n b)
              (given_is_in 64 (rows_after s.rules [] words) (codes "again") m d),
        )

tries_within : (c : List Rule) (rows : List Row) (a : Rule) (number : Option ℕ) → IsNumber c (codes "tries") 1 1000000 a → AllByRecursion (Passes c) rows → number_in 32 rows (codes "tries") ≡ number
    → (1 ≤ unwrap_or number 1000) × (unwrap_or number 1000 ≤ 1000000)
tries_within c rows a None is all e = (omega arith, omega arith)
tries_within c rows a (Some n) is all e = number_within c rows (codes "tries") 1 1000000 n a is (omega arith) all e

threads_within : (s : Shape) (fresh tries : Rule) → s.name ≡ codes "threads" → AllByRecursion (IsPlainRule s.rules) s.rules → ((x : ℕ) → arg_by_short s.rules x ≡ None)
    → IsNumber s.rules (codes "fresh") 1 16384 fresh → IsNumber s.rules (codes "tries") 1 1000000 tries → SpellsWithin s
threads_within s fresh tries name plain letters are_pages are_tries words none c e =
    go (given_in 32 rows (codes "fresh")) (given_in 32 rows (codes "tries")) refl refl (ap (λ (t : Text). command_of t rows) (sym name) ∙ e)
  where
    rows : List Row
    rows = rows_after s.rules [] words

    all : AllByRecursion (Passes s.rules) (rows_after s.rules [] words)
    all = level_good s plain letters words none

    go : (p n : Option (Option ℕ)) → given_in 32 (rows_after s.rules [] words) (codes "fresh") ≡ p → given_in 32 (rows_after s.rules [] words) (codes "tries") ≡ n → threads_of p n ≡ Some c → IsWithin c
    go None n a b is = cc
    go (Some p) None a b is = cc
    go (Some p) (Some n) a b is =
        let same : Threads p (unwrap_or n 1000) ≡ c = cc in
        let within = tries_within s.rules (rows_after s.rules [] words) tries n are_tries all (given_is_in 32 (rows_after s.rules [] words) (codes "tries") n b) in
        subst IsWithin same (
          pages_within s.rules (rows_after s.rules [] words) (codes "fresh") fresh p are_pages all (given_is_in 32 (rows_after s.rules [] words) (codes "fresh") p a),
          within.0,
          within.1,
        )

graph_within : (s : Shape) → s.name ≡ codes "graph" → SpellsWithin s
graph_within s name words none c e =
    let spelled : command_of (codes "graph") (rows_after s.rules [] words) ≡ Some c = ap (λ (t : Text). command_of t (rows_after s.rules [] words)) (sym name) ∙ e in
    let same : Graph ≡ c = cc in
    subst IsWithin same tt

load_within : (s : Shape) (seed count fresh : Rule) → s.name ≡ codes "load" → AllByRecursion (IsPlainRule s.rules) s.rules → ((x : ℕ) → arg_by_short s.rules x ≡ None)
    → IsNumber s.rules (codes "seed") 0 2147483647 seed → IsNumber s.rules (codes "count") 0 100000 count → IsNumber s.rules (codes "fresh") 1 16384 fresh → SpellsWithin s
load_within s seed count fresh name plain letters is_seed is_count are_pages words none c e =
    go (number_in 32 rows (codes "seed")) (number_in 32 rows (codes "count")) (given_in 32 rows (codes "fresh")) refl refl refl
    (ap (λ (t : Text). command_of t rows) (sym name) ∙ e)
  where
    rows : List Row
    rows = rows_after s.rules [] words

    all : AllByRecursion (Passes s.rules) (rows_after s.rules [] words)
    all = level_good s plain letters words none

    go : (x n : Option ℕ) (p : Option (Option ℕ)) → number_in 32 (rows_after s.rules [] words) (codes "seed") ≡ x → number_in 32 (rows_after s.rules [] words) (codes "count") ≡ n
        → given_in 32 (rows_after s.rules [] words) (codes "fresh") ≡ p → load_of x n p ≡ Some c → IsWithin c
    go None n p a b d is = cc
    go (Some x) None p a b d is = cc
    go (Some x) (Some n) None a b d is = cc
    go (Some x) (Some n) (Some p) a b d is =
        let x_in = number_within s.rules (rows_after s.rules [] words) (codes "seed") 0 2147483647 x seed is_seed (omega arith) all a in
        let n_in = number_within s.rules (rows_after s.rules [] words) (codes "count") 0 100000 n count is_count (omega arith) all b in
        let same : Load x n p ≡ c = cc in
        subst IsWithin same (
          omega arith,
          n_in.1,
          pages_within s.rules (rows_after s.rules [] words) (codes "fresh") fresh p are_pages all (given_is_in 32 (rows_after s.rules [] words) (codes "fresh") p d),
        )

all_within : AllByRecursion SpellsWithin (built program).subs
unfolding program
all_within = (
  format_within _ _ _ _ refl
      (record { own = refl; some_value = refl; set = refl; no_default = refl }, (record { own = refl; some_value = refl; set = refl; no_default = refl }, (record { own = refl; some_value = refl; set = refl; no_default = refl }, tt)))
      (λ x. refl) (refl, refl) (refl, refl) (refl, refl),
  (
    play_within _ _ refl
        (record { own = refl; some_value = refl; set = refl; no_default = refl }, (record { own = refl; some_value = refl; set = refl; no_default = refl }, (record { own = refl; some_value = refl; set = refl; no_default = refl }, tt)))
        (λ x. refl) (refl, refl),
    (
      threads_within _ _ _ refl
          (record { own = refl; some_value = refl; set = refl; no_default = refl }, (record { own = refl; some_value = refl; set = refl; no_default = refl }, tt))
          (λ x. refl) (refl, refl) (refl, refl),
      (
        graph_within _ refl,
        (
          load_within _ _ _ _ refl
              (record { own = refl; some_value = refl; set = refl; no_default = refl }, (record { own = refl; some_value = refl; set = refl; no_default = refl }, (record { own = refl; some_value = refl; set = refl; no_default = refl }, tt)))
              (λ x. refl) (refl, refl) (refl, refl) (refl, refl),
          tt,
        ),
      ),
    ),
  ),
)

-- ---- the words

abbrev spelled : Option (Text × List Row) → Option Command
spelled met = option_and_then (λ p. command_of p.0 p.1) met

entered_within : (b : App) → AllByRecursion SpellsWithin b.subs → (stop : Option (Text × List Text)) (c : Command) → entered_fault b stop ≡ [] → spelled (entered b stop) ≡ Some c
    → IsWithin c
entered_within b all None c none e = cc
entered_within b all (Some p) c none e = go (find (λ s. answers_to p.0 (label_of s)) b.subs) refl none e
  where
    go : (of : Option Shape) → find (λ s. answers_to p.0 (label_of s)) b.subs ≡ of → option_map_or (λ s. level_fault s [] nothing_held p.1 false []) of [] ≡ []
        → spelled (option_map (λ s. rows_at s p.1) of) ≡ Some c → IsWithin c
    go None at n e = cc
    go (Some s) at n e = (found SpellsWithin _ b.subs s all at).0 p.1 n c e

app_within : (a : App) → AllByRecursion SpellsWithin (built a).subs → (words : List Text) (c : Command) → fault_of a words ≡ [] → spelled (subcommand_of a words) ≡ Some c → IsWithin c
app_within a all words c none e =
    let b = built a in
    let stop = stop_after b.top.rules (names_of b) (argument_words a words) in
    let behind = neither (walk_fault b.top (names_of b) (walk_from nothing_held) (argument_words a words)) _ none in
    let below = neither (entered_fault b stop) _ behind.1 in
    entered_within b all stop c below.0 e

-- what words spell is within the limits
pub command_within : (words : List Text) (c : Command) → command words ≡ Some c → IsWithin c
unfolding command
command_within words c e = go (fault_of program words) refl e
  where
    go : (kinds : Kinds) → fault_of program words ≡ kinds → without_fault kinds (spelled (subcommand_of program words)) ≡ Some c → IsWithin c
    go [] none e = app_within program all_within words c none e
    go (k ∷ ks) none e = cc
