-- The rows of a parse with no fault hold only values that the parser of their argument lets through, where the arguments are plain options and positionals.
use Rattle.std.proofs.Common.{◌≡◌, ◌∙◌, ◌&&◌, ◌++◌, ℕ, Bool, true, false, zero, suc, List, [], ◌∷◌, Option, Some, None, is_some, refl, sym, ap, subst, length, drop}
use Rattle.std.specs.Prelude.{if◌then◌else◌, encode_utf8, find, fold, slice_get, ⊤}
use Rattle.std.specs.List.{AllByRecursion}
use Rattle.std.specs.Option.{option_map_or}
use Rattle.std.specs.Str.{bytes_eq, chars}
use Rattle.std.proofs.lemmas.Bool.{and_from}
use Rattle.std.proofs.lemmas.Slice.Eq.{bytes_eq-Decides}
use Rattle.clap.specs.Lexer.{long_of, short_of}
use Rattle.clap.specs.Facts.{parser_of_value, unwrap_or_range}
use Rattle.clap.specs.Kinds.{Kinds, or_else, range_kinds, values_kinds}
use Rattle.clap.specs.Simple.{Shape}
use Rattle.clap.specs.Takes.{value_passes, values_pass}
use Rattle.clap.specs.Walk as walk
use Rattle.clap.specs.Walk.{Held, Outcome, Row, Rule, Step, Text, Waiting, Walk, action_of, after_flag, after_step, arg_by_id, arg_by_index, arg_by_long, arg_by_short, at_row, attached_value, bundle_met, bundle_step, flag_met, has_row, is_pending, long_met, long_or_other, more_values, most_values, nothing_held, option_met, plain_word, positional_held, reacted, reading_by, rows_after, settled, settled_rows, short_or_plain, subcommand_or_other, takes_several, takes_values, to_positional, used, used_as, used_by_id, values_or_missing, walk_from, walked, walked_from, with_default, with_values, without, word_met}
use Rattle.clap.specs.Faults.{action_fault, bundle_fault, bundle_step_fault, flag_word_fault, flags_fault, level_fault, long_fault, option_fault, other_fault, positional_fault, react_fault, set_fault, settle_fault, step_fault, stray_fault, turn_fault, use_fault, values_fault, walk_fault, word_fault}
use Rattle.clap.specs.declared.builder.action.ArgAction.TheVariants.{Set}
use Rattle.clap.specs.declared.error.kind.ErrorKind.{ErrorKind}
use Rattle.clap.specs.declared.error.kind.ErrorKind.TheVariants as kind
use Rattle.clap.specs.declared.parser.matches.ValueSource.TheVariants.{CommandLine}
use Rattle.clap.proofs.WalkLemmas.{both}

-- neither of two steps has a fault
pub neither : (a b : Kinds) → or_else a b ≡ [] → (a ≡ []) × (b ≡ [])
neither [] b e = (refl, e)
neither (k ∷ ks) b e = cc

pub found : {X : Type 0} (P : X → Type 0) (p : X → Bool) (xs : List X) (a : X) → AllByRecursion P xs → find p xs ≡ Some a → P a × (p a ≡ true)
found P p [] a all e = cc
found {X} P p (x ∷ xs) a all e = go (p x) refl e (found P p xs a all.1)
  where
    go : (b : Bool) → p x ≡ b → (if b then Some x else find p xs) ≡ Some a → (find p xs ≡ Some a → P a × (p a ≡ true)) → P a × (p a ≡ true)
    go true at same rest =
        let here : x ≡ a = cc in
        (subst P here all.0, subst (λ (y : X). p y ≡ true) here at)
    go false at more rest = rest more

all_in : {X : Type 0} (P : X → Type 0) (xs ys : List X) → AllByRecursion P xs → AllByRecursion P ys → AllByRecursion P (xs ++ ys)
all_in P [] ys a b = b
all_in P (x ∷ xs) ys a b = (a.0, all_in P xs ys a.1 b)

-- the argument is the one of its id, takes one value or more, is set by its last use, and has no default
pub record IsPlainRule (c : List Rule) (a : Rule) : Type 0 where
  pub own : arg_by_id c a.id ≡ Some a
  pub some_value : (unwrap_or_range a.range).start_inclusive ≡ 1
  pub set : action_of a ≡ Set
  pub no_default : a.defaults ≡ []

abbrev pub HasValue : List Text → Type 0
HasValue [] = ⊥
HasValue (v ∷ vs) = ⊤

-- the row holds a value or more, all of which its argument takes, and is read as its argument says
abbrev pub Passes : List Rule → Row → Type 0
Passes c r = (a : Rule) → arg_by_id c r.id ≡ Some a → (values_pass a r.values ≡ true) × (r.reading ≡ reading_by a) × HasValue r.values

accepted : (b : Bool) (k : ErrorKind) → (if b then [] else k ∷ []) ≡ [] → b ≡ true
accepted true k e = refl
accepted false k e = cc

values_are : (a : Rule) (values : List Text) → values_fault a values ≡ [] → values_pass a values ≡ true
values_are a [] e = refl
values_are a (v ∷ vs) e =
    let parts = neither _ (values_kinds a.ignore_case (parser_of_value a.parser) vs) e in
    and_from (value_passes a v) (values_pass a vs) (accepted (value_passes a v) _ parts.0) (values_are a vs parts.1)

both_pass : (a : Rule) (xs ys : List Text) → values_pass a xs ≡ true → values_pass a ys ≡ true → values_pass a (xs ++ ys) ≡ true
both_pass a [] ys x y = y
both_pass a (v ∷ vs) ys x y =
    let parts = both (value_passes a v) (values_pass a vs) x in
    and_from (value_passes a v) (values_pass a (vs ++ ys)) parts.0 (both_pass a vs ys parts.1 y)

still_has_value : (xs ys : List Text) → HasValue xs → HasValue (xs ++ ys)
still_has_value [] ys h = absurd h
still_has_value (x ∷ xs) ys h = tt

has_value : (a : Rule) (values : List Text) → (unwrap_or_range a.range).start_inclusive ≡ 1
    → range_kinds (unwrap_or_range a.range).start_inclusive (most_values a) (length values) ≡ [] → HasValue (values_or_missing a values)
has_value a [] one none =
    let bad : kind.InvalidValue ∷ [] ≡ [] = subst (λ (n : ℕ). range_kinds n (most_values a) 0 ≡ []) one none in
    cc
has_value a (v ∷ vs) one none = tt

at_row_good : (P : Row → Type 0) (id : Text) (change : Row → List Row) (missing rows : List Row) → ((r : Row) → bytes_eq r.id id ≡ true → P r → AllByRecursion P (change r))
    → AllByRecursion P missing → AllByRecursion P rows → AllByRecursion P (at_row id change missing rows)
at_row_good P id change missing [] changed new all = new
at_row_good P id change missing (r ∷ rs) changed new all = go (bytes_eq r.id id) refl (at_row_good P id change missing rs changed new all.1)
  where
    go : (b : Bool) → bytes_eq r.id id ≡ b → AllByRecursion P (at_row id change missing rs) → AllByRecursion P (if b then change r ++ rs else r ∷ at_row id change missing rs)
    go true same rest = all_in P (change r) rs (changed r same all.0) all.1
    go false other rest = (all.0, rest)

-- one more use of an argument, with values that pass
set_good : (c : List Rule) (a : Rule) → IsPlainRule c a → (values : List Text) (rows : List Row) → values_pass a values ≡ true → HasValue values → AllByRecursion (Passes c) rows
    → AllByRecursion (Passes c) (with_values a.id (reading_by a) CommandLine values (without a.id rows))
set_good c a plain values rows passes some all =
    at_row_good (Passes c) a.id (more_values CommandLine values) _ (without a.id rows) changed (new, tt)
    (at_row_good (Passes c) a.id (λ r. []) [] rows (λ r same p. tt) tt all)
  where
    own : (b : Rule) → arg_by_id c a.id ≡ Some b → a ≡ b
    own b e = let mine = plain.own in cc

    new : (b : Rule) → arg_by_id c a.id ≡ Some b → (values_pass b values ≡ true) × (reading_by a ≡ reading_by b) × HasValue values
    new b e = (subst (λ (x : Rule). values_pass x values ≡ true) (own b e) passes, ap reading_by (own b e), some)

    changed : (r : Row) → bytes_eq r.id a.id ≡ true → Passes c r → AllByRecursion (Passes c) (more_values CommandLine values r)
    changed r same p = (
      (λ b e.
          let here : arg_by_id c a.id ≡ Some b = ap (arg_by_id c) (sym ((bytes_eq-Decides r.id a.id).0 same)) ∙ e in
          (both_pass b r.values values (p b e).0 (new b here).0, (p b e).1, still_has_value r.values values (p b e).2)),
      tt,
    )

defaults_none : (c : List Rule) (xs : List Rule) (rows : List Row) → AllByRecursion (IsPlainRule c) xs → fold with_default rows xs ≡ rows
defaults_none c [] rows plain = refl
defaults_none c (a ∷ xs) rows plain = ap (λ (rs : List Row). fold with_default rs xs) here ∙ defaults_none c xs rows plain.1
  where
    go : (b : Bool) (defaults : List Text) → defaults ≡ [] → (if b then rows else walk.default_rows a.id (reading_by a) defaults rows) ≡ rows
    go true defaults none = refl
    go false defaults none = ap (λ (ds : List Text). walk.default_rows a.id (reading_by a) ds rows) none

    here : with_default rows a ≡ rows
    here = go (has_row a.id rows) a.defaults plain.0.no_default

-- a command whose arguments are plain, and have no letters
module _ (s : Shape) (plain : AllByRecursion (IsPlainRule s.rules) s.rules) (no_letters : (x : ℕ) → arg_by_short s.rules x ≡ None) where
  abbrev again : Bool
  again = s.args_override_self

  abbrev Good : List Row → Type 0
  Good rows = AllByRecursion (Passes s.rules) rows

  use_good : (a : Rule) (values : List Text) (rows : List Row) → IsPlainRule s.rules a → use_fault again a values rows ≡ [] → Good rows → Good (used a values rows)
  use_good a values rows is none good =
      let parts = neither (range_kinds (unwrap_or_range a.range).start_inclusive (most_values a) (length values)) (action_fault (action_of a) again a (values_or_missing a values) rows) none in
      let set : set_fault again a (values_or_missing a values) rows ≡ [] = ap (λ x. action_fault x again a (values_or_missing a values) rows) (sym is.set) ∙ parts.1 in
      let passes = values_are a (values_or_missing a values) (neither _ (values_fault a (values_or_missing a values)) set).1 in
      subst Good (ap (λ x. used_as x a.id (reading_by a) (values_or_missing a values) rows) (sym is.set))
      (set_good s.rules a is (values_or_missing a values) rows passes (has_value a values is.some_value parts.0) good)

  by_id_good : (id : Text) (values : List Text) (rows : List Row) (of : Option Rule) → arg_by_id s.rules id ≡ of
      → option_map_or (λ a. use_fault again a values rows) of [] ≡ [] → Good rows → Good (used_by_id of values rows)
  by_id_good id values rows None e none good = good
  by_id_good id values rows (Some a) e none good = use_good a values rows (found (IsPlainRule s.rules) _ s.rules a plain e).0 none good

  settled_good : (h : Held) (pending : Option (Text × List Text)) → settle_fault s.rules again (record h { pending = pending }) ≡ [] → Good h.rows
      → Good (settled_rows s.rules pending h.rows)
  settled_good h None none good = good
  settled_good h (Some p) none good = by_id_good p.0 p.1 h.rows (arg_by_id s.rules p.0) refl none good

  reacted_good : (a : Rule) (values : List Text) (h : Held) → IsPlainRule s.rules a → react_fault s.rules again a values h ≡ [] → Good h.rows
      → Good (reacted s.rules a values h).rows
  reacted_good a values h is none good =
      let parts = neither (settle_fault s.rules again h) _ none in
      use_good a values (settled s.rules h).rows is parts.1 (settled_good h h.pending parts.0 good)

  option_good : (a : Rule) (v : Option Text) (h : Held) → IsPlainRule s.rules a → option_fault s.rules again a v h ≡ [] → Good h.rows → Good (option_met s.rules a v h).0.rows
  option_good a (Some v) h is none good = reacted_good a (v ∷ []) h is none good
  option_good a None h is none good = settled_good h h.pending none good

  flag_good : (a : Rule) (v : Option Text) (h : Held) → IsPlainRule s.rules a
      → (if is_some v then kind.TooManyValues ∷ [] else react_fault s.rules again a [] h) ≡ [] → Good h.rows → Good (flag_met s.rules a v h).0.rows
  flag_good a (Some v) h is none good = good
  flag_good a None h is none good = reacted_good a [] h is none good

  long_good : (of : Option Rule) (v : Option Text) (h : Held) → ((a : Rule) → of ≡ Some a → IsPlainRule s.rules a) → long_fault s.rules again of v h ≡ [] → Good h.rows
      → Good (long_met s.rules of v h).0.rows
  long_good None v h is none good = good
  long_good (Some a) v h is none good = go (takes_values a) none
    where
      go : (b : Bool) → (if b then option_fault s.rules again a v h else (if is_some v then kind.TooManyValues ∷ [] else react_fault s.rules again a [] h)) ≡ []
          → Good (if b then option_met s.rules a v h else flag_met s.rules a v h).0.rows
      go true n = option_good a v h (is a refl) n good
      go false n = flag_good a v h (is a refl) n good

  flags_good : (k : ℕ) (flags : Text) (skip : ℕ) (so_far : Outcome) (h : Held) → flags_fault s.rules again k flags skip h ≡ [] → Good h.rows
      → Good (bundle_met s.rules k flags skip so_far h).0.rows
  unfolding flags_fault bundle_met
  flags_good zero flags skip so_far h none good = good
  flags_good (suc k) flags skip so_far h none good = go (slice_get (chars flags) 0) skip none (λ rest left n. flags_good k rest left so_far h n good)
    where
      go : (first : Option ℕ) (skip : ℕ) → bundle_step_fault s.rules again first flags skip h (flags_fault s.rules again k) ≡ []
          → ((rest : Text) (left : ℕ) → flags_fault s.rules again k rest left h ≡ [] → Good (bundle_met s.rules k rest left so_far h).0.rows)
          → Good (bundle_step s.rules first flags skip so_far h (bundle_met s.rules k)).0.rows
      go None skip n rest = good
      go (Some x) zero n rest =
          let left = drop (length (encode_utf8 x)) flags in
          subst (λ (o : Option Rule). Good (walk.short_met s.rules o left h (bundle_met s.rules k left 0 walk.done)).0.rows) (sym (no_letters x)) good
      go (Some x) (suc skip) n rest = rest (drop (length (encode_utf8 x)) flags) skip n

  plain_rows : (waiting : Waiting) (word : Text) (h : Held) → (plain_word s.rules waiting word h).0.rows ≡ h.rows
  plain_rows walk.idle word h = refl
  plain_rows walk.positional word h = refl
  plain_rows (walk.option id) word h = go (arg_by_id s.rules id)
    where
      go : (of : Option Rule) → (walk.option_word of id word h).0.rows ≡ h.rows
      go None = refl
      go (Some a) = refl

  after_flag_rows : (waiting : Waiting) (word : Text) (h : Held) (o : Outcome) → (after_flag s.rules waiting word h o).0.rows ≡ h.rows
  after_flag_rows waiting word h walk.done = refl
  after_flag_rows waiting word h (walk.waits id) = refl
  after_flag_rows waiting word h walk.plain = plain_rows waiting word h
  after_flag_rows waiting word h walk.refused = plain_rows waiting word h

  short_good : (waiting : Waiting) (word : Text) (h : Held) (flags : Option Text) → option_map_or (λ fs. bundle_fault s.rules again fs h) flags [] ≡ [] → Good h.rows
      → Good (short_or_plain s.rules waiting word flags h).0.rows
  short_good waiting word h None none good = subst Good (sym (plain_rows waiting word h)) good
  short_good waiting word h (Some flags) none good =
      subst Good (sym (after_flag_rows waiting word (walk.bundle s.rules flags h).0 (walk.bundle s.rules flags h).1))
      (flags_good (length flags) flags h.skip walk.plain (record h { skip = 0 }) none good)

  flag_word_good : (waiting : Waiting) (word : Text) (h : Held) (long : Option (Text × Option Text)) → flag_word_fault s.rules again long word h ≡ [] → Good h.rows
      → Good (long_or_other s.rules waiting word long h).0.rows
  flag_word_good waiting word h (Some p) none good =
      let of = arg_by_long s.rules p.0 in
      subst Good (sym (after_flag_rows waiting word (long_met s.rules of p.1 h).0 (long_met s.rules of p.1 h).1))
      (long_good of p.1 h (λ a e. (found (IsPlainRule s.rules) _ s.rules a plain e).0) none good)
  flag_word_good waiting word h None none good = short_good waiting word h (short_of word) none good

  other_good : (waiting : Waiting) (position : ℕ) (word : Text) (h : Held) → other_fault s None word h ≡ [] → Good h.rows
      → Good (subcommand_or_other s.rules None waiting position word h).0.rows
  other_good waiting position word h none good = go (bytes_eq word (45 ∷ 45 ∷ [])) none
    where
      go : (b : Bool) → (if b then [] else flag_word_fault s.rules again (long_of word) word h) ≡ []
          → Good (if b then (h, walk.trailing position) else long_or_other s.rules waiting word (long_of word) h).0.rows
      go true n = good
      go false n = flag_word_good waiting word h (long_of word) n good

  word_good : (is_trailing : Bool) (waiting : Waiting) (position : ℕ) (word : Text) (h : Held) → word_fault s [] is_trailing waiting word h ≡ [] → Good h.rows
      → Good (word_met s.rules [] is_trailing waiting position word h).0.rows
  word_good true waiting position word h none good = good
  word_good false walk.idle position word h none good = other_good walk.idle position word h none good
  word_good false walk.positional position word h none good = other_good walk.positional position word h none good
  word_good false (walk.option id) position word h none good = other_good (walk.option id) position word h none good

  placed_good : (a : Rule) (word : Text) (h : Held) → positional_fault s.rules again a h ≡ [] → Good h.rows → Good (positional_held s.rules a word h).rows
  placed_good a word h none good = go (is_pending a h.pending && takes_several a) none
    where
      go : (b : Bool) → (if b then [] else settle_fault s.rules again h) ≡ [] → Good (if b then h else settled s.rules h).rows
      go true n = good
      go false n = settled_good h h.pending n good

  step_good : (word : Text) (w : Walk) (h : Held) (step : Step) → step_fault s w.position h step ≡ [] → Good h.rows → Good (after_step s.rules word w h step).held.rows
  step_good word w h (walk.next waiting) none good = good
  step_good word w h (walk.trailing position) none good = good
  step_good word w h (walk.subcommand name) none good = good
  step_good word w h walk.value none good = go (arg_by_index s.rules w.position) none
    where
      go : (of : Option Rule) → option_map_or (λ a. positional_fault s.rules again a h) of (stray_fault s) ≡ [] → Good (to_positional s.rules of word w h).held.rows
      go None n = good
      go (Some a) n = placed_good a word h n good

  walked_good : (w : Walk) (word : Text) → turn_fault s [] w word ≡ [] → Good w.held.rows → Good (walked s.rules [] w word).held.rows
  unfolding walked
  walked_good w word none good = go w.stopped none
    where
      met : Held × Step
      met = word_met s.rules [] w.is_trailing w.waiting w.position word w.held

      go : (stopped : Option (Text × List Text))
          → (if is_some stopped then [] else or_else (word_fault s [] w.is_trailing w.waiting word w.held) (step_fault s w.position met.0 met.1)) ≡ []
          → Good (walked_from s.rules [] stopped w word).held.rows
      go (Some p) n = good
      go None n =
          let parts = neither _ (step_fault s w.position met.0 met.1) n in
          step_good word w met.0 met.1 parts.1 (word_good w.is_trailing w.waiting w.position word w.held parts.0 good)

  walk_good : (words : List Text) (w : Walk) → walk_fault s [] w words ≡ [] → Good w.held.rows → Good (fold (walked s.rules []) w words).held.rows
  unfolding walk_fault
  walk_good [] w none good = good
  walk_good (word ∷ words) w none good =
      let parts = neither (turn_fault s [] w word) (walk_fault s [] (walked s.rules [] w word) words) none in
      walk_good words (walked s.rules [] w word) parts.1 (walked_good w word parts.0 good)

  -- the rows of words that have no fault hold what their arguments take
  pub level_good : (words : List Text) → level_fault s [] nothing_held words false [] ≡ [] → AllByRecursion (Passes s.rules) (rows_after s.rules [] words)
  level_good words none =
      let end = (walk.walk s.rules [] nothing_held words).held in
      let first = neither (walk_fault s [] (walk_from nothing_held) words) _ none in
      let second = neither (settle_fault s.rules again end) _ first.1 in
      subst Good (sym (defaults_none s.rules s.rules (settled s.rules end).rows plain))
      (settled_good end end.pending second.0 (walk_good words (walk_from nothing_held) first.0 tt))
