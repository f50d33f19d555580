-- Each record of a seal can follow those before it, and what the state is after them.
use Rattle.std.proofs.Common.{◌≡◌, ℕ, ◌≤◌, ◌+◌, ◌*◌, true, List, [], ◌∷◌, ◌++◌, length, map, max, Option, None, Some, refl, sym, ap, ◌∙◌, subst, arith}
use Rattle.std.specs.Prelude.{Contains, slice_index}
use Rattle.std.proofs.lemmas.Bool.{eq-eqb, le-leb, lt-ltb, and_from}
use Rattle.heap_words.specs.declared.Word.{Word}
use Rattle.heap_words.specs.declared.Word.TheVariants.{Null, Int, Stable, Volatile}
use Rattle.heap_words.specs.Header.{born_in, born_as}
use Rattle.heap_words.specs.Word.{meaning, refers_to_volatile}
use Rattle.heap_spaces.specs.Collection.{owed_by}
use Rattle.log_records.specs.declared.Record.{Record}
use Rattle.log_records.specs.declared.Record.TheVariants.{Base, Fix, Commit}
use Rattle.log_machine.specs.Machine.{State, owed, field_at, is_number, lies_inside, after, after_all, promoted, turned, with_entries, is_promoted_by}
use Rattle.log_machine.proofs.MachineLaws.{after_all-append, after_all-append2, after-Base, after-Fix, after-Commit, IsNextFree}
use Rattle.object_layout.specs.Layout.{field_words, birth_at}
use Rattle.object_layout.proofs.WalkLaws.{Contains-head, Contains-rest}
use Rattle.volatile_area.specs.Area.{AreaState}
use Rattle.graph_words.proofs.Places.Moves.{words_needed}
use Rattle.graph_words.specs.Promotion.{Field, Move, words_taken, moves_to, moved_word, promoted_words, base_of, fix_of, fix_meant}
use Rattle.graph_words.proofs.Promotion.Sealed.{sealed_state}
use Rattle.graph_words.proofs.Places.Moved.{moved_word-stable, moved_words-settled}
use Rattle.graph_words.proofs.Promotion.Fix.{fixes}
use Rattle.graph_words.proofs.Stands.Run.{length-moved_words}
use Rattle.graph_words.proofs.Promotion.Records.{IsPromotable, IsFixable}

-- The state after records that promote `more` words: no write may be taken back that could not be before.
pub record HasGrown (s n : State) (t more : ℕ) : Type 0 where
  pub pages : n.pages ≡ s.pages
  pub base : n.base ≡ s.base
  pub used : n.used ≡ s.used + more
  pub collection : n.collection ≡ s.collection
  pub undo : n.undo ≡ s.undo
  pub commits : n.commits ≡ s.commits
  pub next : max n.next (t + 1) ≡ max s.next (t + 1)

-- Records can follow, and lead to such a state.
pub record Grows (s : State) (t more : ℕ) (records : List Record) : Type 0 where
  pub state : State
  pub reached : after_all s records ≡ Some state
  pub grown : HasGrown s state t more

grown_none : (s : State) (t : ℕ) → HasGrown s s t 0
grown_none s t = record { pages = refl; base = refl; used = omega arith; collection = refl; undo = refl; commits = refl; next = refl }

grown_on : (s m n : State) (t some more : ℕ) → HasGrown s m t some → HasGrown m n t more → HasGrown s n t (some + more)
grown_on s m n t some more one two =
    let used = one.used in
    let used' = two.used in
    record {
      pages = two.pages ∙ one.pages;
      base = two.base ∙ one.base;
      used = omega arith;
      collection = two.collection ∙ one.collection;
      undo = two.undo ∙ one.undo;
      commits = two.commits ∙ one.commits;
      next = two.next ∙ one.next;
    }

grows_none : (s : State) (t : ℕ) → Grows s t 0 []
grows_none s t = record { state = s; reached = refl; grown = grown_none s t }

-- records after records
pub grows_on : (s : State) (t some more : ℕ) (rs records : List Record) (one : Grows s t some rs) → Grows one.state t more records → Grows s t (some + more) (rs ++ records)
grows_on s t some more rs records one two = record {
  state = two.state;
  reached = after_all-append2 s one.state rs records one.reached ∙ two.reached;
  grown = grown_on s one.state two.state t some more one.grown two.grown;
}

one_follows : (s n : State) (r : Record) → after s r ≡ Some n → after_all s (r ∷ []) ≡ Some n
one_follows s n r is = after_all-append s s [] r refl ∙ is

grows_base : (s : State) (area : AreaState) (moves : List Move) (at : ℕ) → is_number area.transaction ≡ true → s.used + words_taken area at + owed s ≤ 64 * s.pages → IsPromotable area moves at
    → Grows s area.transaction (words_taken area at) (base_of area moves (at, s.base + s.used) ∷ [])
grows_base s area moves at number room is =
    let t = area.transaction in
    let ws = promoted_words area moves at in
    let long : length ws ≡ words_taken area at = length-moved_words area moves at in
    let free : IsNextFree s (s.base + s.used) (length ws) = record { at = refl; room = omega arith } in
    let own : is_promoted_by t ws ≡ true =
    and_from _ _ (and_from _ _ (eq-eqb (born_in (birth_at area.words at)) t is.own) (le-leb 1 (born_as (birth_at area.words at)) is.first))
    (moved_words-settled moves (field_words area.words at) is.goes) in
    record {
      state = promoted s t (length ws);
      reached = one_follows s (promoted s t (length ws)) (Base t (s.base + s.used) ws) (after-Base s t (s.base + s.used) ws number free own);
      grown = record { pages = refl; base = refl; used = ap (λ n. s.used + n) long; collection = refl; undo = refl; commits = refl; next = omega arith };
    }

-- the records of objects can follow where the words that are used end, if there is room for them
pub grows_bases : (s : State) (area : AreaState) (moves : List Move) (starts : List ℕ) (address : ℕ) → address ≡ s.base + s.used → is_number area.transaction ≡ true
    → s.used + words_needed area starts + owed s ≤ 64 * s.pages → ((at : ℕ) → Contains starts at → IsPromotable area moves at)
    → Grows s area.transaction (words_needed area starts) (map (base_of area moves) (moves_to area starts address))
grows_bases s area moves [] address end number room each = grows_none s area.transaction
grows_bases s area moves (at ∷ rest) address end number room each =
    let t = area.transaction in
    let first = grows_base s area moves at number (omega arith) (each at (Contains-head at rest)) in
    let n = first.state in
    let pages = first.grown.pages in
    let base = first.grown.base in
    let used = first.grown.used in
    let same_owed = ap owed_by first.grown.collection in
    let later : Grows n t (words_needed area rest) (map (base_of area moves) (moves_to area rest (address + words_taken area at))) =
    grows_bases n area moves rest (address + words_taken area at) (omega arith) number (omega arith) (λ a has. each a (Contains-rest at rest a has)) in
    let Records : ℕ → Type 0 = λ x. Grows s t (words_needed area (at ∷ rest)) (base_of area moves (at, x) ∷ map (base_of area moves) (moves_to area rest (address + words_taken area at))) in
    subst Records (sym end)
    (grows_on s t (words_taken area at) (words_needed area rest) (base_of area moves (at, s.base + s.used) ∷ []) (map (base_of area moves) (moves_to area rest (address + words_taken area at))) first later)

-- the record of a field can follow, if the field lies in the words that are used
grows_fix : (s : State) (t : ℕ) (words : List ℕ) (moves : List Move) (f : Field) (meant : Option Word) → is_number t ≡ true → meaning (slice_index words (field_at f.0 f.1)) ≡ meant
    → IsFixable words moves s.base (s.base + s.used) f → Grows s t 0 (fix_meant t moves f (slice_index words (field_at f.0 f.1)) meant)
grows_fix s t words moves f None number is fixable = grows_none s t
grows_fix s t words moves f (Some Null) number is fixable = grows_none s t
grows_fix s t words moves f (Some (Int n)) number is fixable = grows_none s t
grows_fix s t words moves f (Some (Stable a)) number is fixable = grows_none s t
grows_fix s t words moves f (Some (Volatile at)) number is fixable =
    let word = moved_word moves (slice_index words (field_at f.0 f.1)) in
    let inside : lies_inside s f.0 f.1 ≡ true = and_from _ _ (le-leb s.base f.0 fixable.above) (lt-ltb (field_at f.0 f.1) (s.base + s.used) fixable.below) in
    let stable = moved_word-stable moves (slice_index words (field_at f.0 f.1)) fixable.goes (ap refers_to_volatile is) in
    record {
      state = turned s t s.undo 0;
      reached = one_follows s (turned s t s.undo 0) (Fix t f.0 f.1 word) (after-Fix s t f.0 f.1 word number inside stable);
      grown = record { pages = refl; base = refl; used = omega arith; collection = refl; undo = refl; commits = omega arith; next = omega arith };
    }

-- a field that can be put right can be so where more words are used
pub fixable_on : (words : List ℕ) (moves : List Move) (base end base' end' : ℕ) (f : Field) → base' ≡ base → end ≤ end' → IsFixable words moves base end f → IsFixable words moves base' end' f
fixable_on words moves base end base' end' f same more is =
    let above = is.above in
    let below = is.below in
    record { above = omega arith; below = omega arith; small = is.small; goes = is.goes }

-- so can those of several fields
pub grows_fixes : (s : State) (t : ℕ) (words : List ℕ) (moves : List Move) (fs : List Field) → is_number t ≡ true
    → ((f : Field) → Contains fs f → IsFixable words moves s.base (s.base + s.used) f) → Grows s t 0 (fixes t words moves fs)
grows_fixes s t words moves [] number each = grows_none s t
grows_fixes s t words moves (f ∷ fs) number each =
    let first = grows_fix s t words moves f (meaning (slice_index words (field_at f.0 f.1))) number refl (each f (Contains-head f fs)) in
    let n = first.state in
    let base = first.grown.base in
    let used = first.grown.used in
    let later : Grows n t 0 (fixes t words moves fs) =
    grows_fixes n t words moves fs number (λ g has. fixable_on words moves s.base (s.base + s.used) n.base (n.base + n.used) g base (omega arith) (each g (Contains-rest f fs g has))) in
    grows_on s t 0 0 (fix_of t words moves f) (fixes t words moves fs) first later

sealed_from : (s n : State) (t more : ℕ) → HasGrown s n t more → turned n t (with_entries n.undo t []) 1 ≡ sealed_state s t more
sealed_from s n t more g =
    let undo = g.undo in
    λ i. record { pages = g.pages i; base = g.base i; used = g.used i; collection = g.collection i; undo = with_entries (undo i) t []; commits = g.commits i + 1; next = g.next i }

-- the state after the records of a seal
pub sealed_follows : (s : State) (t need : ℕ) (records : List Record) → is_number t ≡ true → Grows s t need records → after_all s (records ++ Commit t ∷ []) ≡ Some (sealed_state s t need)
sealed_follows s t need records number grows =
    after_all-append s grows.state records (Commit t) grows.reached
    ∙ after-Commit grows.state t number
    ∙ ap Some (sealed_from s grows.state t need grows.grown)
