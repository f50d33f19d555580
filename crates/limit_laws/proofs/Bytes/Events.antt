-- What an event takes in the log for a collection.
use Rattle.std.proofs.Common.{◌≡◌, ◌≢◌, ℕ, zero, suc, ◌+◌, ◌*◌, ◌≤◌, ◌<◌, Bool, true, false, List, [], ◌∷◌, ◌++◌, Option, None, Some, refl, sym, subst, arith}
use Rattle.std.specs.Prelude.{◌||◌, if◌then◌else◌, option_and_then, unwrap_or}
use Rattle.std.specs.List.{list_any, range_with_len}
use Rattle.std.specs.FinSet.{contains}
use Rattle.std.proofs.lemmas.List.Sums.{sum_by-append}
use Rattle.graph_model.specs.declared.event.Event.{Event}
use Rattle.graph_model.specs.declared.event.Event.TheVariants.{Flip, Scan}
use Rattle.graph_model.specs.declared.id.Id.{Id}
use Rattle.graph_model.specs.Graph.{Graph}
use Rattle.graph_model.specs.History.{Account, account}
use Rattle.graph_model.specs.Plain.{view}
use Rattle.graph_model.specs.Transaction.{Transaction, held}
use Rattle.heap_spaces.specs.Collection.{Collection, page_of}
use Rattle.log_records.specs.declared.Record.{Record}
use Rattle.log_records.specs.declared.Record.TheVariants as record_of
use Rattle.log_machine.specs.Machine.{State, after, after_all, spaces_of}
use Rattle.log_machine.proofs.ListLaws.{AllByRecursion-map}
use Rattle.graph_words.specs.Places.{address_of}
use Rattle.page_scanner.specs.Scan.{scan_records}
use Rattle.read_barrier.specs.Barrier.{barrier_page_of}
use Rattle.heap_model.specs.Collecting.{barrier_at, flip_records, flip_records_in, is_gray_in, next_page, page_records, page_records_of, scan_event_records, scan_records_in}
use Rattle.heap_model.specs.Core.{Core, Ground, all_records, all_words, barrier_records, call_barrier, event_records, ground, held_barrier, own_records, roots, state_behind}
use Rattle.heap_model.proofs.Step.Moved.{barrier_by}
use Rattle.limit_laws.specs.Bytes.{begun_by, bytes_of, led_by, moved_by_record}
use Rattle.limit_laws.proofs.Bytes.Rows.{CostAll, IsNoScan, cost_all, cost_scan}
use Rattle.limit_laws.proofs.Events.Kinds.{IsOfTransaction, own_of_transaction, page_scan}
use Rattle.limit_laws.proofs.Progress.Scans.{is_next}

-- Records cost no more than their share.
abbrev AreFair : State → List Record → Type 0
AreFair s rs = (n : State) → after_all s rs ≡ Some n → CostAll s rs n

fair_none : (s : State) → AreFair s []
fair_none s n e = cost_all s n [] tt e

-- the state between two lists of records
Between : State → State → List Record → List Record → Type 0
Between s n rs more = (m : State) × (after_all s rs ≡ Some m) × (after_all m more ≡ Some n)

first_then : (n : State) (rs more : List Record) (o : Option State) → option_and_then (λ next. after_all next (rs ++ more)) o ≡ Some n → ((next : State) → after_all next (rs ++ more) ≡ Some n → Between next n rs more)
    → (m : State) × (option_and_then (λ next. after_all next rs) o ≡ Some m) × (after_all m more ≡ Some n)
unfolding Between
first_then n rs more None e later = absurd (cc e)
first_then n rs more (Some next) e later = later next e

between : (s n : State) (rs more : List Record) → after_all s (rs ++ more) ≡ Some n → Between s n rs more
unfolding Between
between s n [] more e = (s, refl, e)
between s n (r ∷ rs) more e = first_then n rs more (after s r) e (λ next rest. between next n rs more rest)

-- so do records after others that do
pub fair_append : (s n : State) (rs more : List Record) → AreFair s rs → ((m : State) → AreFair m more) → after_all s (rs ++ more) ≡ Some n → CostAll s (rs ++ more) n
unfolding Between
fair_append s n rs more first second e =
    let parts = between s n rs more e in
    let one = first parts.0 parts.1 in
    let two = second parts.0 n parts.2 in
    omega (arith, one, two, sum_by-append bytes_of rs more, sum_by-append moved_by_record rs more, sum_by-append led_by rs more, sum_by-append begun_by rs more)

-- A page.

fair_page : (s : State) (words : List ℕ) (page g : ℕ) (k : Collection) → s.collection ≡ Some k → contains k.gray g ≡ true → page_of g ≡ page → (o : Option (List Record)) → scan_records (spaces_of s) k words page ≡ o
    → AreFair s (unwrap_or o [])
fair_page s words page g k run gray here None is = fair_none s
fair_page s words page g k run gray here (Some records) is = λ n.
    let it = page_scan (spaces_of s) k words page records is in
    subst (λ (rs : List Record). after_all s rs ≡ Some n → CostAll s rs n) it.is (cost_scan s n it.copies page it.writes k g run gray here it.all)

fair_records : (s : State) (words : List ℕ) (page g : ℕ) (k : Collection) → s.collection ≡ Some k → contains k.gray g ≡ true → page_of g ≡ page → AreFair s (page_records s words page)
fair_records s words page g k run gray here =
    subst (λ (o : Option Collection). AreFair s (unwrap_or (page_records_of (spaces_of s) words page o) [])) (sym run) (fair_page s words page g k run gray here (scan_records (spaces_of s) k words page) refl)

-- A number of a range passes a test.
record IsSome (f : ℕ → Bool) (from n : ℕ) : Type 0 where
  x : ℕ
  is : f x ≡ true
  low : from ≤ x
  high : x < from + n

first_or_later : (f : ℕ → Bool) (from n : ℕ) (b : Bool) → f from ≡ b → (b || list_any f (range_with_len (from + 1) n)) ≡ true → (list_any f (range_with_len (from + 1) n) ≡ true → IsSome f (from + 1) n) → IsSome f from (suc n)
first_or_later f from n true here is later = record { x = from; is = here; low = omega arith; high = omega arith }
first_or_later f from n false here is later =
    let rest = later is in
    let low = rest.low in
    let high = rest.high in
    record { x = rest.x; is = rest.is; low = omega arith; high = omega arith }

some_in : (f : ℕ → Bool) (from n : ℕ) → list_any f (range_with_len from n) ≡ true → IsSome f from n
some_in f from zero is = absurd (cc is)
some_in f from (suc n) is = first_or_later f from n (f from) refl is (some_in f (from + 1) n)

fair_at : (s : State) (words : List ℕ) (at i : ℕ) (o : Option Collection) → s.collection ≡ o → (b : Bool) → is_gray_in o (barrier_page_of at i) ≡ b → AreFair s (if b then page_records s words (barrier_page_of at i) else [])
fair_at s words at i o run false gray = fair_none s
fair_at s words at i None run true gray = absurd (cc gray)
fair_at s words at i (Some k) run true gray =
    let page = barrier_page_of at i in
    let there = some_in (contains k.gray) (64 * page) 64 gray in
    let low = there.low in
    let high = there.high in
    fair_records s words page there.x k run there.is (omega arith)

-- The barrier.

fair_barrier_at : (s : State) (words : List ℕ) (o : Option ℕ) (i : ℕ) → AreFair s (barrier_at (Some s) words o i)
fair_barrier_at s words None i = fair_none s
fair_barrier_at s words (Some at) i = fair_at s words at i s.collection refl (is_gray_in s.collection (barrier_page_of at i)) refl

fair_held : (g : Ground) (s : State) (o : Option Id) (i : ℕ) → g.state ≡ Some s → AreFair s (held_barrier g o i)
fair_held g s None i is = fair_none s
fair_held g s (Some id) i is = subst (λ (x : Option State). AreFair s (barrier_at x g.words (address_of g.places id) i)) (sym is) (fair_barrier_at s g.words (address_of g.places id) i)

fair_called : (g : Ground) (s : State) (g0 : Graph) (a : Account) (o : Option Transaction) (h i : ℕ) → g.state ≡ Some s → AreFair s (call_barrier g g0 a o h i)
fair_called g s g0 a None h i is = fair_none s
fair_called g s g0 a (Some t) h i is = fair_held g s (held (view g0 a t).registers h) i is

fair_barrier : (c : Core) (s : State) → state_behind c (all_records c) ≡ Some s → (event : Event) → AreFair s (barrier_records c event)
fair_barrier c s is event = barrier_by (AreFair s) c event (fair_none s) (λ o h i. fair_called (ground c) s c.g0 (account c.history) o h i is)

-- Events.

fair_scan : (s : State) (words : List ℕ) (o : Option Collection) (page : Option ℕ) → s.collection ≡ o → next_page o ≡ page → AreFair s (scan_records_in s words o page)
fair_scan s words None page run next = fair_none s
fair_scan s words (Some k) None run next = λ n e. cost_all s n (record_of.Collected ∷ []) (tt, tt) e
fair_scan s words (Some k) (Some page) run next = let first = is_next k page next in fair_records s words page first.at k run first.gray first.here

fair_flip : (s : State) (words roots : List ℕ) (o : Option State) → AreFair s (flip_records o words roots)
fair_flip s words roots None = fair_none s
fair_flip s words roots (Some x) = by x.collection
  where
    by : (k : Option Collection) → AreFair s (flip_records_in x words roots k)
    by None = λ n e. cost_all s n (flip_records_in x words roots None) (tt, tt) e
    by (Some k) = fair_none s

no_scan_of : (rec : Record) → IsOfTransaction rec → IsNoScan rec
no_scan_of (record_of.Scan page writes) is = is
no_scan_of rec is = tt

plain_fair : (c : Core) (s : State) → state_behind c (all_records c) ≡ Some s → (event : Event) → event ≢ Flip → event ≢ Scan → AreFair s (event_records c event)
plain_fair c s is event other more n e =
    fair_append s n (barrier_records c event) (own_records c event) (fair_barrier c s is event)
    (λ m x rest. cost_all m x (own_records c event) (AllByRecursion-map IsOfTransaction IsNoScan (own_records c event) no_scan_of (own_of_transaction c event other more)) rest) e

-- what an event appends costs no more than its share
pub event_fair : (c : Core) (s n : State) → state_behind c (all_records c) ≡ Some s → (event : Event) → after_all s (event_records c event) ≡ Some n → CostAll s (event_records c event) n
event_fair c s n is Flip e = fair_flip s (all_words c) (roots (ground c) c.g0 (account c.history)) (ground c).state n e
event_fair c s n is Scan e =
    subst (λ (o : Option State). after_all s (scan_event_records o (all_words c)) ≡ Some n → CostAll s (scan_event_records o (all_words c)) n) (sym is)
    (fair_scan s (all_words c) s.collection (next_page s.collection) refl refl n) e
event_fair c s n is event e = plain_fair c s is event (λ never. cc never) (λ never. cc never) n e
