-- Which gray addresses a step leaves: none below those that were there, and none in the page that was scanned or before it.
use Rattle.std.proofs.Common.{◌≡◌, ◌≢◌, ◌⊎◌, inl, inr, ℕ, zero, suc, ◌+◌, ◌*◌, ◌≤◌, Bool, true, false, List, [], ◌∷◌, ◌++◌, Option, Some, None, refl, sym, ap, ◌∙◌, subst, arith}
use Rattle.std.specs.Prelude.{◌||◌, fold, min, if◌then◌else◌}
use Rattle.std.specs.List.{AllByRecursion, list_any, range_with_len}
use Rattle.std.specs.Option.{option_map}
use Rattle.std.specs.Cmp.{unsigned_tied}
use Rattle.std.proofs.lemmas.Bool.{eqb-true}
use Rattle.std.specs.Ordering.{eq_by_cmp, nat_cmp}
use Rattle.std.specs.FinSet.{contains, contains-items, items}
use Rattle.std.proofs.lemmas.Option.{same_Some}
use Rattle.graph_model.specs.declared.event.Event.{Event}
use Rattle.graph_model.specs.declared.event.Event.TheVariants.{Flip, Scan}
use Rattle.graph_model.specs.declared.id.Id.{Id}
use Rattle.graph_model.specs.Graph.{Graph}
use Rattle.graph_model.specs.History.{Account, account}
use Rattle.graph_model.specs.Plain.{view}
use Rattle.graph_model.specs.Transaction.{Transaction, held}
use Rattle.heap_spaces.specs.Collection.{Collection, page_of}
use Rattle.log_records.specs.declared.Record.{Record}
use Rattle.log_records.specs.declared.Record.TheVariants.{Copy}
use Rattle.log_records.specs.declared.Record.TheVariants as record_of
use Rattle.log_machine.specs.Machine.{State, after_all}
use Rattle.log_machine.proofs.ListLaws.{AllByRecursion-append, AllByRecursion-map}
use Rattle.graph_words.specs.Places.{address_of}
use Rattle.collection_words.proofs.Laid.Underway.{underway}
use Rattle.collection_words.proofs.Laid.Within.{start_within}
use Rattle.read_barrier.specs.Barrier.{barrier_page_of}
use Rattle.heap_model.specs.Collecting.{barrier_at, is_gray_in, least_of, next_page, page_records, scan_event_records, scan_records_in}
use Rattle.heap_model.specs.Core.{Core, Ground, all_records, all_words, barrier_records, call_barrier, event_records, ground, held_barrier, own_records, state_behind}
use Rattle.heap_model.proofs.Step.Moved.{barrier_by}
use Rattle.core_laws.proofs.Collecting.Least.{IsAmong, either, least_among, least_below, least_first, or_first, or_second, tied}
use Rattle.core_laws.specs.Valid.{Agrees}
use Rattle.limit_laws.proofs.Events.Kinds.{IsOfScan, IsOfTransaction, IsNoCopy, IsNoFlip, barrier_of_scan, no_flip_scan, own_of_transaction, scan_kinds}
use Rattle.limit_laws.proofs.Progress.Rows.{GrayFrom, from_after_all, gray_after_all}

-- The next page.

-- Where a page is next, a gray object starts there, and none before it.
pub record IsNext (k : Collection) (page : ℕ) : Type 0 where
  pub at : ℕ
  pub gray : contains k.gray at ≡ true
  pub here : page_of at ≡ page
  pub first : (q : ℕ) → contains k.gray q ≡ true → at ≤ q

among_either : (x : ℕ) (xs : List ℕ) → (fold min x xs ≡ x) ⊎ IsAmong (fold min x xs) xs → IsAmong (fold min x xs) (x ∷ xs)
among_either x xs (inl first) = or_first (eq_by_cmp nat_cmp (fold min x xs) x) (list_any (eq_by_cmp nat_cmp (fold min x xs)) xs) (tied (fold min x xs) x first)
among_either x xs (inr later) = or_second (eq_by_cmp nat_cmp (fold min x xs) x) (list_any (eq_by_cmp nat_cmp (fold min x xs)) xs) later

below_all : (x : ℕ) (xs : List ℕ) (q : ℕ) → IsAmong q (x ∷ xs) → fold min x xs ≤ q
below_all x xs q among =
    either (eq_by_cmp nat_cmp q x) (list_any (eq_by_cmp nat_cmp q) xs) (fold min x xs ≤ q) among
    (λ tie. let same = eqb-true q x (sym (unsigned_tied q x) ∙ tie) in let less = least_first x xs in omega (arith, same, less))
    (λ later. least_below x xs q later)

next_of : (k : Collection) (page : ℕ) (xs : List ℕ) → items k.gray ≡ xs → option_map page_of (least_of xs) ≡ Some page → IsNext k page
next_of k page [] all next = absurd (cc next)
next_of k page (x ∷ xs) all next =
    let at = fold min x xs in
    record {
      at = at;
      gray = contains-items k.gray at ∙ ap (list_any (eq_by_cmp nat_cmp at)) all ∙ among_either x xs (least_among x xs at refl);
      here = same_Some (page_of at) page next;
      first = λ q gray. below_all x xs q (sym (contains-items k.gray q ∙ ap (list_any (eq_by_cmp nat_cmp q)) all) ∙ gray);
    }

pub is_next : (k : Collection) (page : ℕ) → next_page (Some k) ≡ Some page → IsNext k page
is_next k page next = next_of k page (items k.gray) refl next

none_in : (k : Collection) (xs : List ℕ) → items k.gray ≡ xs → option_map page_of (least_of xs) ≡ None → (q : ℕ) → contains k.gray q ≡ false
none_in k [] all none q = contains-items k.gray q ∙ ap (list_any (eq_by_cmp nat_cmp q)) all
none_in k (x ∷ xs) all none q = absurd (cc none)

-- where no page is next nothing is gray
pub nothing_gray : (k : Collection) → next_page (Some k) ≡ None → (q : ℕ) → contains k.gray q ≡ false
nothing_gray k none q = none_in k (items k.gray) refl none q

-- Events where nothing is gray.

-- nothing is gray in a page, where nothing is gray at all
pub none_any : (f : ℕ → Bool) (from n : ℕ) → ((q : ℕ) → f q ≡ false) → list_any f (range_with_len from n) ≡ false
none_any f from zero none = refl
none_any f from (suc n) none = ap (λ b. b || list_any f (range_with_len (from + 1) n)) (none from) ∙ none_any f (from + 1) n none

-- so the barrier appends nothing

abbrev AreNoneGray : Option Collection → Type 0
AreNoneGray o = (page : ℕ) → is_gray_in o page ≡ false

at_nothing : (s : State) (words : List ℕ) (o : Option ℕ) (i : ℕ) → AreNoneGray s.collection → barrier_at (Some s) words o i ≡ []
at_nothing s words None i none = refl
at_nothing s words (Some at) i none = ap (λ b. if b then page_records s words (barrier_page_of at i) else []) (none (barrier_page_of at i))

held_nothing : (g : Ground) (s : State) (o : Option Id) (i : ℕ) → g.state ≡ Some s → AreNoneGray s.collection → held_barrier g o i ≡ []
held_nothing g s None i is none = refl
held_nothing g s (Some id) i is none = ap (λ x. barrier_at x g.words (address_of g.places id) i) is ∙ at_nothing s g.words (address_of g.places id) i none

called_nothing : (g : Ground) (s : State) (g0 : Graph) (a : Account) (o : Option Transaction) (h i : ℕ) → g.state ≡ Some s → AreNoneGray s.collection → call_barrier g g0 a o h i ≡ []
called_nothing g s g0 a None h i is none = refl
called_nothing g s g0 a (Some t) h i is none = held_nothing g s (held (view g0 a t).registers h) i is none

barrier_nothing : (c : Core) (s : State) → state_behind c (all_records c) ≡ Some s → AreNoneGray s.collection → (event : Event) → barrier_records c event ≡ []
barrier_nothing c s is none event = barrier_by (λ rs. rs ≡ []) c event refl (λ o h i. called_nothing (ground c) s c.g0 (account c.history) o h i is none)

-- and a scan ends the collection, if one runs
scan_ends : (s : State) (words : List ℕ) (o : Option Collection) (page : Option ℕ) → page ≡ None → AllByRecursion IsNoCopy (scan_records_in s words o page)
scan_ends s words None page none = tt
scan_ends s words (Some k) None none = (tt, tt)
scan_ends s words (Some k) (Some page) none = absurd (cc none)

no_copy_of : (rec : Record) → IsOfTransaction rec → IsNoCopy rec
no_copy_of (Copy from to words) is = absurd is
no_copy_of (record_of.Flip copies) is = absurd is
no_copy_of rec is = tt

-- so no event copies an object then, but a flip
no_copies : (c : Core) (s : State) → state_behind c (all_records c) ≡ Some s → AreNoneGray s.collection → next_page s.collection ≡ None → (event : Event) → event ≢ Flip → AllByRecursion IsNoCopy (event_records c event)
no_copies c s is none next event other = by (cases event) where
  cases : (e : Event) → (e ≡ Scan) ⊎ (e ≢ Scan)
  cases Scan = inl refl
  cases e = inr (λ same. cc same)

  by : (event ≡ Scan) ⊎ (event ≢ Scan) → AllByRecursion IsNoCopy (event_records c event)
  by (inl scan) = subst (λ (e : Event). AllByRecursion IsNoCopy (event_records c e)) (sym scan)
      (subst (λ (o : Option State). AllByRecursion IsNoCopy (scan_event_records o (all_words c))) (sym is) (scan_ends s (all_words c) s.collection (next_page s.collection) next))
  by (inr more) =
      subst (λ (rs : List Record). AllByRecursion IsNoCopy (rs ++ own_records c event)) (sym (barrier_nothing c s is none event))
      (AllByRecursion-map IsOfTransaction IsNoCopy (own_records c event) no_copy_of (own_of_transaction c event other more))

-- Events where something is.

pub no_flip_own : (rec : Record) → IsOfTransaction rec → IsNoFlip rec
no_flip_own (record_of.Flip copies) is = is
no_flip_own rec is = tt

-- an event but a flip appends none
pub no_flips : (c : Core) (event : Event) → event ≢ Flip → AllByRecursion IsNoFlip (event_records c event)
no_flips c event other = by (cases event) where
  cases : (e : Event) → (e ≡ Scan) ⊎ (e ≢ Scan)
  cases Scan = inl refl
  cases e = inr (λ same. cc same)

  by : (event ≡ Scan) ⊎ (event ≢ Scan) → AllByRecursion IsNoFlip (event_records c event)
  by (inl scan) = subst (λ (e : Event). AllByRecursion IsNoFlip (event_records c e)) (sym scan) (scan_kinds c)
  by (inr more) =
      AllByRecursion-append IsNoFlip (barrier_records c event) (own_records c event)
      (AllByRecursion-map IsOfScan IsNoFlip (barrier_records c event) no_flip_scan (barrier_of_scan c event))
      (AllByRecursion-map IsOfTransaction IsNoFlip (own_records c event) no_flip_own (own_of_transaction c event other more))

-- Events.

not_gray : (k : Collection) → ((q : ℕ) → contains k.gray q ≡ false) → AreNoneGray (Some k)
not_gray k none page = none_any (contains k.gray) (64 * page) 64 none

-- An event but a flip leaves gray addresses where they were or above.
pub gray_kept : (a : Account) (c : Core) (h : Agrees a c) (x : ℕ) (n : State) (event : Event) → event ≢ Flip → after_all h.behind (event_records c event) ≡ Some n → GrayFrom x h.behind → GrayFrom x n
gray_kept a c h x n event other follows gray = by h.behind.collection refl (next_page h.behind.collection) refl
  where
    quiet : AreNoneGray h.behind.collection → next_page h.behind.collection ≡ None → GrayFrom x n
    quiet none next = gray_after_all x h.behind n (event_records c event) (no_copies c h.behind h.told.reached none next event other) follows gray

    by : (o : Option Collection) → h.behind.collection ≡ o → (page : Option ℕ) → next_page h.behind.collection ≡ page → GrayFrom x n
    by None run page next = quiet (λ p. ap (λ o. is_gray_in o p) run) (ap next_page run)
    by (Some k) run None next = quiet (subst AreNoneGray (sym run) (not_gray k (nothing_gray k (ap next_page (sym run) ∙ next)))) next
    by (Some k) run (Some page) next =
        let first = is_next k page (ap next_page (sym run) ∙ next) in
        let heap = h.told.heap in
        let collects = underway (record { run = run; spaced = heap.spaced; long = heap.long; small = heap.small; laid = heap.laid }) in
        let there = start_within heap.laid first.at (collects.from.grays first.at first.gray) in
        let low = gray k first.at run first.gray in
        let high = there.below in
        (from_after_all x h.behind n (event_records c event) (no_flips c event other) follows (record { gray = gray; next = omega arith })).gray
