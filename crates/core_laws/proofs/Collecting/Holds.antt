-- A scan does something, and transactions hold current objects.
use Rattle.std.proofs.Common.{◌≡◌, ◌⊎◌, ℕ, inl, inr, true, min, List, [], ◌∷◌, Option, Some, None, refl, sym, ap, ◌∙◌, subst}
use Rattle.std.specs.Prelude.{fold, unwrap_or}
use Rattle.std.specs.List.{list_any}
use Rattle.std.specs.Option.{option_map}
use Rattle.std.specs.Ordering.{eq_by_cmp, nat_cmp}
use Rattle.std.specs.FinSet.{contains, contains-items, items}
use Rattle.std.proofs.lemmas.Option.{same_Some}
use Rattle.graph_model.specs.declared.event.Event.TheVariants.{Scan}
use Rattle.graph_model.specs.History.{account}
use Rattle.heap_spaces.specs.Collection.{Collection, page_of}
use Rattle.log_records.specs.declared.Record.{Record}
use Rattle.log_machine.specs.Machine.{State, spaces_of}
use Rattle.log_machine.proofs.MachineLaws.{after_all-append2}
use Rattle.collection_words.proofs.Laid.Underway.{underway}
use Rattle.collection_words.proofs.Laid.Within.{start_within}
use Rattle.page_scanner.specs.Scan.{records_of as scanned_records, scan_records}
use Rattle.page_scanner.proofs.After.{after_all_collecting}
use Rattle.page_scanner.proofs.Total.{total}
use Rattle.heap_model.specs.Collecting.{least_of, next_page, page_records_of, scan_event_records, scan_records_in}
use Rattle.heap_model.specs.Core.{Core, all_records, all_words, log_start, own_records, state_behind}
use Rattle.core_laws.proofs.Collecting.Black.{current_page}
use Rattle.core_laws.proofs.Collecting.Events.{collected_heap}
use Rattle.core_laws.proofs.Collecting.Least.{IsAmong, least_among, or_first, or_second, tied}
use Rattle.core_laws.proofs.Collecting.Scan.{keep}
use Rattle.core_laws.proofs.Step.Goes.{writing_of}
use Rattle.core_laws.proofs.Step.Sound.{reached_agrees}
use Rattle.core_laws.specs.Collects.{HoldsTheorem, ScanTheorem}

-- The next page.

-- A gray object that starts in a page.
record IsGrayAt (k : Collection) (page : ℕ) : Type 0 where
  at : ℕ
  gray : contains k.gray at ≡ true
  here : page_of at ≡ page

among_either : (x : ℕ) (xs : List ℕ) → (fold min x xs ≡ x) ⊎ IsAmong (fold min x xs) xs → IsAmong (fold min x xs) (x ∷ xs)
among_either x xs (inl first) = or_first (eq_by_cmp nat_cmp (fold min x xs) x) (list_any (eq_by_cmp nat_cmp (fold min x xs)) xs) (tied (fold min x xs) x first)
among_either x xs (inr later) = or_second (eq_by_cmp nat_cmp (fold min x xs) x) (list_any (eq_by_cmp nat_cmp (fold min x xs)) xs) later

gray_of : (k : Collection) (page : ℕ) (xs : List ℕ) → items k.gray ≡ xs → option_map page_of (least_of xs) ≡ Some page → IsGrayAt k page
gray_of k page [] all next = absurd (cc next)
gray_of k page (x ∷ xs) all next =
    let at = fold min x xs in
    record {
      at = at;
      gray = contains-items k.gray at ∙ ap (list_any (eq_by_cmp nat_cmp at)) all ∙ among_either x xs (least_among x xs at refl);
      here = same_Some (page_of at) page next;
    }

-- in the next page a gray object starts
next_gray : (k : Collection) (page : ℕ) → next_page (Some k) ≡ Some page → IsGrayAt k page
next_gray k page next = gray_of k page (items k.gray) refl next

-- A scan.

appended_in : (c : Core) (s : State) (k : Collection) (page : ℕ) (records : List Record) → state_behind c (all_records c) ≡ Some s → s.collection ≡ Some k → next_page (Some k) ≡ Some page
    → scan_records (spaces_of s) k (all_words c) page ≡ Some records → own_records c Scan ≡ records
appended_in c s k page records is run next planned =
    let from : Option Collection → List Record = λ o. scan_records_in s (all_words c) o (next_page o) in
    let plan : Option Collection → Option (List Record) = λ o. page_records_of (spaces_of s) (all_words c) page o in
    ap (λ (o : Option State). scan_event_records o (all_words c)) is
    ∙ ap from run
    ∙ ap (λ (p : Option ℕ). scan_records_in s (all_words c) (Some k) p) next
    ∙ ap (λ (p : Option (List Record)). unwrap_or p []) (ap plan run ∙ planned)

-- The next page can be scanned, and nothing that starts in it is gray then.
pub scan_law : ScanTheorem
scan_law c s k page valid is run next =
    let a = account c.history in
    let same : s ≡ valid.behind = same_Some s valid.behind (sym is ∙ valid.told.reached) in
    let run_here : valid.behind.collection ≡ Some k = ap (λ (x : State). x.collection) (sym same) ∙ run in
    let first = next_gray k page next in
    let heap = valid.told.heap in
    let collects = underway (record { run = run_here; spaced = heap.spaced; long = heap.long; small = heap.small; laid = heap.laid }) in
    let current = current_page a c valid first.at (start_within heap.laid first.at (collects.from.grays first.at first.gray)) in
    let plan = total (spaces_of valid.behind) k (all_words c) (page_of first.at) (collected_heap a c valid k run_here) current in
    let records = scanned_records (page_of first.at) plan.0 in
    let planned_here : scan_records (spaces_of valid.behind) k (all_words c) (page_of first.at) ≡ Some records = ap (option_map (scanned_records (page_of first.at))) plan.1 in
    let planned_page = subst (λ (p : ℕ). scan_records (spaces_of valid.behind) k (all_words c) p ≡ Some records) first.here planned_here in
    let planned = subst (λ (x : State). scan_records (spaces_of x) k (all_words c) page ≡ Some records) (sym same) planned_page in
    let kept = keep a c valid k run_here page records planned_page in
    record {
      records = records;
      planned = planned;
      appended = appended_in c s k page records is run next planned;
      state = kept.next;
      reached = after_all-append2 (log_start c) valid.behind (all_records c) records valid.told.reached ∙ after_all_collecting valid.behind kept.next records kept.passes;
      later = kept.collection;
      runs = kept.underway.run;
      black = kept.black;
    }

-- What a transaction's handles hold is current, or its own.
pub holds_law : HoldsTheorem
holds_law c s t reached active = (writing_of (record (account c.history) { failed = None; in_doubt = None }) c s t active (reached_agrees c reached)).handles
