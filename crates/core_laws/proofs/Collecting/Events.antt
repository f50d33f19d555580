-- The events of a collection, and the barrier before a field is read or written: the core that they leave agrees with its history as before.
use Rattle.std.proofs.Common.{◌≡◌, ℕ, true, false, Bool, List, [], ◌∷◌, Option, Some, None, refl, sym, ap, ◌∙◌, subst, arith}
use Rattle.std.specs.Prelude.{unwrap_or, if◌then◌else◌, option_and_then}
use Rattle.std.specs.List.{AllByRecursion, list_any}
use Rattle.std.specs.Cmp.{nat_cmp_total}
use Rattle.std.specs.Ordering.{eq_by_cmp, nat_cmp}
use Rattle.std.specs.Option.{option_map}
use Rattle.std.specs.FinSet.{contains-empty, contains-items, empty, items, len, len-empty, nat_cmp-IsAntisymmetric, same_set}
use Rattle.graph_model.specs.declared.event.Event.{Event}
use Rattle.graph_model.specs.declared.event.Event.TheVariants.{Put, Clear, Link, Get, Flip, Scan}
use Rattle.graph_model.specs.declared.id.Id.{Id}
use Rattle.graph_model.specs.Transaction.{Transaction, held}
use Rattle.graph_model.specs.History.{Account, account}
use Rattle.graph_model.specs.Plain.{view}
use Rattle.heap_spaces.specs.Collection.{Collection, page_of}
use Rattle.log_records.specs.declared.Record.{Record}
use Rattle.log_records.specs.declared.Record.TheVariants.{Collected}
use Rattle.log_records.specs.Record.{IsRecord}
use Rattle.log_machine.specs.Collecting.{collecting_after}
use Rattle.log_machine.specs.Machine.{State, after_all, spaces_of, undo_of}
use Rattle.graph_words.specs.Places.{address_of}
use Rattle.collection_words.proofs.Laid.Underway.{underway}
use Rattle.flip_copy.specs.Copied.{flip_record}
use Rattle.page_scanner.specs.Heap.{IsCollected}
use Rattle.page_scanner.specs.Passing.{collecting_after_all}
use Rattle.page_scanner.specs.Scan.{scan_records}
use Rattle.page_scanner.proofs.After.{after_all_collecting}
use Rattle.page_scanner.proofs.Total.{all_spelled}
use Rattle.scan_laws.proofs.Collected.{collected}
use Rattle.heap_model.specs.Collecting.{barrier_at, least_of, flip_records, flip_records_in, is_gray_in, next_page, page_records, page_records_of, roots_of, scan_event_records, scan_records_in}
use Rattle.heap_model.specs.Core.{Core, all_words, barrier_for, call_barrier, done, ground, held_barrier, moved, own_records, undo_with}
use Rattle.read_barrier.specs.Barrier.{barrier_page_of}
use Rattle.core_laws.proofs.Collecting.Collected as ended
use Rattle.core_laws.proofs.Collecting.Collected.{collected_agrees}
use Rattle.core_laws.proofs.Collecting.Flip as flip
use Rattle.core_laws.proofs.Collecting.Flip.{flip_agrees}
use Rattle.core_laws.proofs.Collecting.Scan.{keep, scan_agrees}
use Rattle.core_laws.proofs.Collecting.Spelled.{flip_spelled}
use Rattle.core_laws.proofs.Step.Granted.{HasRoom}
use Rattle.core_laws.specs.Valid.{Agrees, IsValid}

-- These records leave a core that agrees with its history as before, if the log has room for them.
abbrev pub IsKept : (a : Account) (c : Core) → List Record → Type 0
IsKept a c records = HasRoom c records a → Agrees a (moved c records)

-- the record machine lets one record follow that can follow as one of a collection
one_row : (s n : State) (rec : Record) → collecting_after s rec ≡ Some n → after_all s (rec ∷ []) ≡ collecting_after s rec
one_row s n rec follows = after_all_collecting s n (rec ∷ []) (ap (λ o. option_and_then (λ m. collecting_after_all m []) o) follows) ∙ sym follows

-- The scan of a page.

-- the words of a core that is collected are such as a scan goes over
pub collected_heap : (a : Account) (c : Core) (h : Agrees a c) (k : Collection) → h.behind.collection ≡ Some k → IsCollected (spaces_of h.behind) k (all_words c)
collected_heap a c h k run =
    let heap = h.told.heap in
    let small = heap.small in
    collected (underway (record { run = run; spaced = heap.spaced; long = heap.long; small = heap.small; laid = heap.laid })) (omega arith) h.told.fit

-- its records have spellings
scan_spelled : (a : Account) (c : Core) (h : Agrees a c) (k : Collection) → h.behind.collection ≡ Some k → (page : ℕ) (records : List Record) → scan_records (spaces_of h.behind) k (all_words c) page ≡ Some records → AllByRecursion IsRecord records
scan_spelled a c h k run page records planned = all_spelled (spaces_of h.behind) k (all_words c) page records (collected_heap a c h k run) planned

-- and the record machine lets them follow
pub scan_rows : (a : Account) (c : Core) (h : Agrees a c) (k : Collection) → h.behind.collection ≡ Some k → (page : ℕ) (records : List Record) → scan_records (spaces_of h.behind) k (all_words c) page ≡ Some records
    → after_all h.behind records ≡ collecting_after_all h.behind records
scan_rows a c h k run page records planned =
    let kept = keep a c h k run page records planned in
    after_all_collecting h.behind kept.next records kept.passes ∙ sym kept.passes

page_step : (a : Account) (c : Core) (h : Agrees a c) (page : ℕ) (o : Option Collection) → h.behind.collection ≡ o → (p : Option (List Record)) → page_records_of (spaces_of h.behind) (all_words c) page o ≡ p → IsKept a c (unwrap_or p [])
page_step a c h page None run None planned room = h
page_step a c h page None run (Some records) planned room = absurd (cc planned)
page_step a c h page (Some k) run None planned room = h
page_step a c h page (Some k) run (Some records) planned room = scan_agrees a c h k run page records planned (scan_spelled a c h k run page records planned) (scan_rows a c h k run page records planned) room

pub page_kept : (a : Account) (c : Core) (h : Agrees a c) (page : ℕ) → IsKept a c (page_records h.behind (all_words c) page)
page_kept a c h page = page_step a c h page h.behind.collection refl (page_records_of (spaces_of h.behind) (all_words c) page h.behind.collection) refl

-- The barrier.

if_kept : (a : Account) (c : Core) (h : Agrees a c) (b : Bool) (records : List Record) → IsKept a c records → IsKept a c (if b then records else [])
if_kept a c h true records kept = kept
if_kept a c h false records kept = λ room. h

at_kept : (a : Account) (c : Core) (h : Agrees a c) (o : Option ℕ) (i : ℕ) → IsKept a c (barrier_at (Some h.behind) (all_words c) o i)
at_kept a c h None i = λ room. h
at_kept a c h (Some at) i =
    let page = barrier_page_of at i in
    if_kept a c h (is_gray_in h.behind.collection page) (page_records h.behind (all_words c) page) (page_kept a c h page)

held_kept : (a : Account) (c : Core) (h : Agrees a c) (o : Option Id) (i : ℕ) → IsKept a c (held_barrier (ground c) o i)
held_kept a c h None i = λ room. h
held_kept a c h (Some id) i =
    subst (λ (o : Option State). IsKept a c (barrier_at o (all_words c) (address_of c.places id) i)) (sym h.told.reached) (at_kept a c h (address_of c.places id) i)

call_kept : (a : Account) (c : Core) (h : Agrees a c) (o : Option Transaction) (hd i : ℕ) → IsKept a c (call_barrier (ground c) c.g0 a o hd i)
call_kept a c h None hd i = λ room. h
call_kept a c h (Some t) hd i = held_kept a c h (held (view c.g0 a t).registers hd) i

-- After the scan that comes before an event a core agrees with its history as before.
pub barrier_kept : (a : Account) (c : Core) (h : Agrees a c) (event : Event) → IsKept a c (barrier_for (ground c) c.g0 a event)
barrier_kept a c h (Get s hd i h2) = call_kept a c h (a.active s) hd i
barrier_kept a c h (Put s hd i v) = call_kept a c h (a.active s) hd i
barrier_kept a c h (Clear s hd i) = call_kept a c h (a.active s) hd i
barrier_kept a c h (Link s hd i h2) = call_kept a c h (a.active s) hd i
barrier_kept a c h event = λ room. h

-- A flip.

flip_step : (a : Account) (c : Core) (h : Agrees a c) (o : Option Collection) → h.behind.collection ≡ o
    → IsKept a c (flip_records_in h.behind (all_words c) (roots_of c.places (undo_of h.behind) c.g0 a) o)
flip_step a c h None none room =
    let r = flip_record (spaces_of h.behind) (all_words c) (roots_of c.places (undo_of h.behind) c.g0 a) in
    flip_agrees a c h none (flip_spelled a c h none) (one_row h.behind (flip.last a c h none) r (flip.follows a c h none)) room
flip_step a c h (Some k) run room = h

-- After a flip a core agrees with its history as before.
pub flip_kept : (a : Account) (c : Core) (h : Agrees a c) → IsKept a c (flip_records (ground c).state (all_words c) (roots_of c.places (undo_with (ground c).state) c.g0 a))
flip_kept a c h =
    subst (λ (o : Option State). IsKept a c (flip_records o (all_words c) (roots_of c.places (undo_with o) c.g0 a))) (sym h.told.reached) (flip_step a c h h.behind.collection refl)

-- A scan.

no_first : (xs : List ℕ) → option_map page_of (least_of xs) ≡ None → xs ≡ []
no_first [] none = refl
no_first (x ∷ xs) none = absurd (cc none)

-- where no page is next nothing is gray
none_gray : (k : Collection) → next_page (Some k) ≡ None → len k.gray ≡ 0
none_gray k none =
    let nothing : k.gray ≡ empty = same_set nat_cmp_total nat_cmp-IsAntisymmetric k.gray empty (λ q.
    contains-items k.gray q ∙ ap (list_any (eq_by_cmp nat_cmp q)) (no_first (items k.gray) none) ∙ sym (contains-empty nat_cmp q)) in
    ap len nothing ∙ len-empty nat_cmp

scan_step : (a : Account) (c : Core) (h : Agrees a c) (o : Option Collection) (page : Option ℕ) → h.behind.collection ≡ o → next_page o ≡ page → IsKept a c (scan_records_in h.behind (all_words c) o page)
scan_step a c h None page run next room = h
scan_step a c h (Some k) None run next room =
    let black = none_gray k next in
    collected_agrees a c h k run black (one_row h.behind (ended.last a c h k run black) Collected (ended.follows a c h k run black)) room
scan_step a c h (Some k) (Some page) run next room = page_kept a c h page room

-- After a scan a core agrees with its history as before.
pub scan_kept : (a : Account) (c : Core) (h : Agrees a c) → IsKept a c (scan_event_records (ground c).state (all_words c))
scan_kept a c h =
    subst (λ (o : Option State). IsKept a c (scan_event_records o (all_words c))) (sym h.told.reached)
    (scan_step a c h h.behind.collection (next_page h.behind.collection) refl refl)

-- Valid cores.

-- So does what a flip leaves.
pub done_flip : (c : Core) → IsValid c → HasRoom c (own_records c Flip) (account c.history) → Agrees (account c.history) (done c Flip)
done_flip c valid room = flip_kept (account c.history) c valid room

-- And what a scan leaves.
pub done_scan : (c : Core) → IsValid c → HasRoom c (own_records c Scan) (account c.history) → Agrees (account c.history) (done c Scan)
done_scan c valid room = scan_kept (account c.history) c valid room
