-- Which kinds of records an event appends.
use Rattle.std.proofs.Common.{◌≡◌, ◌≢◌, ℕ, Bool, true, false, List, [], ◌∷◌, ◌++◌, Option, None, Some, refl, subst}
use Rattle.std.specs.Prelude.{if◌then◌else◌, map, slice_index, unwrap_or}
use Rattle.std.specs.List.{AllByRecursion, flat_map}
use Rattle.graph_model.specs.declared.event.Event.{Event}
use Rattle.graph_model.specs.declared.event.Event.TheVariants.{Begin, Put, Clear, Link, Get, Seal, Abort, Force, Flip, Scan, Flush}
use Rattle.graph_model.specs.declared.id.Id.{Id}
use Rattle.graph_model.specs.declared.val.Val.{Val}
use Rattle.graph_model.specs.declared.val.Val.TheVariants.{Null, Int}
use Rattle.graph_model.specs.Graph.{Graph, fields}
use Rattle.graph_model.specs.Transaction.{Transaction, held, reference_to}
use Rattle.graph_model.specs.History.{Account, account, session_of}
use Rattle.graph_model.specs.Plain.{view}
use Rattle.heap_spaces.specs.Collection.{Collection}
use Rattle.heap_spaces.specs.Spaces.{SpacesState}
use Rattle.heap_words.specs.declared.Word.{Word}
use Rattle.heap_words.specs.declared.Word.TheVariants as word
use Rattle.heap_words.specs.Word.{bits, meaning}
use Rattle.log_records.specs.declared.Record.{Record}
use Rattle.log_records.specs.declared.Record.TheVariants.{Commit, Copy, Collected}
use Rattle.log_records.specs.declared.Record.TheVariants as record_of
use Rattle.log_machine.specs.declared.UndoEntry.{UndoEntry}
use Rattle.log_machine.specs.Machine.{State, abort_records, field_at, spaces_of}
use Rattle.log_machine.proofs.ListLaws.{AllByRecursion-append, AllByRecursion-map}
use Rattle.volatile_area.specs.Area.{AreaState}
use Rattle.graph_words.specs.Places.{address_of, place_of}
use Rattle.graph_words.specs.Promotion.{Field, Move, base_of, fix_meant, fix_of, moves_of, promotion_records, seal_records, written_fields}
use Rattle.page_scanner.specs.Scan.{Planned, can_write, next_free, object_words, scan, scan_records}
use Rattle.page_scanner.proofs.Steps.{IsKept, kept_scan, planned_parts, tested}
use Rattle.read_barrier.specs.Barrier.{barrier_page_of}
use Rattle.heap_model.specs.Collecting.{barrier_at, is_gray_in, next_page, page_records, page_records_of, scan_event_records, scan_records_in}
use Rattle.heap_model.specs.Core.{Core, Ground, all_words, area_in, barrier_records, behind_barrier, call_barrier, call_records, ground, held_barrier, next_word, own_records, undo_with, update, write_records}

-- a record of a transaction
abbrev pub IsOfTransaction : Record → Type 0
IsOfTransaction (Copy from to words) = ⊥
IsOfTransaction (record_of.Scan page writes) = ⊥
IsOfTransaction (record_of.Flip copies) = ⊥
IsOfTransaction Collected = ⊥
IsOfTransaction rec = Unit {0}

-- a record of the scan of a page
abbrev pub IsOfScan : Record → Type 0
IsOfScan (Copy from to words) = Unit {0}
IsOfScan (record_of.Scan page writes) = Unit {0}
IsOfScan rec = ⊥

-- a record of a collection that continues, or ends
abbrev pub IsOfCollection : Record → Type 0
IsOfCollection (Copy from to words) = Unit {0}
IsOfCollection (record_of.Scan page writes) = Unit {0}
IsOfCollection Collected = Unit {0}
IsOfCollection rec = ⊥

of_collection : (rec : Record) → IsOfScan rec → IsOfCollection rec
of_collection (Copy from to words) is = tt
of_collection (record_of.Scan page writes) is = tt
of_collection rec is = absurd is

-- a record that is no flip
abbrev pub IsNoFlip : Record → Type 0
IsNoFlip (record_of.Flip copies) = ⊥
IsNoFlip rec = Unit {0}

-- a record that copies no object
abbrev pub IsNoCopy : Record → Type 0
IsNoCopy (record_of.Flip copies) = ⊥
IsNoCopy (Copy from to words) = ⊥
IsNoCopy rec = Unit {0}

-- a copy
abbrev pub IsCopy : Record → Type 0
IsCopy (Copy from to words) = Unit {0}
IsCopy rec = ⊥

-- records of a scan are no flips
pub no_flip_scan : (rec : Record) → IsOfScan rec → IsNoFlip rec
no_flip_scan (record_of.Flip copies) is = is
no_flip_scan rec is = tt

no_flip_collection : (rec : Record) → IsOfCollection rec → IsNoFlip rec
no_flip_collection (record_of.Flip copies) is = is
no_flip_collection rec is = tt

-- What a transaction appends.

abbrev AreOfTransactions : List Record → Type 0
AreOfTransactions rs = AllByRecursion IsOfTransaction rs

update_of : (place : Id → Word) (t : ℕ) (at : Word) (vs : List Val) (i : ℕ) (v : Val) → AreOfTransactions (update place t at vs i v)
update_of place t (word.Stable at) vs i v = (tt, tt)
update_of place t (word.Volatile at) vs i v = tt
update_of place t word.Null vs i v = tt
update_of place t (word.Int n) vs i v = tt

write_of : (place : Id → Word) (t : ℕ) (g : Graph) (o : Option Id) (i : ℕ) (v : Val) → AreOfTransactions (write_records place t g o i v)
write_of place t g None i v = tt
write_of place t g (Some id) i v = update_of place t (place id) (fields g id) i v

bases_of : (area : AreaState) (moves ms : List Move) → AreOfTransactions (map (base_of area moves) ms)
bases_of area moves [] = tt
bases_of area moves (m ∷ ms) = (tt, bases_of area moves ms)

one_fix : (t : ℕ) (moves : List Move) (f : Field) (w : ℕ) (meant : Option Word) → AreOfTransactions (fix_meant t moves f w meant)
one_fix t moves f w None = tt
one_fix t moves f w (Some word.Null) = tt
one_fix t moves f w (Some (word.Int n)) = tt
one_fix t moves f w (Some (word.Stable at)) = tt
one_fix t moves f w (Some (word.Volatile at)) = (tt, tt)

all_fixes : (t : ℕ) (words : List ℕ) (moves : List Move) (fs : List Field) → AreOfTransactions (flat_map (fix_of t words moves) fs)
all_fixes t words moves [] = tt
all_fixes t words moves (f ∷ fs) =
    let w = slice_index words (field_at f.0 f.1) in
    AllByRecursion-append IsOfTransaction (fix_meant t moves f w (meaning w)) (flat_map (fix_of t words moves) fs) (one_fix t moves f w (meaning w)) (all_fixes t words moves fs)

seal_of_one : (area : AreaState) (words : List ℕ) (undo : List UndoEntry) (address : ℕ) → AreOfTransactions (seal_records area words undo address)
seal_of_one area words undo address =
    let moves = moves_of area words undo address in
    let t = area.transaction in
    AllByRecursion-append IsOfTransaction (promotion_records area words undo address) (Commit t ∷ [])
    (AllByRecursion-append IsOfTransaction (map (base_of area moves) moves) (flat_map (fix_of t words moves) (written_fields undo)) (bases_of area moves moves) (all_fixes t words moves (written_fields undo)))
    (tt, tt)

abort_of_one : (t : ℕ) (undo : List UndoEntry) → AreOfTransactions (abort_records t undo)
abort_of_one t [] = (tt, tt)
abort_of_one t (u ∷ us) = (tt, abort_of_one t us)

-- so does each call of a session, and each end of its transaction
pub call_of : (g : Ground) (g0 : Graph) (a : Account) (o : Option Transaction) (event : Event) → AreOfTransactions (call_records g g0 a o event)
call_of g g0 a None event = tt
call_of g g0 a (Some t) (Put s h i n) =
    let v = view g0 a t in write_of (place_of g.places v.graph) t.number v.graph (held v.registers h) i (Int n)
call_of g g0 a (Some t) (Clear s h i) =
    let v = view g0 a t in write_of (place_of g.places v.graph) t.number v.graph (held v.registers h) i Null
call_of g g0 a (Some t) (Link s h i h2) =
    let v = view g0 a t in write_of (place_of g.places v.graph) t.number v.graph (held v.registers h) i (reference_to (held v.registers h2))
call_of g g0 a (Some t) (Seal s) = seal_of_one (area_in g.places (view g0 a t) t.number) g.words (undo_with g.state t.number) (next_word g.state)
call_of g g0 a (Some t) (Abort s) = abort_of_one t.number (undo_with g.state t.number)
call_of g g0 a (Some t) event = tt

-- What a scan appends.

abbrev AreOfScan : List Record → Type 0
AreOfScan rs = AllByRecursion IsOfScan rs

planned_kept : (spaces : SpacesState) (k : Collection) (words : List ℕ) → IsKept (λ (q : Planned). AllByRecursion IsCopy q.copies) spaces k words
planned_kept spaces k words = record {
  write = λ q r at to all is.
      let w = bits (word.Stable to) in
      subst (λ (x : Planned). AllByRecursion IsCopy x.copies) (tested (can_write spaces q at to) (record q { writes = q.writes ++ (at, w) ∷ [] }) r is).1 all;
  copy = λ q b n all within none object can. AllByRecursion-append IsCopy q.copies (Copy b (next_free spaces q) (object_words words b n) ∷ []) all (tt, tt);
}

-- what a scan plans is copies
pub planned_copies : (spaces : SpacesState) (k : Collection) (words : List ℕ) (page : ℕ) (q : Planned) → scan spaces k words page ≡ Some q → AllByRecursion IsCopy q.copies
planned_copies spaces k words page q is = (kept_scan (λ (q : Planned). AllByRecursion IsCopy q.copies) spaces k words (planned_kept spaces k words) page q tt is).1

-- The records of the scan of a page: copies, and then the scan.
pub record IsPageScan (page : ℕ) (records : List Record) : Type 0 where
  pub copies : List Record
  pub writes : List (ℕ × ℕ)
  pub all : AllByRecursion IsCopy copies
  pub is : copies ++ record_of.Scan page writes ∷ [] ≡ records

pub page_scan : (spaces : SpacesState) (k : Collection) (words : List ℕ) (page : ℕ) (records : List Record) → scan_records spaces k words page ≡ Some records → IsPageScan page records
page_scan spaces k words page records is =
    let parts = planned_parts page (scan spaces k words page) records is in
    let kept = kept_scan (λ (q : Planned). AllByRecursion IsCopy q.copies) spaces k words (planned_kept spaces k words) page parts.0 tt parts.1 in
    record { copies = parts.0.copies; writes = parts.0.writes; all = kept.1; is = parts.2 }

copy_of_scan : (rec : Record) → IsCopy rec → IsOfScan rec
copy_of_scan (Copy from to words) is = tt
copy_of_scan rec is = absurd is

scan_of : (spaces : SpacesState) (k : Collection) (words : List ℕ) (page : ℕ) (o : Option (List Record)) → scan_records spaces k words page ≡ o → AreOfScan (unwrap_or o [])
scan_of spaces k words page None is = tt
scan_of spaces k words page (Some records) is =
    let it = page_scan spaces k words page records is in
    subst AreOfScan it.is (AllByRecursion-append IsOfScan it.copies (record_of.Scan page it.writes ∷ []) (AllByRecursion-map IsCopy IsOfScan it.copies copy_of_scan it.all) (tt, tt))

page_of_scan : (s : State) (words : List ℕ) (page : ℕ) (o : Option Collection) → AreOfScan (unwrap_or (page_records_of (spaces_of s) words page o) [])
page_of_scan s words page None = tt
page_of_scan s words page (Some k) = scan_of (spaces_of s) k words page (scan_records (spaces_of s) k words page) refl

if_of : (b : Bool) (rs : List Record) → AreOfScan rs → AreOfScan (if b then rs else [])
if_of true rs all = all
if_of false rs all = tt

at_of : (o : Option State) (words : List ℕ) (at : Option ℕ) (i : ℕ) → AreOfScan (barrier_at o words at i)
at_of None words at i = tt
at_of (Some s) words None i = tt
at_of (Some s) words (Some at) i =
    let page = barrier_page_of at i in if_of (is_gray_in s.collection page) (page_records s words page) (page_of_scan s words page s.collection)

held_of : (g : Ground) (o : Option Id) (i : ℕ) → AreOfScan (held_barrier g o i)
held_of g None i = tt
held_of g (Some id) i = at_of g.state g.words (address_of g.places id) i

called_of : (g : Ground) (g0 : Graph) (a : Account) (o : Option Transaction) (h i : ℕ) → AreOfScan (call_barrier g g0 a o h i)
called_of g g0 a None h i = tt
called_of g g0 a (Some t) h i = held_of g (held (view g0 a t).registers h) i

-- the barrier before an event appends records of a scan
pub barrier_of_scan : (c : Core) (event : Event) → AllByRecursion IsOfScan (barrier_records c event)
barrier_of_scan c (Get s h i h2) = let a = account c.history in called_of (ground c) c.g0 a (a.active s) h i
barrier_of_scan c (Put s h i v) = let a = account c.history in called_of (ground c) c.g0 a (a.active s) h i
barrier_of_scan c (Clear s h i) = let a = account c.history in called_of (ground c) c.g0 a (a.active s) h i
barrier_of_scan c (Link s h i h2) = let a = account c.history in called_of (ground c) c.g0 a (a.active s) h i
barrier_of_scan c event = tt

-- and the event itself, if it is not one of a collection, records of a transaction
pub own_of_transaction : (c : Core) (event : Event) → event ≢ Flip → event ≢ Scan → AllByRecursion IsOfTransaction (own_records c event)
own_of_transaction c Flip other more = absurd (other refl)
own_of_transaction c Scan other more = absurd (more refl)
own_of_transaction c (Begin s) other more = tt
own_of_transaction c Force other more = tt
own_of_transaction c (Flush p) other more = tt
own_of_transaction c event other more = let a = account c.history in call_of (ground (behind_barrier c event)) c.g0 a (a.active (session_of event)) event

-- a scan appends records of a collection that continues or ends
scan_on : (s : State) (words : List ℕ) (o : Option Collection) (page : Option ℕ) → AllByRecursion IsOfCollection (scan_records_in s words o page)
scan_on s words None page = tt
scan_on s words (Some k) None = (tt, tt)
scan_on s words (Some k) (Some page) =
    AllByRecursion-map IsOfScan IsOfCollection (page_records s words page) of_collection (page_of_scan s words page s.collection)

event_on : (o : Option State) (words : List ℕ) → AllByRecursion IsOfCollection (scan_event_records o words)
event_on None words = tt
event_on (Some s) words = scan_on s words s.collection (next_page s.collection)

pub scan_goes_on : (c : Core) → AllByRecursion IsOfCollection (own_records c Scan)
scan_goes_on c = event_on (ground c).state (all_words c)

-- so it appends no flip
pub scan_kinds : (c : Core) → AllByRecursion IsNoFlip (own_records c Scan)
scan_kinds c = AllByRecursion-map IsOfCollection IsNoFlip (own_records c Scan) no_flip_collection (scan_goes_on c)
