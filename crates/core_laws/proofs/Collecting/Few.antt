-- An event but a flip copies few objects.
use Rattle.std.proofs.Common.{◌≡◌, ◌≢◌, ℕ, ◌≤◌, true, false, Bool, List, [], ◌∷◌, ◌++◌, length, Option, Some, None, refl, sym, ap, ◌∙◌, subst, arith, length-append}
use Rattle.std.specs.Prelude.{if◌then◌else◌, map, slice_index, unwrap_or}
use Rattle.std.specs.List.{flat_map}
use Rattle.std.proofs.lemmas.List.Concat.{flat_map-append}
use Rattle.graph_model.specs.declared.event.Event.{Event}
use Rattle.graph_model.specs.declared.event.Event.TheVariants.{Begin, Put, Clear, Link, Get, Seal, Abort, Force, Flip, Scan, Flush}
use Rattle.graph_model.specs.declared.id.Id.{Id}
use Rattle.graph_model.specs.declared.val.Val.{Val}
use Rattle.graph_model.specs.declared.val.Val.TheVariants.{Null, Int}
use Rattle.graph_model.specs.Graph.{Graph, fields}
use Rattle.graph_model.specs.Transaction.{Transaction, held, reference_to}
use Rattle.graph_model.specs.History.{Account, account, session_of}
use Rattle.graph_model.specs.Plain.{view}
use Rattle.heap_spaces.specs.declared.collection.CopiedObject.{CopiedObject}
use Rattle.heap_spaces.specs.Collection.{Collection}
use Rattle.heap_words.specs.declared.Word.{Word}
use Rattle.heap_words.specs.declared.Word.TheVariants as word
use Rattle.heap_words.specs.Word.{meaning}
use Rattle.log_records.specs.declared.Record.{Record}
use Rattle.log_records.specs.declared.Record.TheVariants.{Commit, Copy}
use Rattle.log_records.specs.declared.Record.TheVariants as record_of
use Rattle.log_machine.specs.declared.UndoEntry.{UndoEntry}
use Rattle.log_machine.specs.Machine.{State, abort_records, field_at, spaces_of}
use Rattle.volatile_area.specs.Area.{AreaState}
use Rattle.graph_words.specs.Places.{address_of, place_of}
use Rattle.graph_words.specs.Promotion.{Field, Move, base_of, fix_meant, fix_of, moves_of, promotion_records, seal_records, written_fields}
use Rattle.collection_words.proofs.Laid.Underway.{underway}
use Rattle.page_scanner.specs.Bounds.{AreSmall}
use Rattle.page_scanner.proofs.Rising.{bounds}
use Rattle.read_barrier.specs.Barrier.{barrier_page_of}
use Rattle.scan_laws.proofs.Collected.{gray_apart}
use Rattle.heap_model.specs.Collecting.{barrier_at, copied_by, copied_in, is_gray_in, next_page, page_records, page_records_of, scan_event_records, scan_records_in}
use Rattle.heap_model.specs.Core.{Core, Ground, all_words, area_in, barrier_records, behind_barrier, call_barrier, call_records, event_records, ground, held_barrier, next_word, own_records, undo_with, update, write_records}
use Rattle.core_laws.proofs.Step.Sound.{reached_agrees}
use Rattle.core_laws.specs.Pause.{PauseTheorem}
use Rattle.core_laws.specs.Valid.{Agrees}

-- Records copy no more objects than there are of them.

one_at_most : (rec : Record) → length (copied_by rec) ≤ 1
one_at_most (Copy from to words) = omega arith
one_at_most rec = omega arith

as_many_at_most : (rs : List Record) → length (copied_in rs) ≤ length rs
as_many_at_most [] = omega arith
as_many_at_most (r ∷ rs) = omega (arith, one_at_most r, as_many_at_most rs, length-append (copied_by r) (copied_in rs))

-- these records copy nothing
abbrev CopyNothing : List Record → Type 0
CopyNothing rs = copied_in rs ≡ []

both_copy_nothing : (rs more : List Record) → CopyNothing rs → CopyNothing more → CopyNothing (rs ++ more)
both_copy_nothing rs more none other = flat_map-append copied_by rs more ∙ ap (λ (l : List CopiedObject). l ++ copied_in more) none ∙ other

-- An event's own records.

update_none : (place : Id → Word) (t : ℕ) (at : Word) (vs : List Val) (i : ℕ) (v : Val) → CopyNothing (update place t at vs i v)
update_none place t (word.Stable at) vs i v = refl
update_none place t (word.Volatile at) vs i v = refl
update_none place t word.Null vs i v = refl
update_none place t (word.Int n) vs i v = refl

write_none : (place : Id → Word) (t : ℕ) (g : Graph) (o : Option Id) (i : ℕ) (v : Val) → CopyNothing (write_records place t g o i v)
write_none place t g None i v = refl
write_none place t g (Some id) i v = update_none place t (place id) (fields g id) i v

bases_none : (area : AreaState) (moves ms : List Move) → CopyNothing (map (base_of area moves) ms)
bases_none area moves [] = refl
bases_none area moves (m ∷ ms) = bases_none area moves ms

fix_none : (t : ℕ) (moves : List Move) (f : Field) (w : ℕ) (meant : Option Word) → CopyNothing (fix_meant t moves f w meant)
fix_none t moves f w None = refl
fix_none t moves f w (Some word.Null) = refl
fix_none t moves f w (Some (word.Int n)) = refl
fix_none t moves f w (Some (word.Stable at)) = refl
fix_none t moves f w (Some (word.Volatile at)) = refl

fixes_none : (t : ℕ) (words : List ℕ) (moves : List Move) (fs : List Field) → CopyNothing (flat_map (fix_of t words moves) fs)
fixes_none t words moves [] = refl
fixes_none t words moves (f ∷ fs) =
    let w = slice_index words (field_at f.0 f.1) in
    both_copy_nothing (fix_meant t moves f w (meaning w)) (flat_map (fix_of t words moves) fs) (fix_none t moves f w (meaning w)) (fixes_none t words moves fs)

seal_none : (area : AreaState) (words : List ℕ) (undo : List UndoEntry) (address : ℕ) → CopyNothing (seal_records area words undo address)
seal_none area words undo address =
    let moves = moves_of area words undo address in
    both_copy_nothing (promotion_records area words undo address) (Commit area.transaction ∷ [])
    (both_copy_nothing (map (base_of area moves) moves) (flat_map (fix_of area.transaction words moves) (written_fields undo)) (bases_none area moves moves) (fixes_none area.transaction words moves (written_fields undo)))
    refl

abort_none : (t : ℕ) (undo : List UndoEntry) → CopyNothing (abort_records t undo)
abort_none t [] = refl
abort_none t (u ∷ us) = abort_none t us

call_none : (g : Ground) (g0 : Graph) (a : Account) (o : Option Transaction) (event : Event) → CopyNothing (call_records g g0 a o event)
call_none g g0 a None event = refl
call_none g g0 a (Some t) (Put s h i n) =
    let v = view g0 a t in write_none (place_of g.places v.graph) t.number v.graph (held v.registers h) i (Int n)
call_none g g0 a (Some t) (Clear s h i) =
    let v = view g0 a t in write_none (place_of g.places v.graph) t.number v.graph (held v.registers h) i (Null)
call_none g g0 a (Some t) (Link s h i h2) =
    let v = view g0 a t in write_none (place_of g.places v.graph) t.number v.graph (held v.registers h) i (reference_to (held v.registers h2))
call_none g g0 a (Some t) (Seal s) = seal_none (area_in g.places (view g0 a t) t.number) g.words (undo_with g.state t.number) (next_word g.state)
call_none g g0 a (Some t) (Abort s) = abort_none t.number (undo_with g.state t.number)
call_none g g0 a (Some t) event = refl

-- The scan of a page.

abbrev AreFew : List Record → Type 0
AreFew rs = length (copied_in rs) ≤ 576

small_few : (page : ℕ) (rs : List Record) → AreSmall page rs → AreFew rs
small_few page rs small =
    let q = small.0 in
    let last : List Record = record_of.Scan page q.writes ∷ [] in
    let copies = small.2.copies in
    let front = as_many_at_most q.copies in
    let all = flat_map-append copied_by q.copies last in
    let same = ap (λ (l : List Record). length (copied_in l)) small.1 ∙ ap (λ (l : List CopiedObject). length l) all ∙ length-append (copied_in q.copies) (copied_in last) in
    omega arith

page_few : (a : Account) (c : Core) (h : Agrees a c) (page : ℕ) (o : Option Collection) → h.behind.collection ≡ o → (p : Option (List Record)) → page_records_of (spaces_of h.behind) (all_words c) page o ≡ p → AreFew (unwrap_or p [])
page_few a c h page o run None planned = omega arith
page_few a c h page None run (Some records) planned = absurd (cc planned)
page_few a c h page (Some k) run (Some records) planned =
    let heap = h.told.heap in
    let collects = underway (record { run = run; spaced = heap.spaced; long = heap.long; small = heap.small; laid = heap.laid }) in
    small_few page records (bounds (spaces_of h.behind) k (all_words c) page records (gray_apart collects) planned)

scanned_few : (a : Account) (c : Core) (h : Agrees a c) (page : ℕ) → AreFew (page_records h.behind (all_words c) page)
scanned_few a c h page = page_few a c h page h.behind.collection refl (page_records_of (spaces_of h.behind) (all_words c) page h.behind.collection) refl

if_few : (b : Bool) (rs : List Record) → AreFew rs → AreFew (if b then rs else [])
if_few true rs few = few
if_few false rs few = omega arith

at_few : (a : Account) (c : Core) (h : Agrees a c) (o : Option ℕ) (i : ℕ) → AreFew (barrier_at (Some h.behind) (all_words c) o i)
at_few a c h None i = omega arith
at_few a c h (Some at) i = let page = barrier_page_of at i in if_few (is_gray_in h.behind.collection page) (page_records h.behind (all_words c) page) (scanned_few a c h page)

held_few : (a : Account) (c : Core) (h : Agrees a c) (o : Option Id) (i : ℕ) → AreFew (held_barrier (ground c) o i)
held_few a c h None i = omega arith
held_few a c h (Some id) i =
    subst (λ (s : Option State). AreFew (barrier_at s (all_words c) (address_of c.places id) i)) (sym h.told.reached) (at_few a c h (address_of c.places id) i)

barrier_few : (a : Account) (c : Core) (h : Agrees a c) (o : Option Transaction) (hd i : ℕ) → AreFew (call_barrier (ground c) c.g0 (account c.history) o hd i)
barrier_few a c h None hd i = omega arith
barrier_few a c h (Some t) hd i = held_few a c h (held (view c.g0 (account c.history) t).registers hd) i

scan_few : (a : Account) (c : Core) (h : Agrees a c) (o : Option Collection) (page : Option ℕ) → AreFew (scan_records_in h.behind (all_words c) o page)
scan_few a c h None page = omega arith
scan_few a c h (Some k) None = omega arith
scan_few a c h (Some k) (Some page) = scanned_few a c h page

-- Events.

few_with : (rs own : List Record) → AreFew rs → CopyNothing own → AreFew (rs ++ own)
few_with rs own few none =
    let same = ap (λ (l : List CopiedObject). length l) (flat_map-append copied_by rs own ∙ ap (λ (l : List CopiedObject). copied_in rs ++ l) none) ∙ length-append (copied_in rs) [] in
    omega arith

few_alone : (own : List Record) → CopyNothing own → AreFew own
few_alone own none = let same = ap (λ (l : List CopiedObject). length l) none in omega arith

-- An event but a flip copies at most 576 objects.
pub pause_law : PauseTheorem
pause_law c event reached other = by event other
  where
    h : Agrees (record (account c.history) { failed = None; in_doubt = None }) c
    h = reached_agrees c reached

    by_call : (e : Event) (hd i : ℕ) → own_records c e ≡ call_records (ground (behind_barrier c e)) c.g0 (account c.history) ((account c.history).active (session_of e)) e
        → barrier_records c e ≡ call_barrier (ground c) c.g0 (account c.history) ((account c.history).active (session_of e)) hd i → AreFew (event_records c e)
    by_call e hd i own barrier =
        let a = account c.history in
        let o = a.active (session_of e) in
        few_with (barrier_records c e) (own_records c e) (subst AreFew (sym barrier) (barrier_few (record a { failed = None; in_doubt = None }) c h o hd i)) (ap copied_in own ∙ call_none (ground (behind_barrier c e)) c.g0 a o e)

    by : (e : Event) → e ≢ Flip → AreFew (event_records c e)
    by Flip other = absurd (other refl)
    by Scan other = subst (λ (s : Option State). AreFew (scan_event_records s (all_words c))) (sym h.told.reached) (scan_few (record (account c.history) { failed = None; in_doubt = None }) c h h.behind.collection (next_page h.behind.collection))
    by (Begin s) other = omega arith
    by Force other = omega arith
    by (Flush p) other = omega arith
    by (Get s hd i h2) other = by_call (Get s hd i h2) hd i refl refl
    by (Put s hd i v) other = by_call (Put s hd i v) hd i refl refl
    by (Clear s hd i) other = by_call (Clear s hd i) hd i refl refl
    by (Link s hd i h2) other = by_call (Link s hd i h2) hd i refl refl
    by e other = few_alone (event_records c e) (call_none (ground c) c.g0 (account c.history) ((account c.history).active (session_of e)) e)
