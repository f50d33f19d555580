-- The records of the scan of a page keep a heap in a collection.
use Rattle.std.proofs.Common.{◌≡◌, ◌≢◌, ℕ, ◌+◌, ◌*◌, ◌<◌, ◌≤◌, Bool, true, false, List, [], ◌∷◌, Option, None, Some, refl, sym, ap, ◌∙◌, subst, arith}
use Rattle.std.specs.Prelude.{Contains, not, slice_index, slice_set, nat_le, nat_lt, ◌==◌, ◌&&◌, ◌||◌, option_and_then, if◌then◌else◌}
use Rattle.std.specs.List.{AllByRecursion}
use Rattle.std.specs.FinSet.{contains}
use Rattle.std.specs.Option.{option_map}
use Rattle.std.proofs.lemmas.Bool.{eq-eqb, eqb-true}
use Rattle.std.proofs.lemmas.Option.{same_Some}
use Rattle.std.proofs.lemmas.List.Sums.{fold-append}
use Rattle.heap_words.specs.declared.Word.TheVariants as word
use Rattle.heap_words.specs.Header.{header}
use Rattle.heap_words.specs.Word.{bits, meaning}
use Rattle.heap_spaces.specs.Collection.{Collection, page_of}
use Rattle.heap_spaces.specs.Copying.{with_scanned}
use Rattle.log_records.specs.declared.Record.{Record}
use Rattle.log_records.specs.declared.Record.TheVariants.{Scan}
use Rattle.object_layout.specs.Layout.{object_at}
use Rattle.object_layout.proofs.LayoutLaws.{object_header}
use Rattle.object_layout.proofs.ObjectLaws.{object_set}
use Rattle.log_machine.specs.declared.UndoEntry.{UndoEntry}
use Rattle.log_machine.specs.Collecting.{collecting_after, is_current_page}
use Rattle.log_machine.specs.Machine.{State, field_at, put_all, put_record, space_words, spaces_of}
use Rattle.log_machine.proofs.ListLaws.{AllByRecursion-map}
use Rattle.graph_words.specs.Places.{Places, addresses}
use Rattle.graph_words.proofs.Area.Field.{field_no_start}
use Rattle.collection_words.specs.Completed.{StandsCompleted, end_of, followed, followed_by, moves_from}
use Rattle.collection_words.specs.LaidOut.{EachField, IsUnderway, LeadsHere}
use Rattle.collection_words.specs.Placing.{Placing, moved_by, moved_by_all, placing_of}
use Rattle.collection_words.specs.Writes.{AreBacked, IsHereWrite, IsScanWrite}
use Rattle.collection_words.proofs.Steps.Addresses.{contains-without}
use Rattle.collection_words.proofs.Laid.Old.{old_in_other}
use Rattle.collection_words.proofs.Laid.Sources.{here_ends}
use Rattle.collection_words.proofs.Laid.Underway.{still_underway, underway}
use Rattle.collection_words.proofs.Laid.Within.{start_within}
use Rattle.collection_words.proofs.Laid.Write.{as_field, unmoved_left}
use Rattle.collection_words.proofs.Steps.Scan.{put_named, scan_laid, scan_row, scan_same, scan_stands, scanned_state, stable_here}
use Rattle.page_scanner.specs.Scan.{Planned, is_current, nothing, records_of, scan, scan_records, visit_all}
use Rattle.walk_laws.specs.Heap.{TellsBirths}
use Rattle.walk_laws.proofs.Birth.Scanned.{scan_births}
use Rattle.scan_laws.specs.Scanned.{HaveBeenCopied, KeepHeap, put_records}
use Rattle.scan_laws.proofs.Copied.{IsDone, IsLedWrite, View, after_more}
use Rattle.scan_laws.proofs.Made.{made_same}
use Rattle.scan_laws.proofs.Visited.{Visits, visits}

-- nothing is planned at first
done_first : (s : State) (k : Collection) (places remaining : Places) (words : List ℕ) (v : View) (is : IsUnderway s k places remaining words) → v.before ≡ placing_of places remaining → AreBacked places words v.us
    → StandsCompleted v.t v.made places remaining v.g v.us words s → IsDone s k places (underway is).from.starts words v nothing
done_first s k places remaining words v is first backed stands = record {
  next = s;
  now = k;
  currents = places;
  rest = remaining;
  moved = words;
  placed = first;
  untouched = record { undo = refl; commits = refl; next = refl };
  copied = subst (λ (p : Placing). HaveBeenCopied p.places p.remaining places remaining) (sym first) (record { kept = λ id at there. there; fewer = λ id none. none });
  births = λ tells. subst (λ (p : Placing). TellsBirths s p.places p.remaining words) first tells;
  puts = refl;
  passes = refl;
  is = is;
  backed = backed;
  stands = stands;
  pages = refl;
  base = refl;
  used = omega arith;
  olds = old_in_other (underway is);
  goes = λ b to none. absurd (cc none);
  left = λ b n start unmoved none object. (unmoved_left (underway is).from b start unmoved, made_same words b n object);
  heads = λ b start none. refl;
  here = λ at n has object. (has, made_same words at n object);
  comes = λ at b none. absurd (cc none);
  grays = λ at gray. sym (or_none (contains k.gray at)) ∙ gray;
  writes = tt;
}
  where
    or_none : (t : Bool) → t ≡ (t || false)
    or_none true = refl
    or_none false = refl

-- the writes of a plan are those of a scan
scan_write : (s : State) (places remaining : Places) (words : List ℕ) (write : ℕ × ℕ) → IsLedWrite s places words write → IsScanWrite s places remaining words write
scan_write s places remaining words write w =
    let moves = moves_from words (addresses remaining) (s.base + s.used) in
    let was = slice_index words (field_at w.object w.field) in
    let follows : followed s words remaining was ≡ write.1 =
    ap (followed_by s words moves was) w.back
    ∙ ap (λ t. if t then bits (word.Stable (end_of moves w.from (header (slice_index words w.from)))) else was) w.old
    ∙ ap (λ h. bits (word.Stable (end_of moves w.from h))) w.forward
    ∙ sym w.names in
    record {
      object = w.object;
      field = w.field;
      to = w.to;
      at = w.at;
      is = w.is;
      word = w.names;
      leads = w.leads;
      follows = ap (λ (x : ℕ). followed s words remaining (slice_index words x)) w.at ∙ follows;
    }

object_written : (writes : List (ℕ × ℕ)) (words : List ℕ) (at n : ℕ) → AllByRecursion (λ w. w.0 ≢ at) writes → object_at words at ≡ Some n → object_at (put_all words writes) at ≡ Some n
object_written [] words at n apart is = is
object_written (w ∷ ws) words at n apart is = object_written ws (slice_set words w.0 w.1) at n apart.1 (object_set words w.0 w.1 at n apart.0 is)

planned_parts : (page : ℕ) (o : Option Planned) (records : List Record) → option_map (records_of page) o ≡ Some records → (q : Planned) × (o ≡ Some q) × (records_of page q ≡ records)
planned_parts page None records is = absurd (cc is)
planned_parts page (Some q) records is = (q, refl, same_Some (records_of page q) records is)

in_page : (t : Bool) (o : Option Planned) (q : Planned) → (if t then o else None) ≡ Some q → (t ≡ true) × (o ≡ Some q)
in_page true o q is = (refl, is)
in_page false o q is = absurd (cc is)

page_bounds : (at page : ℕ) → page_of at ≡ page → (64 * page ≤ at) × (at < 64 * page + 64)
page_bounds at page here = (omega (arith, here), omega (arith, here))

-- what starts in the page is no longer gray
out_of : (gray : Bool) {here : Bool} → here ≡ true → (gray && not here) ≡ false
out_of true is = ap not is
out_of false is = refl

-- What the plan of a page leaves keeps the heap.
planned_keeps : (s : State) (k : Collection) (places remaining : Places) (starts words : List ℕ) (v : View) (page : ℕ) (q : Planned) (d0 : IsDone s k places starts words v nothing)
    → v.before ≡ placing_of places remaining → is_current (spaces_of s) page ≡ true → Visits s k places starts words v nothing q d0 (64 * page) 64
    → KeepHeap s places remaining words page (records_of page q) v.t v.made v.g v.us
planned_keeps s k places remaining starts words v page q d0 first current all =
    let d = all.goes.last in
    let small = d.is.small in
    let is = underway d.is in
    let others = put_all d.moved q.writes in
    let writes = AllByRecursion-map (IsLedWrite d.next d.currents d.moved) (IsScanWrite d.next d.currents d.rest d.moved) q.writes (scan_write d.next d.currents d.rest d.moved) d.writes in
    let here : is_current_page d.next page ≡ true =
    ap (λ b. nat_le b (64 * page) && nat_lt (64 * page) (b + space_words d.next.pages)) d.base
    ∙ ap (λ p. nat_le s.base (64 * page) && nat_lt (64 * page) (s.base + space_words p)) d.pages ∙ current in
    let row = scan_row is small page q.writes here writes in
    let kept : (at n : ℕ) → Contains (addresses d.currents) at → object_at d.moved at ≡ Some n → object_at others at ≡ Some n =
    λ at n has object. object_written q.writes d.moved at n
    (AllByRecursion-map (IsLedWrite d.next d.currents d.moved) (λ w. w.0 ≢ at) q.writes
    (λ x w same. field_no_start d.moved d.next.base (addresses d.currents) (d.next.base + d.next.used) w.object w.field at (here_ends is.laid) (as_field w.is) has (sym w.at ∙ same)) d.writes) object in
    let leads = AllByRecursion-map (IsLedWrite d.next d.currents d.moved) (λ w. LeadsHere (addresses d.currents) (meaning w.1)) q.writes
    (λ x w. subst (LeadsHere (addresses d.currents)) (sym (ap meaning w.names ∙ stable_here is small w.to w.leads)) w.leads) d.writes in
    let each : (at : ℕ) → contains d.now.gray at ≡ true → (page_of at == page) ≡ true → EachField others at (λ i w. LeadsHere (addresses d.currents) (meaning w)) =
    λ at gray in_it m i there below.
    let bounds = page_bounds at page (eqb-true (page_of at) page in_it) in
    let covered = all.covered at bounds.0 bounds.1 (d.grays at gray) in
    let within = start_within is.laid at covered.0 in
    let same : within.fields ≡ m = cc (sym (kept at within.fields covered.0 within.object) ∙ there) in
    let less : i < within.fields = omega (arith, same, below) in
    let long = (object_header d.moved at within.fields within.object).1 in
    put_named (λ w. LeadsHere (addresses d.currents) (meaning w)) q.writes d.moved (field_at at i) (omega (arith, less, long)) leads (covered.1 within.fields i within.object less) in
    let last = scanned_state d.next d.now page in
    let complete = scan_same q.writes is small writes in
    let laid = still_underway small (scan_laid complete.is page each) in
    let born : TellsBirths s places remaining words → TellsBirths last d.currents d.rest others =
    λ tells. scan_births d.is page q.writes writes (d.births (subst (λ (p : Placing). TellsBirths s p.places p.remaining words) (sym first) tells)) in
    let backed = AllByRecursion-map (λ (u : UndoEntry). IsHereWrite d.currents d.moved u.object u.field u.was) (λ u. IsHereWrite d.currents others u.object u.field u.was) v.us
    (λ u one. record { is = record { start = one.is.start; fields = one.is.fields; stands = kept u.object one.is.fields one.is.start one.is.stands; within = one.is.within }; leads = one.leads }) d.backed in
    let stands = scan_stands is small page q.writes writes v.t v.made v.g v.us d.stands in
    let behind : others ≡ put_records words (records_of page q) = sym (fold-append put_record words q.copies (Scan page q.writes ∷ []) ∙ ap (λ (l : List ℕ). put_record l (Scan page q.writes)) d.puts) in
    record {
      next = last;
      collection = with_scanned d.now page;
      currents = d.currents;
      rest = d.rest;
      passes = after_more s q.copies (Scan page q.writes) ∙ ap (option_and_then (λ m. collecting_after m (Scan page q.writes))) d.passes ∙ row;
      placed = fold-append moved_by (placing_of places remaining) q.copies (Scan page q.writes ∷ [])
          ∙ ap (λ (p : Placing). moved_by (moved_by_all p q.copies) (Scan page q.writes)) (sym first)
          ∙ ap (λ (p : Placing). moved_by p (Scan page q.writes)) d.placed;
      untouched = record { undo = d.untouched.undo; commits = d.untouched.commits; next = d.untouched.next };
      copied = subst (λ (p : Placing). HaveBeenCopied p.places p.remaining d.currents d.rest) first d.copied;
      births = λ tells. subst (TellsBirths last d.currents d.rest) behind (born tells);
      underway = subst (IsUnderway last (with_scanned d.now page) d.currents d.rest) behind laid;
      black = λ at here. contains-without d.now.gray page at ∙ out_of (contains d.now.gray at) (eq-eqb (page_of at) page here);
      backed = subst (λ (l : List ℕ). AreBacked d.currents l v.us) behind backed;
      stands = subst (λ (l : List ℕ). StandsCompleted v.t v.made d.currents d.rest v.g v.us l last) behind stands;
    }

-- The records of the scan of a page keep the heap.
pub scan_keeps : (s : State) (k : Collection) (places remaining : Places) (words : List ℕ) (v : View) (page : ℕ) (records : List Record) → IsUnderway s k places remaining words → AreBacked places words v.us
    → StandsCompleted v.t v.made places remaining v.g v.us words s → v.before ≡ placing_of places remaining → scan_records (spaces_of s) k words page ≡ Some records
    → KeepHeap s places remaining words page records v.t v.made v.g v.us
scan_keeps s k places remaining words v page records is backed stands before planned =
    let plan = planned_parts page (scan (spaces_of s) k words page) records planned in
    let q = plan.0 in
    let run = in_page (is_current (spaces_of s) page) (visit_all (spaces_of s) k words nothing (64 * page) 64) q plan.1 in
    let first = done_first s k places remaining words v is before backed stands in
    subst (λ (rs : List Record). KeepHeap s places remaining words page rs v.t v.made v.g v.us) plan.2
    (planned_keeps s k places remaining (underway is).from.starts words v page q first before run.0 (visits s k places remaining words v nothing q (underway is) first (64 * page) 64 run.1))
