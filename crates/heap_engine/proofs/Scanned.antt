-- What the scan leaves that comes before a field is read or written.
use Rattle.std.proofs.Common.{◌≡◌, ℕ, ◌+◌, ◌<◌, List, [], ◌∷◌, ◌++◌, Option, Some, fold, length, true, sym, ap, ◌∙◌, subst, arith, length-append}
use Rattle.std.specs.Prelude.{IsSome, IfSome, slice_index}
use Rattle.std.specs.Option.{option_map}
use Rattle.std.specs.FinSet as set
use Rattle.std.proofs.lemmas.List.Sums.{fold-append}
use Rattle.std.proofs.lemmas.List.Concat.{flat_map-append}
use Rattle.heap_words.specs.Word.{meaning}
use Rattle.heap_spaces.specs.declared.collection.CopiedObject.{CopiedObject}
use Rattle.heap_spaces.specs.Collection.{Collection, owed_by}
use Rattle.heap_spaces.specs.Copying.{with_copies}
use Rattle.heap_spaces.specs.Spaces.{SpacesState, with_copied}
use Rattle.log_records.specs.declared.Record.{Record}
use Rattle.log_records.specs.declared.Record.TheVariants.{Update}
use Rattle.log_records.specs.Record.{spelling, spellings}
use Rattle.log_machine.specs.Machine.{field_at, put_record}
use Rattle.log_machine.specs.UndoEntry.{undo_entry}
use Rattle.object_layout.specs.Layout.{field_words}
use Rattle.object_locks.specs.declared.holding.Mode.TheVariants.{Shared, Exclusive}
use Rattle.txn_table.specs.declared.place.Place.TheVariants.{Stable}
use Rattle.txn_table.specs.Table.{TableState, transaction_of, with_transaction, Changes}
use Rattle.heap_memory.specs.Memory.{Memory, own}
use Rattle.heap_memory.specs.Refusals.{asked}
use Rattle.heap_memory.specs.Collecting.{copied_in, barrier_records, spaces_with, spaces_behind, collection_with, collection_behind}
use Rattle.heap_memory.specs.Leaves.{Adds, Leaves, LeavesOwn, IsAsItWas, GetsAt, Writes, with_read, pages_of}
use Rattle.heap_model.specs.Lsns.{log_next_lsn}
use Rattle.page_redo.specs.Redo.{redo_all}
use Rattle.heap_engine.specs.declared.barrier.PagePlan.{PagePlan}
use Rattle.heap_engine.specs.Barrier.{planned_records, page_in, words_of, scanned_by, word_after, is_scan_of, CanScan, IsSoundCollection}
use Rattle.heap_engine.proofs.Left.{from_same, left_then}
use Rattle.heap_engine.proofs.ScanBehind.{scan_spaces, scan_collection, scan_word}
use Rattle.heap_engine.proofs.Tables.{there, told, turned}

-- memory as it was can carry out the same
pub same_ready : (old mid : Memory) (records : List Record) → IsAsItWas old mid → CanScan old records → CanScan mid records
same_ready old mid records same ready =
    let with_words = subst (λ (ws : List ℕ). CanScan (record old { words = ws }) records) (sym same.words) ready in
    let with_spaces = subst (λ (s : SpacesState). CanScan (record old { words = mid.words; spaces = s }) records) (sym same.spaces) with_words in
    let all = subst (λ (k : Option Collection). CanScan (record old { words = mid.words; spaces = mid.spaces; collection = k }) records) (sym same.collection) with_spaces in
    record { keeps = all.keeps; owed = all.owed; fresh = all.fresh; below = all.below; few = all.few; sound = all.sound; owes = all.owes }

-- The spaces and the collection when a scan has been noted.
pub record IsNoted (old : SpacesState) (runs : Option Collection) (records : List Record) (new : SpacesState) (now : Option Collection) : Type 0 where
  pub spaces : new ≡ spaces_behind old records
  pub collection : now ≡ collection_behind runs records

pub noted : (plan : PagePlan) (old new : SpacesState) (runs mid now : Option Collection) (copies : List CopiedObject) → copies ≡ copied_in (planned_records plan.scan) → mid ≡ option_map (λ k. with_copies k copies) runs
    → new ≡ with_copied old (words_of (copied_in (planned_records plan.scan))) → now ≡ option_map (λ k. scanned_by k (page_in plan.scan)) mid → IsNoted old runs (planned_records plan.scan) new now
noted plan old new runs mid now copies are kept spaces collection =
    let scans : is_scan_of (page_in plan.scan) (planned_records plan.scan) ≡ true = plan.scans in
    record {
      spaces = spaces ∙ sym (scan_spaces (page_in plan.scan) (planned_records plan.scan) old scans);
      collection =
          collection
          ∙ ap (option_map (λ k. scanned_by k (page_in plan.scan))) (kept ∙ ap (λ (cs : List CopiedObject). option_map (λ k. with_copies k cs) runs) are)
          ∙ scan_collection (page_in plan.scan) (planned_records plan.scan) runs scans;
    }

module _ (m : Memory) (records : List Record) (ready : CanScan m records) (new : SpacesState) (now : Option Collection) (is : IsNoted m.spaces m.collection records new now) where
  -- what is known of a collection is known then
  pub noted_owes : new.owed ≡ owed_by now
  noted_owes = ap (λ (s : SpacesState). s.owed) is.spaces ∙ ready.owes ∙ sym (ap owed_by is.collection)

  pub noted_sound : (k : Collection) → now ≡ Some k → IsSoundCollection new k
  noted_sound k has = subst (λ (s : SpacesState). IsSoundCollection s k) (sym is.spaces) (ready.sound k (sym is.collection ∙ has))

-- The bytes of a scan and a write.
pub update_bytes : (records : List Record) (t object field was word : ℕ) → length (spellings (records ++ Update t object field was word ∷ [])) ≡ length (spellings records) + 27
update_bytes records t object field was word =
    ap length (flat_map-append spelling records (Update t object field was word ∷ []))
    ∙ omega (arith, length-append (spellings records) (spellings (Update t object field was word ∷ [])))

-- What is left when a field was read.
pub got_at : (old mid now new : Memory) (session h object field number word : ℕ) (records : List Record) → IsAsItWas old mid → records ≡ barrier_records old object field
    → Leaves mid now records mid.table (set.insert mid.locks (asked number Shared object)) (spaces_behind mid.spaces records) (collection_behind mid.collection records) mid.sealed
    → IsSome (own old session) → IfSome (own old session) (λ t. number ≡ t.number) → word ≡ slice_index (field_words now.words object) field
    → IfSome (own now session) (λ t. LeavesOwn now new session [] (with_read t h (meaning word)) now.locks) → GetsAt old new session (Stable object) field h
got_at old mid now new session h object field number word records same are left some numbered is then =
    let t = there (own old session) some in
    let here : own now session ≡ Some t.0 = ap (λ (tb : TableState). transaction_of tb session) (left.table ∙ same.table) ∙ t.1 in
    let end = told (own now session) t.0 (λ u. LeavesOwn now new session [] (with_read u h (meaning word)) now.locks) here then in
    let as_number = told (own old session) t.0 (λ u. number ≡ u.number) t.1 numbered in
    let all = from_same old mid new records (with_transaction now.table session (with_read t.0 h (meaning word))) now.locks now.spaces now.collection now.sealed same
    (left_then mid now new records mid.table (with_transaction now.table session (with_read t.0 h (meaning word))) (set.insert mid.locks (asked number Shared object)) now.locks (spaces_behind mid.spaces records) now.spaces (collection_behind mid.collection records) now.collection mid.sealed now.sealed left end) in
    let words : now.words ≡ fold put_record old.words (barrier_records old object field) = left.words ∙ (λ i. fold put_record (same.words i) (are i)) in
    let meant : word ≡ slice_index (field_words (fold put_record old.words (barrier_records old object field)) object) field = is ∙ ap (λ (ws : List ℕ). slice_index (field_words ws object) field) words in
    record {
      transaction = t.0;
      was = t.1;
      left = record {
        log = subst (λ rs. Adds old.log new.log rs) are all.log;
        words = all.words ∙ ap (fold put_record old.words) are;
        lsns = all.lsns ∙ ap (λ rs. (redo_all (log_next_lsn old.log) (pages_of old) rs).lsns) are;
        store = all.store;
        table = all.table ∙ (λ i. with_transaction ((left.table ∙ same.table) i) session (with_read t.0 h (meaning (meant i))));
        locks = all.locks ∙ left.locks ∙ (λ i. set.insert (same.locks i) (asked (as_number i) Shared object));
        spaces = all.spaces ∙ left.spaces ∙ (λ i. spaces_behind (same.spaces i) (are i));
        collection = all.collection ∙ left.collection ∙ (λ i. collection_behind (same.collection i) (are i));
        sealed = all.sealed ∙ left.sealed ∙ same.sealed;
      };
    }

-- What is left when a word was put into one.
pub wrote_at : (old mid new : Memory) (session object field number was word : ℕ) (page : Option ℕ) (records : List Record) → IsAsItWas old mid → records ≡ barrier_records old object field → is_scan_of page records ≡ true
    → CanScan old records → field_at object field < length old.words → was ≡ word_after (field_at object field) (slice_index old.words (field_at object field)) records
    → Leaves mid new (records ++ Update number object field was word ∷ []) new.table (set.insert mid.locks (asked number Exclusive object)) (spaces_behind mid.spaces records) (collection_behind mid.collection records) mid.sealed
    → IsSome (own old session) → IfSome (own old session) (λ t. number ≡ t.number)
    → Changes old.table new.table session (λ t. record t { undo = undo_entry object field was ∷ t.undo })
    → Writes old new session (Stable object) field word
wrote_at old mid new session object field number was word page records same are scans ready inside behind left some numbered changed =
    let d = turned old.table new.table session (λ t. record t { undo = undo_entry object field was ∷ t.undo }) some changed in
    let t = d.transaction in
    let as_number = told (own old session) t (λ u. number ≡ u.number) d.was numbered in
    let at = field_at object field in
    let as_was : was ≡ slice_index (fold put_record old.words (barrier_records old object field)) at =
    behind ∙ scan_word page records old.words at scans inside ready.below ∙ ap (λ rs. slice_index (fold put_record old.words rs) at) are in
    let wanted : records ++ Update number object field was word ∷ [] ≡ barrier_records old object field ++ Update t.number object field (slice_index (fold put_record old.words (barrier_records old object field)) at) word ∷ [] =
    λ i. are i ++ Update (as_number i) object field (as_was i) word ∷ [] in
    let all = from_same old mid new (records ++ Update number object field was word ∷ []) new.table (set.insert mid.locks (asked number Exclusive object)) (spaces_behind mid.spaces records) (collection_behind mid.collection records) mid.sealed same left in
    let update : Record = Update t.number object field (slice_index (fold put_record old.words (barrier_records old object field)) at) word in
    record {
      transaction = t;
      was = d.was;
      left = record {
        log = subst (λ rs. Adds old.log new.log rs) wanted all.log;
        words = all.words ∙ ap (fold put_record old.words) wanted;
        lsns = all.lsns ∙ ap (λ rs. (redo_all (log_next_lsn old.log) (pages_of old) rs).lsns) wanted;
        store = all.store;
        table = d.is ∙ (λ i. with_transaction old.table session (record t { undo = undo_entry object field (as_was i) ∷ t.undo }));
        locks = all.locks ∙ (λ i. set.insert (same.locks i) (asked (as_number i) Exclusive object));
        spaces = all.spaces ∙ (λ i. spaces_behind (same.spaces i) (are i)) ∙ sym (fold-append spaces_with old.spaces (barrier_records old object field) (update ∷ []));
        collection = all.collection ∙ (λ i. collection_behind (same.collection i) (are i)) ∙ sym (fold-append collection_with old.collection (barrier_records old object field) (update ∷ []));
        sealed = all.sealed ∙ same.sealed;
      };
    }
