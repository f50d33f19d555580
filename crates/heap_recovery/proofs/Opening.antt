-- What an opening reads of a log, and what it leaves.
use Rattle.std.proofs.Common.{◌≡◌, ℕ, ◌+◌, ◌<◌, ◌≤◌, cond, List, [], ◌∷◌, ◌++◌, length, length-append, Option, None, Some, Result, Ok, Err, refl, sym, ap, ◌∙◌, subst, arith}
use Rattle.std.specs.Prelude.{nat_lt, if◌then◌else◌, IsFalse, IfOk}
use Rattle.std.proofs.lemmas.Bool.{lt-ltb}
use Rattle.std.proofs.lemmas.Bool.Decides.{nat_tests}
use Rattle.disk_model.specs.declared.disk.DiskError.{DiskError}
use Rattle.disk_model.specs.Disk.{part, Only, Narrows, SameOutside}
use Rattle.gate_slot.specs.Passing.{Passes}
use Rattle.gated_log.specs.declared.log.Log.{Log}
use Rattle.gated_log.specs.Log.{with_batch, HoldsBatches, batches_bytes}
use Rattle.gated_log.proofs.LogLaws.{buffer_size-Keeps}
use Rattle.gated_log.specs.LogRoom.{used_bytes}
use Rattle.gated_log.specs.LogState.{log_place, log_room, log_tail, buffer_size, log_used, log_used_with, log_count, is_waiting, IsBufferEmpty, Keeps}
use Rattle.image_plan.specs.declared.plan.Plan.{Plan}
use Rattle.image_plan.specs.Plan.{log_offset}
use Rattle.log_records.specs.declared.Record.{Record}
use Rattle.log_records.specs.Record.{spelling, spellings}
use Rattle.log_records.proofs.RecordLaws.{some_spelling}
use Rattle.log_machine.specs.Machine.{State, Loser, settled, after_all, losing, losing_in, all_taken_back, each_taken_back, rollback, abort_each, reserve}
use Rattle.log_machine.proofs.MachineLaws.{after_all-append2}
use Rattle.log_machine.proofs.StateLaws.{can_roll_back}
use Rattle.log_machine.proofs.AbortLaws.{rollback_fits, rollback_reaches}
use Rattle.page_redo.specs.Pages.{Pages}
use Rattle.page_redo.specs.Redo.{redo_all, redone}
use Rattle.page_redo.proofs.RedoLaws.{redo_all-append}
use Rattle.page_store.specs.declared.store.PageStore.{PageStore}
use Rattle.page_store.specs.StoreState.{store_plan, store_log, stored_lsn, has_failed, Knows}
use Rattle.page_store.proofs.StoreLaws.{knows_behind_log}
use Rattle.page_cache.specs.declared.cache.PageCache.{PageCache}
use Rattle.page_cache.specs.CacheState.{cached, cache_store}
use Rattle.object_layout.specs.CollectionWalk.{FromSpace, IsWalkFaultBeside, IsWalkedBeside}
use Rattle.object_layout.proofs.CollectionLaws.{beside_walked_fault}
use Rattle.walk_laws.specs.Heap.{IsStateWalked, from_space}
use Rattle.heap_model.proofs.Step.Room.{records_of-with_batch}
use Rattle.heap_model.specs.Bits.{AreOf64Bits}
use Rattle.heap_model.specs.Image.{StoredHeap, origin_of, redone_words, words_of, IsShapedLog, Holds, records_in, state_in, log_part, SameOutsideLog}
use Rattle.heap_model.specs.Core.{force_calls}
use Rattle.heap_model.specs.Opening.{opening_calls, rollback_in, rollback_of, rolled_back}
use Rattle.heap_recovery.specs.declared.error.RecoverError.{RecoverError}
use Rattle.heap_recovery.specs.declared.error.RecoverError.TheVariants.{NoMemory, NotHeap, Damaged, Disk}
use Rattle.heap_recovery.specs.declared.reading.Reading.{Reading}
use Rattle.heap_recovery.specs.declared.recovery.Recovered.{Recovered}
use Rattle.heap_recovery.specs.Recovered.{IsRead, IsRecovered, IsFromOutside, ErrorPasses}

-- a log with no pending record is known to be so
pub none_waits : (log : Log) (batches : List (List Record)) → Keeps log batches [] → IsBufferEmpty log
none_waits log batches keeps = buffer_size-Keeps log batches [] keeps

-- the bytes that it uses
pub used_of : (log : Log) (batches : List (List Record)) → Keeps log batches [] → log_used log ≡ length (batches_bytes batches) + 1
used_of log batches keeps = ap (used_bytes (log_tail log)) (none_waits log batches keeps) ∙ ap (λ (n : ℕ). n + 1) keeps.tail

used_more : (tail buffer k : ℕ) → used_bytes tail (buffer + k) ≤ used_bytes tail buffer + (k + 5)
used_more tail buffer k = grind (arith, nat_tests)

fits_with : (log : Log) (s : State) (es : List Loser) → losing s ≡ es → log_used log + reserve s ≤ log_room log → log_used_with log (length (spellings (rollback s))) ≤ log_room log
fits_with log s [] none le =
    let nothing : rollback s ≡ [] = ap abort_each none in
    let same : buffer_size log ≡ buffer_size log + 0 = omega arith in
    subst (λ (rs : List Record). log_used_with log (length (spellings rs)) ≤ log_room log) (sym nothing)
    (subst (λ (h : ℕ). used_bytes (log_tail log) h ≤ log_room log) same (omega (arith, le)))
fits_with log s (e ∷ es) some le =
    let size = rollback_fits s (λ none. (let never : e ∷ es ≡ [] = sym some ∙ none in cc never)) in
    let more = used_more (log_tail log) (buffer_size log) (length (spellings (rollback s))) in
    omega arith

-- a log that keeps room for a rollback has room for its records
pub roll_fits : (log : Log) (s : State) (records : List Record) → log_used log + reserve s ≤ log_room log → records ≡ rollback s → log_used_with log (length (spellings records)) ≤ log_room log
roll_fits log s records le is = subst (λ (rs : List Record). log_used_with log (length (spellings rs)) ≤ log_room log) (sym is) (fits_with log s (losing s) refl le)

-- what is said of a log that lies where another does is said of that one
pub placed_there : (old new : Log) (P : ℕ → ℕ → Type 0) → log_place new ≡ log_place old → log_room new ≡ log_room old → P (log_place new) (log_room new) → P (log_place old) (log_room old)
placed_there old new P at room h = subst (P (log_place old)) room (let Q : ℕ → Type 0 = λ n. P n (log_room new) in subst Q at h)

-- nothing else can be left where the disk was only read
pub only_still : (image now : List ℕ) (before may_leave : List ℕ → Type 0) → Only image before → now ≡ image → Narrows before may_leave → Only now may_leave
only_still image now before may_leave only is narrows c left = only c (narrows c left) ∙ sym is

-- an opening that fails before its first call
pub error_passes : (n before now : ℕ) (e : RecoverError) → now ≡ before → IsFromOutside e → ErrorPasses n before now e
error_passes n before now NoMemory same outside = same
error_passes n before now NotHeap same outside = absurd outside
error_passes n before now (Damaged at) same outside = absurd outside
error_passes n before now (Disk e) same outside = record {
  ok = tt;
  some = (0, (omega arith), same);
  stopped = λ told any. (0, any, same);
}

-- a walk that passes finds no fault
no_fault : (words : List ℕ) (base used : ℕ) (from : Option FromSpace) (fault : Option ℕ) → IsWalkedBeside words base used from → ((at : ℕ) → fault ≡ Some at → IsWalkFaultBeside words base used from at) → fault ≡ None
no_fault words base used from None walked faults = refl
no_fault words base used from (Some at) walked faults = absurd (beside_walked_fault words base used from at walked (faults at refl))

module _ (stored : StoredHeap) (read : Reading) (is : IsRead stored read) where
  -- the records that roll back are those of what was read
  pub same_rollback : rollback_of stored ≡ rollback read.state
  same_rollback = ap rollback_in is.state

  pub in_log : (P : ℕ → ℕ → Type 0) → P (log_place read.log) (log_room read.log) → P log_offset stored.super.log_bytes
  in_log P h = subst (P log_offset) is.room (let Q : ℕ → Type 0 = λ n. P n (log_room read.log) in subst Q is.place h)

  to_log : (P : ℕ → ℕ → Type 0) → P log_offset stored.super.log_bytes → P (log_place read.log) (log_room read.log)
  to_log P h = let Q : ℕ → Type 0 = λ n. P n (log_room read.log) in subst Q (sym is.place) (subst (P log_offset) (sym is.room) h)

  -- the batches stand where the log was read
  pub held_there : (image now : List ℕ) → HoldsBatches (log_part stored.super image) stored.batches → now ≡ image → HoldsBatches (part now (log_place read.log) (log_room read.log)) stored.batches
  held_there image now holds same = to_log (λ n m. HoldsBatches (part now n m) stored.batches) (subst (λ (l : List ℕ). HoldsBatches (log_part stored.super l) stored.batches) (sym same) holds)

  pub held : (image now : List ℕ) → Holds stored image → now ≡ image → HoldsBatches (part now (log_place read.log) (log_room read.log)) stored.batches
  held image now holds same = held_there image now holds.log same

  pub outside_log : (image now new : List ℕ) → now ≡ image → SameOutside (log_place read.log) (log_place read.log + log_room read.log) now new → SameOutsideLog stored.super image new
  outside_log image now new same outside = subst (λ (l : List ℕ). SameOutsideLog stored.super l new) same (in_log (λ n m. SameOutside n (n + m) now new) outside)

  pub rolled_held : (new : List ℕ) → HoldsBatches (part new (log_place read.log) (log_room read.log)) (with_batch stored.batches (rollback read.state)) → HoldsBatches (log_part stored.super new) (rolled_back stored).batches
  rolled_held new holds =
      subst (λ (l : List Record). HoldsBatches (log_part stored.super new) (with_batch stored.batches l)) (sym same_rollback)
      (in_log (λ n m. HoldsBatches (part new n m) (with_batch stored.batches (rollback read.state))) holds)

  -- the words without what is rolled back
  pub committed : all_taken_back read.state (cached read.cache).words ≡ words_of stored
  committed =
      ap (λ (pages : Pages). all_taken_back read.state pages.words) is.cache.pages
      ∙ sym (ap (λ (o : Option State). each_taken_back (losing_in o) (redone_words stored)) is.state)

  -- the records that roll back are redone after those of the log
  pub rolled_pages : redo_all (log_count read.log + 1) (cached read.cache) (rollback read.state) ≡ redone (origin_of stored) stored.pages (records_in (rolled_back stored))
  rolled_pages =
      let first : log_count read.log + 1 ≡ 1 + length (records_in stored) = omega (arith, is.log.count) in
      ap (λ (n : ℕ). redo_all n (cached read.cache) (rollback read.state)) first
      ∙ ap (λ (pages : Pages). redo_all (1 + length (records_in stored)) pages (rollback read.state)) is.cache.pages
      ∙ sym (redo_all-append 1 stored.pages (records_in stored) (rollback read.state))
      ∙ ap (λ (rs : List Record). redone (origin_of stored) stored.pages (records_in stored ++ rs)) (sym same_rollback)
      ∙ ap (redone (origin_of stored) stored.pages) (sym (records_of-with_batch stored.batches (rollback_of stored)))

  -- the pages that are stored are known still where only bytes of the log were written
  pub known_still : (cache : PageCache) (image now new : List ℕ) → cache_store cache ≡ cache_store read.cache → Knows (cache_store read.cache) image → now ≡ image
      → SameOutside (log_place read.log) (log_place read.log + log_room read.log) now new → Knows (cache_store cache) new
  known_still cache image now new same knows still outside =
      let bytes : stored.super.log_bytes ≡ store_log (cache_store read.cache) = sym (ap (λ (of : Plan). of.log_bytes) is.cache.plan) in
      let there = subst (λ (n : ℕ). SameOutside log_offset (log_offset + n) image new) bytes (outside_log image now new still outside) in
      subst (λ (store : PageStore). Knows store new) (sym same) (knows_behind_log (cache_store read.cache) image new knows there)

  -- what was read is a shaped log, if the walk of its words passes
  pub read_shaped : (used : log_used read.log + reserve read.state ≤ log_room read.log) (now : List ℕ) → now ≡ all_taken_back read.state (cached read.cache).words → AreOf64Bits now → IsStateWalked read.state now → IsShapedLog stored
  read_shaped room now rolled fit walked = record {
    limits = is.limits;
    good = is.good;
    state = read.state;
    reached = is.state;
    room = omega (arith, room, used_of read.log stored.batches is.log, is.room);
    size = is.cache.size;
    lsns_size = is.cache.lsns_size;
    behind = is.cache.behind;
    fit = subst AreOf64Bits (rolled ∙ committed) fit;
    walked = subst (λ (l : List ℕ). IsStateWalked read.state l) (rolled ∙ committed) walked;
  }

  -- a shaped log has the room for its rollback, and its walk passes
  shaped_walk : (shaped : IsShapedLog stored) (state : State) → state ≡ read.state → (now : List ℕ) → now ≡ all_taken_back read.state (cached read.cache).words → IsStateWalked state now
  shaped_walk shaped state same now rolled =
      let one : shaped.state ≡ state = (let both : Some shaped.state ≡ Some read.state = sym shaped.reached ∙ is.state in cc) in
      subst (λ (x : State). IsStateWalked x now) one (subst (λ (l : List ℕ). IsStateWalked shaped.state l) (sym (rolled ∙ committed)) shaped.walked)

  -- so that finds no fault
  pub shaped_fault : (shaped : IsShapedLog stored) (state : State) → state ≡ read.state → (now : List ℕ) → now ≡ all_taken_back read.state (cached read.cache).words
      → (fault : Option ℕ) → ((at : ℕ) → fault ≡ Some at → IsWalkFaultBeside now state.base state.used (from_space state) at) → fault ≡ None
  shaped_fault shaped state same now rolled fault faults = no_fault now state.base state.used (from_space state) fault (shaped_walk shaped state same now rolled) faults

  -- what the log says once it is rolled back
  rolled_state : state_in (rolled_back stored) ≡ Some (settled read.state)
  rolled_state =
      ap (λ (rs : List Record). after_all (origin_of stored).state rs) (records_of-with_batch stored.batches (rollback_of stored) ∙ ap (λ (rs : List Record). records_in stored ++ rs) same_rollback)
      ∙ after_all-append2 (origin_of stored).state read.state (records_in stored) (rollback read.state) is.state
      ∙ rollback_reaches read.state (can_roll_back stored.super.pages stored.super.first read.state (records_in stored) is.limits.some_pages is.limits.few_pages is.good is.state).sound

  -- what is opened
  pub recovered : (r : Result Recovered RecoverError) (log : Log) (cache : PageCache) (state : State) → state ≡ read.state → log_place log ≡ log_place read.log → log_room log ≡ log_room read.log
      → cached cache ≡ redo_all (log_count read.log + 1) (cached read.cache) (rollback read.state) → cache_store cache ≡ cache_store read.cache → Keeps log (with_batch stored.batches (rollback read.state)) []
      → IfOk r (λ found. found.log ≡ log) → IfOk r (λ found. found.cache ≡ cache)
      → IfOk r (λ found. found.state ≡ settled state) → IfOk r (IsRecovered stored)
  recovered (Err e) log cache state same_state at room pages store keeps same_log same_cache same_end = tt
  recovered (Ok found) log cache state same_state at room pages store keeps same_log same_cache same_end = record {
    log = subst (λ (x : Log). Keeps x (rolled_back stored).batches []) (sym same_log) (subst (λ (l : List Record). Keeps log (with_batch stored.batches l) []) (sym same_rollback) keeps);
    place = ap log_place same_log ∙ at ∙ is.place;
    room = ap log_room same_log ∙ room ∙ is.room;
    cached = ap cached same_cache ∙ pages ∙ rolled_pages;
    plan = ap (λ (x : PageCache). store_plan (cache_store x)) same_cache ∙ ap store_plan store ∙ is.cache.plan;
    unfailed = subst (λ (x : PageStore). IsFalse (has_failed x)) (sym (ap cache_store same_cache ∙ store)) is.cache.unfailed;
    flushed = λ p lt. ap (λ (x : PageStore). stored_lsn x p) (ap cache_store same_cache ∙ store) ∙ is.cache.flushed p lt;
    state = rolled_state ∙ ap Some (ap settled (sym same_state) ∙ sym same_end);
  }

-- what is opened is a shaped log
pub opened_shaped : (stored : StoredHeap) (read : Reading) (is : IsRead stored read) (r : Result Recovered RecoverError) (now : List ℕ) (state : State) (fault : Option ℕ)
    → log_used read.log + reserve read.state ≤ log_room read.log → state ≡ read.state → now ≡ all_taken_back read.state (cached read.cache).words
    → AreOf64Bits now → (fault ≡ None → IsStateWalked state now) → IfOk r (λ found. fault ≡ None) → IfOk r (IsRecovered stored)
    → IfOk r (λ found. (other : StoredHeap) × IsShapedLog other × IsRecovered other found)
opened_shaped stored read is (Err e) now state fault room same taken fit passes none found = tt
opened_shaped stored read is (Ok f) now state fault room same taken fit passes none found =
    let walked = subst (λ (x : State). IsStateWalked x now) same (passes none) in
    (stored, read_shaped stored read is room now taken fit walked, found)

-- what is known of the pages is known of those that were opened
pub known_found : (r : Result Recovered RecoverError) (cache : PageCache) (image : List ℕ) → IfOk r (λ found. found.cache ≡ cache) → Knows (cache_store cache) image → IfOk r (λ found. Knows (cache_store found.cache) image)
known_found (Ok found) cache image same knows = subst (λ (x : PageCache). Knows (cache_store x) image) (sym same) knows
known_found (Err e) cache image same knows = tt

-- a force makes four calls where a record is pending
some_bytes : (r : Record) (rs : List Record) → 0 < length (spellings (r ∷ rs))
some_bytes r rs = omega (arith, some_spelling r, length-append (spelling r) (spellings rs))

waiting_calls : (n : ℕ) (rs : List Record) → n ≡ 4 + length (spellings rs) → (if nat_lt 4 n then 4 else 0) ≡ force_calls rs
waiting_calls n [] is = ap (λ (k : ℕ). if nat_lt 4 k then 4 else 0) is
waiting_calls n (r ∷ rs) is = ap (λ b. cond b 4 0) (lt-ltb 4 n (omega (arith, is, some_bytes r rs)))

module _ (stored : StoredHeap) (read : Reading) (is : IsRead stored read) (log : Log) (keeps : Keeps log stored.batches (rollback read.state)) where
  -- so the calls of an opening are those of its force
  pub forced_passes : (before mid now : ℕ) (r : Result (Unit {0}) DiskError) → mid ≡ before → Passes (if is_waiting log then 4 else 0) mid now r → Passes (opening_calls stored) before now r
  forced_passes before mid now r same passes =
      let calls : (if is_waiting log then 4 else 0) ≡ opening_calls stored =
      waiting_calls (buffer_size log) (rollback read.state) (buffer_size-Keeps log stored.batches (rollback read.state) keeps) ∙ ap force_calls (sym (same_rollback stored read is)) in
      subst (λ (n : ℕ). Passes n before now r) calls (subst (λ (n : ℕ). Passes (if is_waiting log then 4 else 0) n now r) same passes)

  -- and no record is pending where nothing is rolled back
  pub nothing_waits : rollback_of stored ≡ [] → IsBufferEmpty log
  nothing_waits none = none_waits log stored.batches (subst (λ (rs : List Record). Keeps log stored.batches rs) (sym (same_rollback stored read is) ∙ none) keeps)
