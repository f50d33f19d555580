-- How the replay of a log continues, and how it ends.
use Rattle.std.proofs.Common.{◌≡◌, ℕ, ◌+◌, ◌-◌, ◌<◌, ◌≤◌, true, false, List, [], ◌∷◌, ◌++◌, length, take, Option, None, Some, Result, Ok, Err, is_some, refl, sym, ap, ◌∙◌, subst, arith, length-append, inl, inr}
use Rattle.std.specs.Prelude.{Bool, IfOk, IsFalse, max}
use Rattle.std.proofs.lemmas.Bool.{cases_lt}
use Rattle.std.proofs.lemmas.List.{take_at, take_all, take-append-le, get_or_past}
use Rattle.disk_model.specs.Disk.{part}
use Rattle.gated_log.specs.declared.log.Log.{Log}
use Rattle.gated_log.specs.declared.reading.LogError.{LogError}
use Rattle.gated_log.specs.declared.reading.LogError.TheVariants as logging
use Rattle.gated_log.specs.declared.reading.LogReader.{LogReader}
use Rattle.gated_log.specs.Log.{BreaksAt, HoldsBatches}
use Rattle.gated_log.specs.LogCause.{log_device_error}
use Rattle.gated_log.specs.Reader.{HasGiven, reader_lsn}
use Rattle.gated_log.specs.LogState.{log_place, log_room, log_used, log_count, Keeps}
use Rattle.image_plan.specs.declared.superblock.Super.{Super}
use Rattle.log_records.specs.declared.Record.{Record}
use Rattle.log_machine.specs.Machine.{State, start, after, after_all, reserve}
use Rattle.page_redo.specs.Origin.{heap_origin}
use Rattle.log_machine.proofs.MachineLaws.{after_all-append}
use Rattle.log_machine.specs.Replay.{Bounds}
use Rattle.log_machine.proofs.ReplayLaws.{bounds_on}
use Rattle.page_redo.specs.Pages.{Pages, pages_in, lsn_of}
use Rattle.page_redo.specs.Redo.{EachLacks, redo_record, redone}
use Rattle.page_redo.proofs.RedoLaws.{redo_all-append, lsn-redo_all, last_lsn-reached, lsns-redo_all}
use Rattle.page_store.specs.declared.store.PageStore.{PageStore}
use Rattle.page_store.specs.StoreState.{store_plan, stored_lsn, has_failed}
use Rattle.page_cache.specs.CacheState.{cached, cache_store, cache_failed, flushed_lsn, IsFirstPast}
use Rattle.heap_model.specs.Image.{StoredHeap, origin_of, records_in, next_lsn_of, log_part}
use Rattle.heap_recovery.specs.Causes.{error_device}
use Rattle.heap_recovery.specs.declared.at.At.TheVariants.{Reserve, Page}
use Rattle.heap_recovery.specs.declared.error.RecoverError.{RecoverError}
use Rattle.heap_recovery.specs.declared.reading.Reading.{Reading}
use Rattle.heap_recovery.specs.declared.replaying.Replay.{Replay}
use Rattle.heap_recovery.specs.Faults.{stored_in, HasSuper, HoldsLog, IsReplayed, HasRoom, IsReadable, IsFaultAt, IsToldOfLog}
use Rattle.heap_recovery.specs.Recovered.{IsRedone, IsRead, log_error}
use Rattle.heap_recovery.specs.Replayed.{heap_with, OneStuck, HasReplayed, HasReplayedLog}
use Rattle.heap_recovery.proofs.Opening.{used_of}

-- One more record.

pub none_of : (o : Option ℕ) → is_some o ≡ false → o ≡ None
none_of None is = refl
none_of (Some n) is = absurd (cc is)

one_more : (rs : List Record) (r : Record) → length (rs ++ r ∷ []) ≡ length rs + 1
one_more rs r = length-append rs (r ∷ [])

bounds_more : (pages i : ℕ) (s : State) → Bounds pages i s → Bounds pages (i + 1) s
bounds_more pages i s b = record { sound = b.sound; same_pages = b.same_pages; few = omega (arith, b.few); room = omega (arith, b.room) }

-- a record that can't follow is so with more after it
stuck_on : (s : Super) (rs : List Record) (lsn : ℕ) (r : Record) → OneStuck s rs lsn → OneStuck s (rs ++ r ∷ []) lsn
stuck_on s rs lsn r is =
    let P : List Record → Type 0 = λ l. is_some (after_all (start s.pages s.first) l) ≡ true in
    let Q : List Record → Type 0 = λ l. after_all (start s.pages s.first) l ≡ None in
    record {
      reached = omega (arith, is.reached, one_more rs r);
      first = record {
        before = subst P (sym (take-append-le (lsn - 1) rs (r ∷ []) (omega (arith, is.reached)))) is.first.before;
        stuck = subst Q (sym (take-append-le (lsn + 1 - 1) rs (r ∷ []) (omega (arith, is.reached)))) is.first.stuck;
      };
    }

module _ (s : Super) (at : Pages) (rs : List Record) (r : Record) (old new : Replay) (was : HasReplayed s at rs old) (same : cache_store new.cache ≡ cache_store old.cache) where
  unfailed : IsFalse (cache_failed new.cache)
  unfailed = subst (λ (x : PageStore). IsFalse (has_failed x)) (sym same) was.unfailed

  flushed : (p : ℕ) → p < pages_in s.pages → flushed_lsn new.cache p ≡ lsn_of at p
  flushed p lt = ap (λ (x : PageStore). stored_lsn x p) same ∙ was.flushed p lt

  some_more : (state : State) → Bounds s.pages (length rs + 1) state → Bounds s.pages (length (rs ++ r ∷ [])) state
  some_more state b = subst (λ (n : ℕ). Bounds s.pages n state) (sym (one_more rs r)) b

  -- after one that can't follow nothing is done
  pub replayed_behind : (lsn : ℕ) → old.unshaped ≡ Some lsn → new.unshaped ≡ old.unshaped → new.state ≡ old.state → HasReplayed s at (rs ++ r ∷ []) new
  replayed_behind lsn is kept state = record {
    plan = ap (λ (x : PageStore). store_plan x) same ∙ was.plan;
    unfailed = unfailed;
    size = was.size;
    lsns_size = was.lsns_size;
    flushed = flushed;
    bounds = some_more new.state (subst (λ (x : State). Bounds s.pages (length rs + 1) x) (sym state) (bounds_more s.pages (length rs) old.state was.bounds));
    all = λ none. (let never : None ≡ Some lsn = sym none ∙ kept ∙ is in cc never);
    stuck = λ k here. stuck_on s rs k r (was.stuck k (sym kept ∙ here));
  }

  pub replayed_past : is_some old.unshaped ≡ true → new.unshaped ≡ old.unshaped → new.state ≡ old.state → HasReplayed s at (rs ++ r ∷ []) new
  replayed_past some kept state = by old.unshaped refl some
    where
      by : (o : Option ℕ) → old.unshaped ≡ o → is_some o ≡ true → HasReplayed s at (rs ++ r ∷ []) new
      by None is stuck = absurd (cc stuck)
      by (Some lsn) is stuck = replayed_behind lsn is kept state

  -- one that follows is redone
  pub replayed_on : (lsn : ℕ) → lsn ≡ length rs + 1 → old.unshaped ≡ None → new.unshaped ≡ None → after old.state r ≡ Some new.state → cached new.cache ≡ redo_record lsn (cached old.cache) r → HasReplayed s at (rs ++ r ∷ []) new
  replayed_on lsn next none none' is redone_on =
      let so_far = was.all none in
      let place : lsn ≡ 1 + length rs = omega (arith, next) in
      record {
        plan = ap (λ (x : PageStore). store_plan x) same ∙ was.plan;
        unfailed = unfailed;
        size = was.size;
        lsns_size = was.lsns_size;
        flushed = flushed;
        bounds = some_more new.state (bounds_on s.pages (length rs) r old.state new.state was.bounds is);
        all = λ _. record {
          reached = after_all-append (start s.pages s.first) old.state rs r so_far.reached ∙ is;
          pages = redone_on ∙ ap (λ (n : ℕ). redo_record n (cached old.cache) r) place ∙ ap (λ (pages : Pages). redo_record (1 + length rs) pages r) so_far.pages ∙ sym (redo_all-append 1 at rs (r ∷ []));
        };
        stuck = λ k here. (let never : None ≡ Some k = sym none' ∙ here in cc never);
      }

  -- the first that can't follow is reported
  pub replayed_to : (lsn : ℕ) → lsn ≡ length rs + 1 → old.unshaped ≡ None → new.unshaped ≡ Some lsn → after old.state r ≡ None → new.state ≡ old.state → HasReplayed s at (rs ++ r ∷ []) new
  replayed_to lsn next none is stuck state =
      let so_far = was.all none in
      let from = start s.pages s.first in
      let P : List Record → Type 0 = λ l. is_some (after_all from l) ≡ true in
      let Q : List Record → Type 0 = λ l. after_all from l ≡ None in
      let before : take (lsn - 1) (rs ++ r ∷ []) ≡ rs = take_at rs (r ∷ []) (lsn - 1) (omega (arith, next)) in
      let whole : take (lsn + 1 - 1) (rs ++ r ∷ []) ≡ rs ++ r ∷ [] = take_all (lsn + 1 - 1) (rs ++ r ∷ []) (omega (arith, next, one_more rs r)) in
      let first : OneStuck s (rs ++ r ∷ []) lsn = record {
        reached = omega (arith, next, one_more rs r);
        first = record {
          before = subst P (sym before) (ap is_some so_far.reached);
          stuck = subst Q (sym whole) (after_all-append from old.state rs r so_far.reached ∙ stuck);
        };
      } in
      record {
        plan = ap (λ (x : PageStore). store_plan x) same ∙ was.plan;
        unfailed = unfailed;
        size = was.size;
        lsns_size = was.lsns_size;
        flushed = flushed;
        bounds = some_more new.state (subst (λ (x : State). Bounds s.pages (length rs + 1) x) (sym state) (bounds_more s.pages (length rs) old.state was.bounds));
        all = λ none'. (let never : None ≡ Some lsn = sym none' ∙ is in cc never);
        stuck = λ k here.
            let one : Some lsn ≡ Some k = sym is ∙ here in
            let place : lsn ≡ k = cc one in
            subst (OneStuck s (rs ++ r ∷ [])) place first;
      }

-- The end of the log.

-- no page is raised past it
lsn_reached : (s : Super) (at : Pages) (rs : List Record) (p : ℕ) → p < length at.lsns
    → (lsn_of at p ≤ lsn_of (redone (heap_origin s.pages s.first) at rs) p) × (lsn_of (redone (heap_origin s.pages s.first) at rs) p ≤ max (lsn_of at p) (length rs))
lsn_reached s at rs p lt =
    let is = lsn-redo_all 1 at rs p lt in
    let most = last_lsn-reached p 1 rs in
    (omega (arith, is), omega (arith, is, most))

-- so where none is past it none was stored so
pub none_ahead : (stored : StoredHeap) (count : ℕ) → count ≡ length (records_in stored) → EachLacks (count + 1) (redone (origin_of stored) stored.pages (records_in stored)) → EachLacks (next_lsn_of stored) stored.pages
none_ahead stored count same lacking p = elim (cases_lt p (length stored.pages.lsns)) [
  | inl lt ↦ omega (arith, (lsn_reached stored.super stored.pages (records_in stored) p lt).0, lacking p, same)
  | inr past ↦ omega (arith, get_or_past stored.pages.lsns p 0 past)
]

-- and the first that is past it was stored as the first
pub first_ahead : (stored : StoredHeap) (count page : ℕ) → count ≡ length (records_in stored) → IsFirstPast count page (redone (origin_of stored) stored.pages (records_in stored)) → IsFirstPast (next_lsn_of stored - 1) page stored.pages
first_ahead stored count page same first =
    let s = stored.super in
    let at = stored.pages in
    let rs = records_in stored in
    let size : length (redone (origin_of stored) at rs).lsns ≡ length at.lsns = lsns-redo_all 1 at rs in
    let here : page < length at.lsns = omega (arith, first.page, size) in
    let raised = lsn_reached s at rs page here in
    record {
      page = here;
      past = omega (arith, first.past, raised.1, same);
      before = λ q lt. omega (arith, first.before q lt, (lsn_reached s at rs q (omega (arith, lt, here))).0, same);
    }

-- what a log's error reports of its bytes
pub log_told_device : (e : LogError) → error_device (log_error e) ≡ log_device_error e
log_told_device logging.NoMemory = refl
log_told_device (logging.BadBatch at) = refl
log_told_device (logging.Disk e) = refl

pub log_told_of : (log : List ℕ) (e : LogError) → ((offset : ℕ) → e ≡ logging.BadBatch offset → BreaksAt log offset) → IsToldOfLog log (log_error e)
log_told_of log logging.NoMemory bad = tt
log_told_of log (logging.BadBatch offset) bad = bad offset refl
log_told_of log (logging.Disk e) bad = tt

-- What a replayed log says of an image that holds it.
module _ (stored : StoredHeap) (log : Log) (replay : Replay) (is : HasReplayedLog stored log replay) where
  count : log_count log ≡ length (records_in stored)
  count = omega (arith, is.keeps.count)

  -- no page lacks less than the next record
  lacks_next : replay.unshaped ≡ None → EachLacks (log_count log + 1) (cached replay.cache) → IsRedone stored replay.cache
  lacks_next none lacking =
      let all = is.replayed.all none in
      record {
        plan = is.replayed.plan;
        unfailed = is.replayed.unfailed;
        size = is.replayed.size;
        lsns_size = is.replayed.lsns_size;
        behind = none_ahead stored (log_count log) count (subst (EachLacks (log_count log + 1)) all.pages lacking);
        pages = all.pages;
        flushed = is.replayed.flushed;
      }

  -- where all records follow one another they were read
  pub was_read : (read : Reading) → read.of ≡ stored.super → read.log ≡ log → read.cache ≡ replay.cache → read.state ≡ replay.state → replay.unshaped ≡ None → EachLacks (log_count log + 1) (cached replay.cache) → IsRead stored read
  was_read read of same_log same_cache same_state none lacking = record {
    of = of;
    limits = is.limits;
    good = is.good;
    log = subst (λ (x : Log). Keeps x stored.batches []) (sym same_log) is.keeps;
    place = ap log_place same_log ∙ is.place;
    room = ap log_room same_log ∙ is.room;
    cache = subst (IsRedone stored) (sym same_cache) (lacks_next none lacking);
    state = (is.replayed.all none).reached ∙ ap (λ (x : State). Some x) (sym same_state);
  }

  module _ (image : List ℕ) (holds : HoldsLog stored image) where
    all_replayed : replay.unshaped ≡ None → IsReplayed stored replay.state image
    all_replayed none = record { log = holds; reached = (is.replayed.all none).reached }

    -- no room for the rollback
    pub reserve_told : replay.unshaped ≡ None → log_room log < log_used log + reserve replay.state → IsFaultAt Reserve image
    reserve_told none lack = (stored, replay.state, all_replayed none, omega (arith, lack, used_of log stored.batches is.keeps, is.room))

    roomy : replay.unshaped ≡ None → log_used log + reserve replay.state ≤ log_room log → HasRoom stored replay.state image
    roomy none enough = record { replayed = all_replayed none; room = omega (arith, enough, used_of log stored.batches is.keeps, is.room) }

    -- the first page that is ahead
    pub page_told : (page : ℕ) → replay.unshaped ≡ None → log_used log + reserve replay.state ≤ log_room log → IsFirstPast (log_count log) page (cached replay.cache) → IsFaultAt (Page page) image
    page_told page none enough first =
        let pages = (is.replayed.all none).pages in
        (stored, replay.state, roomy none enough, first_ahead stored (log_count log) page count (subst (IsFirstPast (log_count log) page) pages first))

    -- or none of these
    pub all_readable : (state : State) → state ≡ replay.state → replay.unshaped ≡ None → log_used log + reserve replay.state ≤ log_room log → EachLacks (log_count log + 1) (cached replay.cache) → IsReadable stored state image
    all_readable state same none enough lacking =
        subst (λ (x : State). IsReadable stored x image) (sym same) (record { roomy = roomy none enough; behind = (lacks_next none lacking).behind })

-- the heap that an image holds whose log was read
pub holds_read : (of : Super) (at : Pages) (batches : List (List Record)) (image now : List ℕ) (log : Log) (replay : Replay) → HasSuper of image → at ≡ stored_in of image → now ≡ image
    → HoldsBatches (log_part of now) batches → HasReplayedLog (heap_with of at batches) log replay → HoldsLog (heap_with of at batches) image
holds_read of at batches image now log replay has pages same holds is = record {
  super = has;
  held = subst (λ (l : List ℕ). HoldsBatches (log_part of l) batches) same holds;
  pages = sym pages;
  good = is.good;
}

-- what was read is some heap
pub some_read : (stored : StoredHeap) (r : Result Reading RecoverError) → IfOk r (IsRead stored) → IfOk r (λ read. (x : StoredHeap) × IsRead x read)
some_read stored (Ok read) is = (stored, is)
some_read stored (Err e) is = tt

-- which can be read of the image
pub some_readable : (stored : StoredHeap) (image : List ℕ) (r : Result Reading RecoverError) → IfOk r (IsRead stored) → IfOk r (λ read. IsReadable stored read.state image)
    → IfOk r (λ read. (x : StoredHeap) × IsRead x read × IsReadable x read.state image)
some_readable stored image (Ok read) is readable = (stored, is, readable)
some_readable stored image (Err e) is readable = tt

-- So far these records were given by a reader, and replayed.
pub record IsOnWay (tells : Bool) (bytes : List ℕ) (s : Super) (first : Replay) (reader : LogReader) (replay : Replay) : Type 0 where
  pub given : List Record
  pub read : HasGiven tells bytes reader given
  pub count : length given ≡ reader_lsn reader
  pub replayed : (at : Pages) → HasReplayed s at [] first → HasReplayed s at given replay

-- a disk with the same bytes holds the same log
pub log_still : (log image now : List ℕ) (at room at' room' : ℕ) → log ≡ part image at room → now ≡ image → at' ≡ at → room' ≡ room → log ≡ part now at' room'
log_still log image now at room at' room' is same place size =
    is ∙ ap (λ (l : List ℕ). part l at room) (sym same) ∙ ap (λ (k : ℕ). part now k room) (sym place) ∙ ap (λ (k : ℕ). part now at' k) (sym size)
