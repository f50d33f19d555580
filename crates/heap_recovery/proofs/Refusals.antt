-- What an opening reports of an image that it refuses, and what it leaves of it.
use Rattle.std.proofs.Common.{inl, inr, ◌≡◌, ◌≢◌, ◌⊎◌, ⊎_elim, ℕ, ◌+◌, ◌≤◌, List, Option, None, Some, Result, Ok, Err, refl, sym, ap, ◌∙◌, subst, arith}
use Rattle.std.specs.Prelude.{IfOk, IfErr, IsOk, OnOk}
use Rattle.std.specs.List.{AllByRecursion}
use Rattle.disk_model.specs.Disk.{part, Only, Narrows, SameOutside}
use Rattle.disk_model.specs.Moments.{LeavesOnly}
use Rattle.disk_model.proofs.MomentLaws.{joined, weaker}
use Rattle.gate_slot.proofs.ImageLaws.{same_part}
use Rattle.gate_slot.specs.Passing.{Passes}
use Rattle.gated_log.specs.declared.log.Log.{Log}
use Rattle.gated_log.specs.Log.{records_of, with_batch, HoldsBatches}
use Rattle.gated_log.specs.LogState.{log_place, log_room, log_used, Keeps}
use Rattle.image_plan.specs.declared.superblock.Super.{Super}
use Rattle.log_records.specs.declared.Record.{Record}
use Rattle.log_records.specs.Record.{IsRecord}
use Rattle.log_machine.specs.Machine.{State, all_taken_back, rollback, reserve}
use Rattle.object_layout.specs.CollectionWalk.{IsWalkFaultBeside}
use Rattle.walk_laws.specs.Heap.{IsStateWalked, from_space}
use Rattle.page_cache.specs.CacheState.{cached}
use Rattle.page_cache.proofs.ImageLaws.{stored_behind_log}
use Rattle.heap_model.specs.Bits.{AreOf64Bits}
use Rattle.heap_model.specs.Image.{StoredHeap, Holds, IsShaped, log_part, SameOutsideLog}
use Rattle.heap_model.specs.Opening.{rolled_back}
use Rattle.heap_recovery.specs.declared.at.At.{At}
use Rattle.heap_recovery.specs.declared.at.At.TheVariants.{Address}
use Rattle.heap_recovery.specs.declared.error.RecoverError.{RecoverError}
use Rattle.heap_recovery.specs.declared.error.RecoverError.TheVariants.{NoMemory, NotHeap, Damaged, Disk}
use Rattle.heap_recovery.specs.declared.reading.Reading.{Reading}
use Rattle.heap_recovery.specs.declared.recovery.Recovered.{Recovered}
use Rattle.heap_recovery.specs.Causes.{open_device}
use Rattle.heap_recovery.specs.Opens.{outcome}
use Rattle.heap_recovery.specs.Faults.{HasSuper, HoldsLog, IsReadable, IsFaultAt, IsToldOf, ComesBeforeWrites, IsLogLeft}
use Rattle.heap_recovery.proofs.FaultLaws.{as_held, shaped_log, shaped_whole, readable_fault, left_fault, left_same, rolled_spelled}
use Rattle.heap_recovery.specs.Recovered.{IsRead, IsRecovered, IsFromOutside, ErrorPasses, OpenPasses}
use Rattle.heap_recovery.proofs.Opening.{committed, only_still, in_log, held_there, outside_log, rolled_held, placed_there, read_shaped}

-- an error that is no damage is true of an image, if it comes from outside wherever the image has numbers
pub numbers_told : (e : RecoverError) (image : List ℕ) → ((at : At) → e ≢ Damaged at) → ((s : Super) → HasSuper s image → IsFromOutside e) → IsToldOf e image
numbers_told NoMemory image never outside = tt
numbers_told NotHeap image never outside = outside
numbers_told (Damaged at) image never outside = absurd (never at refl)
numbers_told (Disk e) image never outside = tt

-- An error on a shaped image reports nothing of it.
pub told_outside : (stored : StoredHeap) (image : List ℕ) (e : RecoverError) → IsShaped stored image → IsToldOf e image → IsFromOutside e
told_outside stored image NoMemory shaped told = tt
told_outside stored image NotHeap shaped told = absurd (told stored.super (shaped_log stored image shaped).super)
told_outside stored image (Damaged at) shaped told = absurd (shaped_whole stored image at shaped told)
told_outside stored image (Disk e) shaped told = tt

pub err_outside : {T : Type 0} (stored : StoredHeap) (image : List ℕ) (r : Result T RecoverError) → IsShaped stored image → IfErr r (λ e. IsToldOf e image) → IfErr r IsFromOutside
err_outside stored image (Ok x) shaped told = tt
err_outside stored image (Err e) shaped told = told_outside stored image e shaped told

-- nor of one whose log can be read, unless its words were looked at
pub readable_outside : (stored : StoredHeap) (state : State) (image : List ℕ) (e : RecoverError) → IsReadable stored state image → ((address : ℕ) → e ≢ Damaged (Address address)) → IsToldOf e image → IsFromOutside e
readable_outside stored state image NoMemory readable never told = tt
readable_outside stored state image NotHeap readable never told = absurd (told stored.super readable.roomy.replayed.log.super)
readable_outside stored state image (Damaged at) readable never told = let found = readable_fault stored state image at readable told in absurd (never found.0 (ap (λ (x : At). Damaged x) found.1))
readable_outside stored state image (Disk e) readable never told = tt

-- what was read of it is its own
pub read_own : (stored : StoredHeap) (image : List ℕ) (r : Result Reading RecoverError) → IsShaped stored image
    → IfOk r (λ read. (other : StoredHeap) × IsRead other read × IsReadable other read.state image) → IfOk r (IsRead stored)
read_own stored image (Err e) shaped sound = tt
read_own stored image (Ok read) shaped (other, is, readable) = as_held (λ (x : StoredHeap). IsRead x read) stored other image (shaped_log stored image shaped) readable.roomy.replayed.log is

-- What is opened is a shaped log with its pages, and the image's.
abbrev pub IsFoundOn : List ℕ → Recovered → Type 0
IsFoundOn image found = (stored : StoredHeap) × IsShaped stored image × IsRecovered stored found

-- so it has no fault
pub found_whole : (r : Result Recovered RecoverError) (image : List ℕ) → IfOk r (IsFoundOn image) → OnOk (outcome r) ((at : At) → ¬ IsFaultAt at image)
found_whole (Ok found) image sound = λ at. shaped_whole sound.0 image at sound.1
found_whole (Err e) image sound = tt

-- what is so in any case
pub on_ok : (r : Result Recovered RecoverError) (P : Type 0) → P → OnOk (outcome r) P
on_ok (Ok found) P h = h
on_ok (Err e) P h = tt

pub on_damaged : (r : Result Recovered RecoverError) (P : Type 0) → P → IfErr (outcome r) (λ e. (at : At) → e ≡ Damaged at → P)
on_damaged (Ok found) P h = tt
on_damaged (Err e) P h = λ at is. h

-- what the disk answered
pub device_of : (r : Result Recovered RecoverError) → open_device (outcome r) ≡ open_device r
device_of (Ok found) = refl
device_of (Err e) = refl

-- Where the walk has found a fault, or none.
module _ (r : Result Recovered RecoverError) (fault : Option ℕ) (damaged : (at : ℕ) → fault ≡ Some at → r ≡ Err (Damaged (Address at))) (whole : fault ≡ None → IsOk r) where
  ended : (o : Option ℕ) (P : RecoverError → Type 0) → fault ≡ o → ((at : ℕ) → fault ≡ Some at → P (Damaged (Address at))) → IfErr (outcome r) P
  ended None P is told = ok_none r (whole is)
    where
      ok_none : (x : Result Recovered RecoverError) → IsOk x → IfErr (outcome x) P
      ok_none (Ok found) ok = tt
      ok_none (Err e) ok = cc ok
  ended (Some at) P is told = subst (λ x. IfErr (outcome x) P) (sym (damaged at is)) (told at is)

  -- an opening has then made all calls
  pub finish_passes : (n before now : ℕ) → Passes n before now (Ok tt) → OpenPasses n before now (outcome r)
  finish_passes n before now passes = either r (ended fault (λ e. ErrorPasses n before now e) refl (λ at is. passes))
    where
      either : (x : Result Recovered RecoverError) → IfErr (outcome x) (λ e. ErrorPasses n before now e) → OpenPasses n before now (outcome x)
      either (Ok found) told = passes
      either (Err e) told = told

  -- an error comes after the writes
  pub finish_late : IfErr (outcome r) (λ e. ¬ ComesBeforeWrites e)
  finish_late = ended fault (λ e. ¬ ComesBeforeWrites e) refl (λ at is early. early)

  -- it reports that fault
  pub finish_told : (image : List ℕ) → ((at : ℕ) → fault ≡ Some at → IsFaultAt (Address at) image) → IfErr (outcome r) (λ e. IsToldOf e image)
  finish_told image told = ended fault (λ e. IsToldOf e image) refl told

module _ (stored : StoredHeap) (image : List ℕ) (read : Reading) (is : IsRead stored read) (readable : IsReadable stored read.state image) where
  -- a fault of the walk is the image's
  pub walk_told : (state : State) → state ≡ read.state → (now : List ℕ) → now ≡ all_taken_back read.state (cached read.cache).words → (address : ℕ) → IsWalkFaultBeside now state.base state.used (from_space state) address → IsFaultAt (Address address) image
  walk_told state same now rolled address fault =
      let P : State → Type 0 = λ x. IsWalkFaultBeside now x.base x.used (from_space x) address in
      (stored, read.state, readable, subst (λ (ws : List ℕ). IsWalkFaultBeside ws read.state.base read.state.used (from_space read.state) address) (rolled ∙ committed stored read is) (subst P same fault))

  -- what was opened is the image's log
  pub found_on : (r : Result Recovered RecoverError) (now : List ℕ) (state : State) (fault : Option ℕ)
      → log_used read.log + reserve read.state ≤ log_room read.log → state ≡ read.state → now ≡ all_taken_back read.state (cached read.cache).words
      → AreOf64Bits now → (fault ≡ None → IsStateWalked state now) → IfOk r (λ found. fault ≡ None) → IfOk r (IsRecovered stored) → IfOk r (IsFoundOn image)
  found_on (Err e) now state fault room same taken fit passes none found = tt
  found_on (Ok f) now state fault room same taken fit passes none found =
      let walked = subst (λ (x : State). IsStateWalked x now) same (passes none) in
      let log = readable.roomy.replayed.log in
      let held : Holds stored image = record { size = log.super.size; super = log.super.super; log = log.held; pages = log.pages } in
      (stored, record { log = read_shaped stored read is room now taken fit walked; held = held }, found)

-- an image with the same bytes outside of the log, whose log holds other batches
log_with : (stored : StoredHeap) (others : List (List Record)) (old new : List ℕ) → HoldsLog stored old → SameOutsideLog stored.super old new
    → HoldsBatches (log_part stored.super new) others → AllByRecursion IsRecord (records_of others) → HoldsLog (record stored { batches = others }) new
log_with stored others old new log outside holds good =
    let size = log.super.size in
    let same = outside.size in
    record {
      super = record {
        limits = log.super.limits;
        super = same_part 0 64 old new outside.size (λ i low high. outside.before i (omega arith)) ∙ log.super.super;
        size = omega arith;
      };
      held = holds;
      pages = stored_behind_log stored.super.pages stored.super.log_bytes old new outside ∙ log.pages;
      good = good;
    }

module _ {D : Type 0} (moment : D → ℕ) (left_since : D → ℕ → List ℕ → Type 0) where
  -- where the disk is only read a crash leaves the image
  pub still_moments : (old new : D) (image : List ℕ) (may_leave P : List ℕ → Type 0) → Only image may_leave → P image → LeavesOnly moment left_since old new may_leave → LeavesOnly moment left_since old new P
  still_moments old new image may_leave P only here run = weaker moment left_since old new may_leave P run (λ c left. subst P (sym (only c left)) here)

  -- A crash at any moment of a rollback leaves an image with the log that was read, or with that log rolled back.
  module _ (stored : StoredHeap) (image : List ℕ) (read : Reading) (is : IsRead stored read) (readable : IsReadable stored read.state image) (old mid new : D) where
    pub forced_run : (before between : List ℕ → Type 0) (now : List ℕ) (log : Log) → log_place log ≡ log_place read.log → log_room log ≡ log_room read.log → Keeps log stored.batches (rollback read.state)
        → Only image before → now ≡ image → Narrows before between → LeavesOnly moment left_since old mid before
        → (Only now between → (bs : List (List Record)) (ps : List Record) → Keeps log bs ps → HoldsBatches (part now (log_place log) (log_room log)) bs → LeavesOnly moment left_since mid new (λ c. SameOutside (log_place log) (log_place log + log_room log) now c × (HoldsBatches (part c (log_place log) (log_room log)) bs ⊎ HoldsBatches (part c (log_place log) (log_room log)) (with_batch bs ps))))
        → LeavesOnly moment left_since old new (IsLogLeft stored image)
    forced_run before between now log place room keeps only same narrows first forcing =
        let here = readable.roomy.replayed.log in
        let spelled = rolled_spelled stored read.state image readable in
        let stand = placed_there log read.log (λ n m. HoldsBatches (part now n m) stored.batches) (sym place) (sym room) (held_there stored read is image now here.held same) in
        let Left : ℕ → ℕ → List ℕ → Type 0 = λ n m c. SameOutside n (n + m) now c × (HoldsBatches (part c n m) stored.batches ⊎ HoldsBatches (part c n m) (with_batch stored.batches (rollback read.state))) in
        let second = placed_there read.log log (λ n m. LeavesOnly moment left_since mid new (Left n m)) place room (forcing (only_still image now before between only same narrows) stored.batches (rollback read.state) keeps stand) in
        let outside : (c : List ℕ) → SameOutside (log_place read.log) (log_place read.log + log_room read.log) now c → SameOutsideLog stored.super image c = λ c. outside_log stored read is image now c same in
        weaker moment left_since old new _ (IsLogLeft stored image) (joined moment left_since old mid new _ _ first second)
        (λ c. ⊎_elim (λ left. subst (IsLogLeft stored image) (sym (only c left)) (left_same stored read.state image readable))
        (λ found. ⊎_elim
        (λ holds. (stored, inl refl, log_with stored stored.batches image c here (outside c found.0) (in_log stored read is (λ n m. HoldsBatches (part c n m) stored.batches) holds) here.good, outside c found.0))
        (λ holds. (rolled_back stored, inr refl, log_with stored (rolled_back stored).batches image c here (outside c found.0) (rolled_held stored read is c holds) spelled, outside c found.0))
        found.1))

  -- So it leaves of an image whose log can be read,
  module _ (stored : StoredHeap) (state : State) (image : List ℕ) (readable : IsReadable stored state image) (old new : D) (run : LeavesOnly moment left_since old new (IsLogLeft stored image)) where
    -- whatever that heap is called,
    pub left_readable : (other : StoredHeap) (n : State) → IsReadable other n image → LeavesOnly moment left_since old new (IsLogLeft other image)
    left_readable other n there = as_held (λ (x : StoredHeap). LeavesOnly moment left_since old new (IsLogLeft x image)) other stored image there.roomy.replayed.log readable.roomy.replayed.log run

    -- one with the same fault
    pub left_damaged : (at : At) → IsFaultAt at image → LeavesOnly moment left_since old new (IsFaultAt at)
    left_damaged at fault = weaker moment left_since old new (IsLogLeft stored image) (IsFaultAt at) run (left_fault stored state image readable at fault)
