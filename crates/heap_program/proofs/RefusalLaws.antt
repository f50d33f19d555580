-- How what an opening says of an image becomes the status of a run.
use Rattle.std.proofs.Common.{◌≡◌, ⊎_elim, ℕ, ◌≤◌, List, Result, refl, ap, arith}
use Rattle.std.specs.Prelude.{IsTrue}
use Rattle.disk_model.specs.declared.disk.Disk.{Ghosts}
use Rattle.disk_model.specs.declared.disk.DiskError.{DiskError}
use Rattle.disk_model.specs.Keeps.{OnlyReads}
use Rattle.disk_model.proofs.KeepsLaws.{same_none}
use Rattle.disk_model.specs.Moments.{LeavesOnly}
use Rattle.disk_model.proofs.MomentLaws.{weaker}
use Rattle.heap_recovery.specs.declared.at.At.{At}
use Rattle.heap_recovery.specs.declared.at.At.TheVariants as place
use Rattle.log_machine.specs.Machine.{State}
use Rattle.heap_recovery.specs.Faults as faults
use Rattle.heap_recovery.specs.Faults.{IsNoHeap, IsReadable, IsFaultAt, IsLogLeft, IsLeftOf, IsErrorOrOutside, ComesBeforeWrites}
use Rattle.heap_recovery.proofs.FaultLaws.{left_again, left_of_fault}
use Rattle.heap_core.specs.Causes.{recovery_error}
use Rattle.heap_recovery.specs.declared.error.RecoverError.TheVariants as recovery
use Rattle.heap_core.specs.declared.errors.OpenError.{OpenError}
use Rattle.heap_core.specs.declared.errors.OpenError.TheVariants as opening
use Rattle.heap_program.specs.declared.status.Status.{Status}
use Rattle.heap_program.specs.declared.status.Status.TheVariants as status
use Rattle.heap_program.specs.Causes.{IsInputError}
use Rattle.heap_program.specs.Refusals.{IsFault, IsWordFault, CallsOfOneOpening, CallsAtMostOneOpening, fault_calls, IsToldOf, EndsRefused, IsLeftAlone, LeavesAlone}
use Rattle.heap_model.specs.Opening.{opening_calls}
use Rattle.counts.specs.Count.{counted}
use Rattle.heap_program.proofs.Counts.{counted_mono}
use Rattle.heap_program.specs.StatusOf.{open_status}
use Rattle.heap_recovery.specs.Recovered.{ErrorPasses}
use Rattle.heap_model.specs.Image.{StoredHeap, SameOutsideLog}

-- what the error of an opening says, its status says
pub told_status : (e : OpenError) (image : List ℕ) → faults.IsToldOf (recovery_error e) image → IsToldOf (open_status e) image
told_status opening.NoMemory image told = tt
told_status opening.NotHeap image told = told
told_status (opening.Damaged at) image told = told
told_status opening.DiskFault image told = tt
told_status opening.Stopped image told = tt

no_heap_ends : (e : OpenError) → IsErrorOrOutside recovery.NotHeap (recovery_error e) → EndsRefused status.NotHeap (open_status e)
no_heap_ends opening.NoMemory told = tt
no_heap_ends opening.NotHeap told = refl
no_heap_ends (opening.Damaged at) told = ⊎_elim (λ (other : recovery_error (opening.Damaged at) ≡ recovery.NotHeap). cc) (λ (outside : ⊥). absurd outside) told
no_heap_ends opening.DiskFault told = tt
no_heap_ends opening.Stopped told = tt

damaged_ends : (at : At) (e : OpenError) → IsErrorOrOutside (recovery.Damaged at) (recovery_error e) → EndsRefused (status.Damaged at) (open_status e)
damaged_ends at opening.NoMemory told = tt
damaged_ends at opening.NotHeap told = ⊎_elim (λ (other : recovery_error opening.NotHeap ≡ recovery.Damaged at). cc) (λ (outside : ⊥). absurd outside) told
damaged_ends at (opening.Damaged there) told = ⊎_elim (λ (is : recovery_error (opening.Damaged there) ≡ recovery.Damaged at). let same : there ≡ at = cc is in ap status.Damaged same) (λ (outside : ⊥). absurd outside) told
damaged_ends at opening.DiskFault told = tt
damaged_ends at opening.Stopped told = tt

-- An opening of an image that is to be refused gives its status.
pub refused_by : (expected : Status) (image : List ℕ) (e : OpenError) → IsFault expected image → (IsNoHeap image → IsErrorOrOutside recovery.NotHeap (recovery_error e))
    → ((at : At) → IsFaultAt at image → IsErrorOrOutside (recovery.Damaged at) (recovery_error e)) → EndsRefused expected (open_status e)
refused_by status.Done image e fault no_heap damaged = absurd fault
refused_by status.NoMemory image e fault no_heap damaged = absurd fault
refused_by status.Usage image e fault no_heap damaged = absurd fault
refused_by (status.Script line) image e fault no_heap damaged = absurd fault
refused_by status.ReadFault image e fault no_heap damaged = absurd fault
refused_by status.WriteFault image e fault no_heap damaged = absurd fault
refused_by status.DiskFault image e fault no_heap damaged = absurd fault
refused_by status.NotHeap image e fault no_heap damaged = no_heap_ends e (no_heap fault)
refused_by (status.Damaged at) image e fault no_heap damaged = damaged_ends at e (damaged at fault)
refused_by (status.TooSmall size need) image e fault no_heap damaged = absurd fault

-- And it is not opened.
pub not_opened : (expected : Status) (image : List ℕ) → IsFault expected image → (IsNoHeap image → ⊥) → ((at : At) → IsFaultAt at image → ⊥) → ⊥
not_opened status.Done image fault no_heap damaged = fault
not_opened status.NoMemory image fault no_heap damaged = fault
not_opened status.Usage image fault no_heap damaged = fault
not_opened (status.Script line) image fault no_heap damaged = fault
not_opened status.ReadFault image fault no_heap damaged = fault
not_opened status.WriteFault image fault no_heap damaged = fault
not_opened status.DiskFault image fault no_heap damaged = fault
not_opened status.NotHeap image fault no_heap damaged = no_heap fault
not_opened (status.Damaged at) image fault no_heap damaged = damaged at fault
not_opened (status.TooSmall size need) image fault no_heap damaged = fault

-- A status that comes before a write is that of an error that does.
alone_early : (at : At) → IsLeftAlone (status.Damaged at) → ComesBeforeWrites (recovery.Damaged at)
alone_early (place.Batch offset) alone = tt
alone_early (place.Rec lsn) alone = tt
alone_early place.Reserve alone = tt
alone_early (place.Page page) alone = tt
alone_early (place.Address address) alone = absurd alone

module _ {D : Type 0} (g : Ghosts D) where
  -- An opening of an image with such a fault only reads.
  pub only_read : {T : Type 0} (expected : Status) (image : List ℕ) (old new : D) (result : Result T DiskError) → IsFault expected image → IsLeftAlone expected → (IsNoHeap image → OnlyReads g old new result)
      → ((at : At) → IsFaultAt at image → ComesBeforeWrites (recovery.Damaged at) → OnlyReads g old new result) → OnlyReads g old new result
  only_read status.Done image old new result fault alone no_heap damaged = absurd fault
  only_read status.NoMemory image old new result fault alone no_heap damaged = absurd fault
  only_read status.Usage image old new result fault alone no_heap damaged = absurd fault
  only_read (status.Script line) image old new result fault alone no_heap damaged = absurd fault
  only_read status.ReadFault image old new result fault alone no_heap damaged = absurd fault
  only_read status.WriteFault image old new result fault alone no_heap damaged = absurd fault
  only_read status.DiskFault image old new result fault alone no_heap damaged = absurd fault
  only_read status.NotHeap image old new result fault alone no_heap damaged = no_heap fault
  only_read (status.Damaged at) image old new result fault alone no_heap damaged = damaged at fault (alone_early at alone)
  only_read (status.TooSmall size need) image old new result fault alone no_heap damaged = absurd fault

  -- and what only reads leaves the disk alone
  pub alone_read : {T : Type 0} (old new : D) (result : Result T DiskError) → IsTrue g.tells → OnlyReads g old new result → LeavesAlone g old new
  alone_read old new result tells reads = record { contents = reads.contents tells; restarts = reads.disk.restarts tells }

  -- as does a run that did not reach the disk
  pub alone_untouched : (disk : D) → ((image : List ℕ) → g.left_since disk (g.moment disk) image → g.may_leave disk image) → LeavesAlone g disk disk
  alone_untouched disk now = record { contents = same_none g disk now; restarts = refl }

  -- At each moment of an opening the fault stays.
  pub fault_moments : (expected : Status) (image : List ℕ) (old new : D) → IsFault expected image → (IsNoHeap image → LeavesOnly g.moment g.left_since old new IsNoHeap)
      → ((at : At) → IsFaultAt at image → LeavesOnly g.moment g.left_since old new (IsFaultAt at)) → LeavesOnly g.moment g.left_since old new (IsFault expected)
  fault_moments status.Done image old new fault no_heap damaged = absurd fault
  fault_moments status.NoMemory image old new fault no_heap damaged = absurd fault
  fault_moments status.Usage image old new fault no_heap damaged = absurd fault
  fault_moments (status.Script line) image old new fault no_heap damaged = absurd fault
  fault_moments status.ReadFault image old new fault no_heap damaged = absurd fault
  fault_moments status.WriteFault image old new fault no_heap damaged = absurd fault
  fault_moments status.DiskFault image old new fault no_heap damaged = absurd fault
  fault_moments status.NotHeap image old new fault no_heap damaged = no_heap fault
  fault_moments (status.Damaged at) image old new fault no_heap damaged = damaged at fault
  fault_moments (status.TooSmall size need) image old new fault no_heap damaged = absurd fault

  -- At each moment of an opening of an image that is damaged at an address a crash leaves its log, rolled back or not, and all else.
  pub left_moments : (image : List ℕ) (old new : D) → IsWordFault image → ((stored : StoredHeap) (state : State) → IsReadable stored state image → LeavesOnly g.moment g.left_since old new (IsLogLeft stored image))
      → LeavesOnly g.moment g.left_since old new (IsLeftOf image)
  left_moments image old new fault moments =
      let stored = fault.1.0 in
      let state = fault.1.1 in
      let readable = fault.1.2 in
      weaker g.moment g.left_since old new (IsLogLeft stored image) (IsLeftOf image) (moments stored state readable) (λ c left. (stored, state, readable, left))

  pub left_outside : (stored : StoredHeap) (old new : D) → LeavesOnly g.moment g.left_since old new (IsLogLeft stored (g.bytes old))
      → LeavesOnly g.moment g.left_since old new (SameOutsideLog stored.super (g.bytes old))
  left_outside stored old new moments = weaker g.moment g.left_since old new (IsLogLeft stored (g.bytes old)) (SameOutsideLog stored.super (g.bytes old)) moments (λ c left. left.3)

  -- so it does of an image that an opening had left of another
  pub left_on : (image mid : List ℕ) (old new : D) → IsLeftOf image mid → LeavesOnly g.moment g.left_since old new (IsLeftOf mid) → LeavesOnly g.moment g.left_since old new (IsLeftOf image)
  left_on image mid old new left moments = weaker g.moment g.left_since old new (IsLeftOf mid) (IsLeftOf image) moments (λ c again. left_again image mid c left again)

  -- what holds at each moment holds at the end
  pub at_end : (old new : D) (P : List ℕ → Type 0) → LeavesOnly g.moment g.left_since old new P → ((t : ℕ) (image : List ℕ) → t ≤ g.moment new → g.may_leave new image → g.left_since new t image)
      → (image : List ℕ) → g.may_leave new image → P image
  at_end old new P moments counts image may = moments.each image (counts (g.moment old) image moments.later may)

-- An image that openings left of one that is damaged at an address is so too.
pub left_word_fault : (old new : List ℕ) → IsWordFault old → IsLeftOf old new → IsWordFault new
left_word_fault old new fault left = (fault.0, left_of_fault old new (place.Address fault.0) fault.1 left)

-- A run that ends before it opens a heap makes no call.
pub input_once : (n k : ℕ) (s : Status) → IsInputError s → CallsOfOneOpening n k k s
input_once n k status.Done input = refl
input_once n k status.NoMemory input = refl
input_once n k status.Usage input = refl
input_once n k (status.Script line) input = refl
input_once n k status.ReadFault input = refl
input_once n k status.WriteFault input = refl
input_once n k status.DiskFault input = absurd input
input_once n k status.NotHeap input = refl
input_once n k (status.Damaged at) input = absurd input
input_once n k (status.TooSmall size need) input = refl

-- The calls of one opening are no more than it makes.
pub once_few : (n before now : ℕ) (s : Status) → CallsOfOneOpening n before now s → CallsAtMostOneOpening n before now s
once_few n before now status.Done once = once
once_few n before now status.NoMemory once = once
once_few n before now status.Usage once = once
once_few n before now (status.Script line) once = once
once_few n before now status.ReadFault once = once
once_few n before now status.WriteFault once = once
once_few n before now status.DiskFault once = let more = counted_mono once.0 n before once.1 in omega (arith, more, once.2)
once_few n before now status.NotHeap once = once
once_few n before now (status.Damaged at) once = omega (arith, once)
once_few n before now (status.TooSmall size need) once = once

-- So are those of an opening that may be stopped, and it makes none if memory runs out.
pub opens_few : (n before now : ℕ) (image : List ℕ) (e : OpenError) → IsWordFault image → faults.IsToldOf (recovery_error e) image → (open_status e ≡ status.NoMemory → now ≡ before) → now ≤ counted n before
    → CallsAtMostOneOpening n before now (open_status e)
opens_few n before now image opening.NoMemory fault told none few = none refl
opens_few n before now image opening.NotHeap fault told none few = absurd (told fault.1.0.super fault.1.2.roomy.replayed.log.super)
opens_few n before now image (opening.Damaged at) fault told none few = few
opens_few n before now image opening.DiskFault fault told none few = few
opens_few n before now image opening.Stopped fault told none few = few

-- What an opening of an image that is damaged at an address passed, by the status of its error.
pub opens_once : (image : List ℕ) (before now : ℕ) (e : OpenError) (fault : IsWordFault image) → faults.IsToldOf (recovery_error e) image
    → ((stored : StoredHeap) (state : State) → IsReadable stored state image → ErrorPasses (opening_calls stored) before now (recovery_error e)) → CallsOfOneOpening (fault_calls fault) before now (open_status e)
opens_once image before now opening.NoMemory fault told passes = passes fault.1.0 fault.1.1 fault.1.2
opens_once image before now opening.NotHeap fault told passes = absurd (told fault.1.0.super fault.1.2.roomy.replayed.log.super)
opens_once image before now (opening.Damaged at) fault told passes = (passes fault.1.0 fault.1.1 fault.1.2).ok
opens_once image before now opening.DiskFault fault told passes = (passes fault.1.0 fault.1.1 fault.1.2).some
opens_once image before now opening.Stopped fault told passes = (passes fault.1.0 fault.1.1 fault.1.2).some
