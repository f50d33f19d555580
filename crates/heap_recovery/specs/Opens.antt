-- What an opening answers to the image of its disk, and what it does to it, whatever is made of what it finds.
use Rattle.std.specs.Prelude.{◌≡◌, ℕ, List, [], Result, Ok, Err, IsTrue, IfErr, IsErrAnd, OnOk}
use Rattle.disk_model.specs.declared.disk.Disk.{Ghosts}
use Rattle.disk_model.specs.Disk.{Only}
use Rattle.disk_model.specs.Keeps.{KeepsDisk, OnlyReads}
use Rattle.disk_model.specs.Moments.{LeavesOnly}
use Rattle.log_machine.specs.Machine.{State}
use Rattle.page_store.specs.Gates.{open_gates}
use Rattle.heap_model.specs.Image.{StoredHeap, Holds, IsShaped}
use Rattle.heap_model.specs.Opening.{rollback_of, rolled_back, opening_calls, IsLeftByOpening}
use Rattle.heap_recovery.specs.declared.at.At.{At}
use Rattle.heap_recovery.specs.declared.error.RecoverError.{RecoverError}
use Rattle.heap_recovery.specs.declared.error.RecoverError.TheVariants.{NotHeap, Damaged}
use Rattle.heap_recovery.specs.Causes.{open_device}
use Rattle.heap_recovery.specs.Faults.{IsNoHeap, IsReadable, IsFaultAt, IsToldOf, IsErrorOrOutside, ComesBeforeWrites, IsLogLeft}
use Rattle.heap_recovery.specs.Recovered.{IsFromOutside, OpenPasses}

-- how an opening ended, whatever it found
abbrev pub outcome : {T : Type 0} → Result T RecoverError → Result (Unit {0}) RecoverError
outcome (Ok found) = Ok tt
outcome (Err e) = Err e

module _ {D : Type 0} (g : Ghosts D) (old new : D) (result : Result (Unit {0}) RecoverError) where
  -- The image is no heap.
  pub record RefusesNoHeap : Type 0 where
    -- an error reports that, unless memory runs out or the disk fails
    pub told : IsErrAnd result (IsErrorOrOutside NotHeap)
    -- it is only read, however the opening ends: the first stop of its disk doesn't come here
    pub reads : OnlyReads g old new (open_device result)
    -- a crash at any moment leaves an image that is no heap
    pub moments : Only (g.bytes old) (g.may_leave old) → LeavesOnly g.moment g.left_since old new IsNoHeap

  -- The image is damaged there.
  pub record RefusesDamaged (at : At) : Type 0 where
    -- an error reports that place, unless memory runs out or the disk fails
    pub told : IsErrAnd result (IsErrorOrOutside (Damaged at))
    -- one with a fault that is found before any write is only read, however the opening ends: the first stop of its disk doesn't come here
    pub reads : ComesBeforeWrites (Damaged at) → OnlyReads g old new (open_device result)
    -- a crash at any moment leaves an image with the same fault
    pub moments : Only (g.bytes old) (g.may_leave old) → LeavesOnly g.moment g.left_since old new (IsFaultAt at)

  -- The image holds this heap, whose log can be read, whatever its words are.
  pub record OpensReadable (stored : StoredHeap) : Type 0 where
    -- a crash at any moment leaves an image with that log or with that log rolled back, and each byte outside of the log as it was
    pub moments : Only (g.bytes old) (g.may_leave old) → LeavesOnly g.moment g.left_since old new (IsLogLeft stored (g.bytes old))
    pub passes : OpenPasses (opening_calls stored) (g.passed old) (g.passed new) result

  -- The image is shaped, and holds this heap.
  pub record OpensShaped (stored : StoredHeap) : Type 0 where
    -- it is refused only for lack of memory or by the disk
    pub error : IfErr result IsFromOutside
    -- the disk then holds the log rolled back beside the same pages; no page was stored
    pub holds : OnOk result (Holds (rolled_back stored) (g.bytes new))
    pub gates : OnOk result ((p : ℕ) → open_gates stored.super.log_bytes (g.bytes new) p ≡ open_gates stored.super.log_bytes (g.bytes old) p)
    -- a crash at any moment leaves the image as it was, or with its log rolled back: both stand for the same graph and commits
    pub moments : Only (g.bytes old) (g.may_leave old) → LeavesOnly g.moment g.left_since old new (IsLeftByOpening stored)
    pub crash : Only (g.bytes old) (g.may_leave old) → (image : List ℕ) → g.may_leave new image → IsLeftByOpening stored image
    -- it is written only if transactions' writes have to be taken back
    pub passes : OpenPasses (opening_calls stored) (g.passed old) (g.passed new) result
    pub no_first_stop : rollback_of stored ≡ [] → g.stops old ≡ 0 → g.stops new ≡ 0

  -- What an opening answers to an image, and does to it: an error reports only a fault that the image has, and a fault is reported unless memory runs
  -- out or the disk fails.
  pub record OpensImage : Type 0 where
    pub disk : KeepsDisk g old new (open_device result)
    -- after an error that comes before writes the disk is as it was, whatever disk it is
    pub left_alone : IfErr result (λ e. ComesBeforeWrites e → OnlyReads g old new (open_device result))
    pub refused : IsTrue g.tells → IfErr result (λ e. IsToldOf e (g.bytes old))
    pub not_heap : IsTrue g.tells → IsNoHeap (g.bytes old) → RefusesNoHeap
    pub damaged : IsTrue g.tells → (at : At) → IsFaultAt at (g.bytes old) → RefusesDamaged at
    pub readable : IsTrue g.tells → (stored : StoredHeap) (state : State) → IsReadable stored state (g.bytes old) → OpensReadable stored
    pub shaped : IsTrue g.tells → (stored : StoredHeap) → IsShaped stored (g.bytes old) → OpensShaped stored
    -- it leaves nothing unsynced where it succeeds, nor where it reports damage
    pub durable : IsTrue g.tells → Only (g.bytes old) (g.may_leave old) → OnOk result (Only (g.bytes new) (g.may_leave new))
    pub durable_damaged : IsTrue g.tells → Only (g.bytes old) (g.may_leave old) → IfErr result (λ e. (at : At) → e ≡ Damaged at → Only (g.bytes new) (g.may_leave new))
