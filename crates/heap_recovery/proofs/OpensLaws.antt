-- What an opening answers to an image, and does to it: one that ends before a write, and one that ends with its force or after it.
use Rattle.std.proofs.Common.{◌≡◌, ◌≢◌, ℕ, ◌≤◌, List, [], Result, Ok, Err, sym, subst}
use Rattle.std.specs.Prelude.{IsTrue, IfErr, IsErrAnd, OnOk}
use Rattle.disk_model.specs.declared.disk.Disk.{Ghosts}
use Rattle.disk_model.specs.Disk.{Only}
use Rattle.disk_model.specs.Keeps.{KeepsDisk, OnlyReads}
use Rattle.disk_model.specs.Moments.{LeavesOnly}
use Rattle.disk_model.proofs.MomentLaws.{weaker}
use Rattle.log_machine.specs.Machine.{State}
use Rattle.heap_model.proofs.Opening.Held.{left_as_found}
use Rattle.page_store.specs.Gates.{open_gates}
use Rattle.heap_model.specs.Image.{StoredHeap, Holds, IsShaped}
use Rattle.heap_model.specs.Opening.{rollback_of, rolled_back, opening_calls, IsLeftByOpening}
use Rattle.heap_recovery.specs.declared.at.At.{At}
use Rattle.heap_recovery.specs.declared.at.At.TheVariants.{Address}
use Rattle.heap_recovery.specs.declared.error.RecoverError.{RecoverError}
use Rattle.heap_recovery.specs.declared.error.RecoverError.TheVariants.{Damaged}
use Rattle.heap_recovery.specs.Causes.{error_device, open_device}
use Rattle.heap_recovery.specs.Faults.{IsNoHeap, IsReadable, IsFaultAt, IsToldOf, IsErrorOrOutside, ComesBeforeWrites, IsLogLeft}
use Rattle.heap_recovery.specs.Opens.{OpensReadable, OpensImage}
use Rattle.heap_recovery.specs.Recovered.{OpenPasses}
use Rattle.heap_recovery.proofs.FaultLaws.{one_opening, told_not_heap, told_damaged, readable_heap, readable_late, shaped_readable, left_same}
use Rattle.heap_recovery.proofs.Opening.{error_passes, only_still}
use Rattle.heap_recovery.proofs.Refusals.{err_outside, told_outside, readable_outside, still_moments, left_readable, left_damaged}

-- an opening of a shaped image leaves its heap, or that rolled back
pub left_shaped : (stored : StoredHeap) (image c : List ℕ) → IsLogLeft stored image c → IsLeftByOpening stored c
left_shaped stored image c (later, is_later, log, outside) = (later, is_later, record { size = log.super.size; super = log.super.super; log = log.held; pages = log.pages })

module _ {D : Type 0} (g : Ghosts D) (old new : D) where
  -- An opening that ended with an error before any write.
  module _ (e : RecoverError) (reads : OnlyReads g old new (error_device e)) (told : IsTrue g.tells → IsToldOf e (g.bytes old)) (never : (address : ℕ) → e ≢ Damaged (Address address)) where
    stays : (P : List ℕ → Type 0) → IsTrue g.tells → P (g.bytes old) → Only (g.bytes old) (g.may_leave old) → LeavesOnly g.moment g.left_since old new P
    stays P tells here only = still_moments g.moment g.left_since old new (g.bytes old) (g.may_leave old) P only here (reads.contents tells).moments

    no_call : IsTrue g.tells → (stored : StoredHeap) (state : State) → IsReadable stored state (g.bytes old) → OpenPasses {T = Unit {0}} (opening_calls stored) (g.passed old) (g.passed new) (Err e)
    no_call tells stored state readable = error_passes (opening_calls stored) (g.passed old) (g.passed new) e (reads.contents tells).passed (readable_outside stored state (g.bytes old) e readable never (told tells))

    pub only_read : OpensImage g old new (Err e)
    only_read = record {
      disk = reads.disk;
      left_alone = λ early. reads;
      refused = told;
      not_heap = λ tells none. record { told = told_not_heap e (g.bytes old) (told tells) none; reads = reads; moments = stays IsNoHeap tells none };
      damaged = λ tells at fault. record { told = told_damaged e (g.bytes old) at (told tells) fault; reads = λ early. reads; moments = stays (IsFaultAt at) tells fault };
      readable = λ tells stored state readable. record {
        moments = stays (IsLogLeft stored (g.bytes old)) tells (left_same stored state (g.bytes old) readable);
        passes = no_call tells stored state readable;
      };
      shaped = λ tells stored shaped.
          let contents = reads.contents tells in
          record {
            error = told_outside stored (g.bytes old) e shaped (told tells);
            holds = tt;
            gates = tt;
            moments = stays (IsLeftByOpening stored) tells (left_as_found shaped.held);
            crash = λ only image left. subst (IsLeftByOpening stored) (sym (only image (contents.crash image left))) (left_as_found shaped.held);
            passes = no_call tells stored shaped.log.state (shaped_readable stored (g.bytes old) shaped);
            no_first_stop = λ none stops. reads.no_first_stop stops;
          };
      durable = λ tells only. tt;
      durable_damaged = λ tells only at is. let contents = reads.contents tells in only_still (g.bytes old) (g.bytes new) (g.may_leave old) (g.may_leave new) only contents.bytes contents.crash;
    }

  -- An opening that came to its force: it read a log of the image.
  pub record IsForced (result : Result (Unit {0}) RecoverError) : Type 0 where
    pub stored : StoredHeap
    pub state : State
    pub readable : IsReadable stored state (g.bytes old)
    pub told : IfErr result (λ e. IsToldOf e (g.bytes old))
    pub whole : OnOk result ((at : At) → ¬ IsFaultAt at (g.bytes old))
    pub left : Only (g.bytes old) (g.may_leave old) → LeavesOnly g.moment g.left_since old new (IsLogLeft stored (g.bytes old))
    pub passes : OpenPasses (opening_calls stored) (g.passed old) (g.passed new) result
    pub now : g.moment old ≤ g.moment new → (image : List ℕ) → g.may_leave new image → g.left_since new (g.moment old) image
    pub synced : Only (g.bytes old) (g.may_leave old) → OnOk result (Only (g.bytes new) (g.may_leave new))
    pub synced_damaged : Only (g.bytes old) (g.may_leave old) → IfErr result (λ e. (at : At) → e ≡ Damaged at → Only (g.bytes new) (g.may_leave new))

  -- what it leaves of a shaped image
  pub record LeavesShaped (result : Result (Unit {0}) RecoverError) (stored : StoredHeap) : Type 0 where
    pub holds : OnOk result (Holds (rolled_back stored) (g.bytes new))
    pub gates : OnOk result ((p : ℕ) → open_gates stored.super.log_bytes (g.bytes new) p ≡ open_gates stored.super.log_bytes (g.bytes old) p)
    pub no_first_stop : rollback_of stored ≡ [] → g.stops old ≡ 0 → g.stops new ≡ 0

  -- what is damaged is not opened, and an error reports where
  whole_or_told : (result : Result (Unit {0}) RecoverError) (image : List ℕ) (at : At) → OnOk result ((at : At) → ¬ IsFaultAt at image) → IfErr result (λ e. IsToldOf e image) → IsFaultAt at image → IsErrAnd result (IsErrorOrOutside (Damaged at))
  whole_or_told (Ok found) image at whole told fault = absurd (whole at fault)
  whole_or_told (Err e) image at whole told fault = told_damaged e image at told fault

  module _ (result : Result (Unit {0}) RecoverError) (keeps : KeepsDisk g old new (open_device result)) (late : IfErr result (λ e. ¬ ComesBeforeWrites e)) where
    alone : (r : Result (Unit {0}) RecoverError) → IfErr r (λ e. ¬ ComesBeforeWrites e) → IfErr r (λ e. ComesBeforeWrites e → OnlyReads g old new (open_device result))
    alone (Ok found) never = tt
    alone (Err e) never = λ early. absurd (never early)

    module _ (is : IsTrue g.tells → IsForced result) where
      readable_of : (tells : IsTrue g.tells) (stored : StoredHeap) (state : State) → IsReadable stored state (g.bytes old) → OpensReadable g old new result stored
      readable_of tells stored state readable =
          let it = is tells in
          record {
            moments = λ only. left_readable g.moment g.left_since it.stored it.state (g.bytes old) it.readable old new (it.left only) stored state readable;
            passes = subst (λ (n : ℕ). OpenPasses n (g.passed old) (g.passed new) result) (one_opening stored it.stored state it.state (g.bytes old) readable it.readable) it.passes;
          }

      pub opens_forced : (IsTrue g.tells → (stored : StoredHeap) → IsShaped stored (g.bytes old) → LeavesShaped result stored) → OpensImage g old new result
      opens_forced leaves = record {
        disk = keeps;
        left_alone = alone result late;
        refused = λ tells. (is tells).told;
        not_heap = λ tells none. let it = is tells in absurd (readable_heap it.stored it.state (g.bytes old) it.readable none);
        damaged = λ tells at fault.
            let it = is tells in
            record {
              told = whole_or_told result (g.bytes old) at it.whole it.told fault;
              reads = λ early. absurd (readable_late it.stored it.state (g.bytes old) at it.readable fault early);
              moments = λ only. left_damaged g.moment g.left_since it.stored it.state (g.bytes old) it.readable old new (it.left only) at fault;
            };
        readable = readable_of;
        shaped = λ tells stored shaped.
            let it = is tells in
            let opens = readable_of tells stored shaped.log.state (shaped_readable stored (g.bytes old) shaped) in
            let run = λ (only : Only (g.bytes old) (g.may_leave old)). weaker g.moment g.left_since old new (IsLogLeft stored (g.bytes old)) (IsLeftByOpening stored) (opens.moments only) (left_shaped stored (g.bytes old)) in
            let leaves_it = leaves tells stored shaped in
            record {
              error = err_outside stored (g.bytes old) result shaped it.told;
              holds = leaves_it.holds;
              gates = leaves_it.gates;
              moments = run;
              crash = λ only image left. (run only).each image (it.now (run only).later image left);
              passes = opens.passes;
              no_first_stop = leaves_it.no_first_stop;
            };
        durable = λ tells. (is tells).synced;
        durable_damaged = λ tells. (is tells).synced_damaged;
      }
