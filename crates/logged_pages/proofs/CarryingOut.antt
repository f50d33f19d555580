-- Records are appended, and then put on their pages.
use Rattle.std.proofs.Common.{◌≡◌, ℕ, ◌+◌, ◌-◌, ◌<◌, ◌≤◌, Bool, List, [], ◌++◌, Result, length, take, refl, sym, ap, subst, ◌∙◌, inl, inr, ⊎_elim, arith, append_assoc, length-append}
use Rattle.std.specs.Prelude.{OnOk, IsOk, IsTrue, nat_lt}
use Rattle.disk_model.proofs.MomentLaws.{weaker}
use Rattle.disk_model.specs.Disk.{SameOutside}
use Rattle.disk_model.specs.declared.disk.Disk.{Ghosts}
use Rattle.disk_model.specs.declared.disk.DiskError.{DiskError}
use Rattle.gate_slot.specs.Passing.{Passes}
use Rattle.gated_log.specs.declared.log.Log.{Log}
use Rattle.gated_log.specs.Log.{records_of, with_batch}
use Rattle.gated_log.specs.LogState.{Keeps, log_count, log_forced}
use Rattle.image_plan.specs.Plan.{log_offset}
use Rattle.log_records.specs.declared.Record.{Record}
use Rattle.page_cache.specs.CacheState.{cache_frames, cache_log, cache_pages, cache_size, cached, cached_lsn, flushed_lsn}
use Rattle.page_cache.specs.declared.cache.PageCache.{PageCache}
use Rattle.page_redo.proofs.CarryLaws.{carry_idle, puts_of_pages}
use Rattle.page_redo.specs.Carry.{Carry, carry, puts_of}
use Rattle.page_redo.specs.Origin.{Origin, next_lsn}
use Rattle.page_redo.specs.Pages.{Pages}
use Rattle.page_redo.specs.Prefix.{EachHoldsPrefix, HasAllWords}
use Rattle.page_redo.specs.Redo.{redo_all}
use Rattle.page_store.specs.Gates.{open_gates}
use Rattle.page_store.specs.Page.{page_lsn}
use Rattle.page_store.specs.StoreState.{store_plan, Knows}
use Rattle.logged_pages.specs.Advancing.{AdvancesOnDisk, HasGates, HasPut, HoldOnTheWay, IsAt, IsAtWith, IsStill, PutsAll, carried_by, was_forced}
use Rattle.logged_pages.specs.Appended.{IsAppended}
use Rattle.logged_pages.specs.Carried.{Carries, HasCarried}
use Rattle.logged_pages.specs.declared.logged.LoggedPages.{LoggedPages}
use Rattle.logged_pages.specs.OnDisk.{batches_if, pending_if, IsLeft, IsOnDisk, Stands}
use Rattle.logged_pages.specs.State.{IsBehind, IsUpToDate, cache_of, frames_of, log_of, next_lsn_in, pages_in_memory, store_of}
use Rattle.logged_pages.proofs.CarriedLaws.{carries, now_pages, now_size, now_words, ok_gives, on_ok, spare_appended, then_up_to_date, used_appended}
use Rattle.logged_pages.proofs.DiskLaws.{stands_still}
use Rattle.logged_pages.proofs.Middle.{between_prefixes}

-- where a carry begins
abbrev start : LoggedPages → ℕ → Carry
start of more = record { lsns = cached_lsn (cache_of of); stored = flushed_lsn (cache_of of); gates = λ p. 0; forced = log_forced (log_of of); last = more + log_count (log_of of); transfers = []; calls = 0 }

module _ {D : Type 0} (g : Ghosts D) (old mid new : LoggedPages) (before after : D) (result : Result (Unit {0}) DiskError) (first : ℕ) (records : List Record) (added : IsAppended (log_of old) (log_of mid) records) (cache : cache_of mid ≡ cache_of old)
    (begins : first ≡ next_lsn_in (log_of old)) (puts : PutsAll g mid new before after result first records) where
  abbrev n : ℕ
  n = length records

  forced_same : was_forced mid new ≡ was_forced old new
  forced_same = ap (λ (k : ℕ). nat_lt k (log_forced (log_of new))) added.place.forced

  pages_are : HasPut mid new (redo_all first (pages_in_memory mid) records) → pages_in_memory new ≡ redo_all first (pages_in_memory old) records
  pages_are put = put.pages ∙ ap (λ (k : PageCache). redo_all first (cached k) records) cache

  has_carried : HasPut mid new (redo_all first (pages_in_memory mid) records) → HasCarried old new records
  has_carried put = record {
    kept = λ batches pending keeps. subst (λ (f : Bool). Keeps (log_of new) (batches_if f batches (pending ++ records)) (pending_if f (pending ++ records))) forced_same (put.kept batches (pending ++ records) (added.kept batches pending keeps));
    count = omega (arith, put.count, added.count);
    forced = omega (arith, put.forced, added.place.forced);
    used = omega (arith, put.used, used_appended (log_of old) (log_of mid) records added);
    spare = λ more has. put.spare more (spare_appended (log_of old) (log_of mid) records more added has);
    words = now_words old new first records begins (pages_are put);
    lsns = ap (λ (at : Pages). at.lsns) (now_pages old new first records begins (pages_are put));
    size = now_size old new first records begins (pages_are put);
    room = put.room ∙ added.place.room;
    plan = put.plan ∙ ap (λ (k : PageCache). store_plan k.store) cache;
    frames = put.frames ∙ ap cache_frames cache;
  }

  pub carried : OnOk result (HasCarried old new records)
  carried = on_ok result has_carried puts.put

  pub up_to_date : (o : Origin) (batches : List (List Record)) (pending : List Record) → HasAllWords o → IsUpToDate o batches pending old → OnOk result (IsUpToDate o (batches_if (was_forced old new) batches (pending ++ records)) (pending_if (was_forced old new) (pending ++ records)) new)
  up_to_date o batches pending whole current = on_ok result (λ put. then_up_to_date old new first records begins (pages_are put) (has_carried put) o batches pending whole current) puts.put

  -- The carry.

  at_mid : (k : Carry) → IsAtWith n k old → IsAt k mid
  at_mid k at = record {
    lsns = let P : PageCache → Type 0 = λ c. (p : ℕ) → p < cache_pages c → k.lsns p ≡ cached_lsn c p in subst P (sym cache) at.lsns;
    stored = let P : PageCache → Type 0 = λ c. (p : ℕ) → p < cache_pages c → k.stored p ≡ flushed_lsn c p in subst P (sym cache) at.stored;
    forced = at.forced ∙ sym added.place.forced;
    last = omega (arith, at.last, added.count);
  }

  abbrev go : Carry → Carry
  go k = carry (cache_pages (cache_of mid)) (frames_of mid) k (puts_of (cache_pages (cache_of mid)) first records)

  go_is : (k : Carry) → go k ≡ carried_by old k records
  go_is k = λ i. carry (cache_pages (cache i)) (cache_frames (cache i)) k (puts_of (cache_pages (cache i)) (begins i) records)

  pub carry_on : (k : Carry) → IsAtWith n k old → OnOk result (IsAt (carried_by old k records) new)
  carry_on k at = on_ok result (λ there. subst (λ (j : Carry). IsAt j new) (go_is k) there) (puts.carry k (at_mid k at))

  pub still : (k : Carry) → IsAtWith n k old → (carried_by old k records).calls ≡ k.calls → IsOk result × (after ≡ before) × Carries old new records
  still k at few =
      let none = puts.still k (at_mid k at) (ap (λ (j : Carry). j.calls) (go_is k) ∙ few) in
      let put = ok_gives result none.0 puts.put in
      let log = subst (λ (l : Log). IsAppended (log_of old) l records) (sym none.1.log) added in
      (none.0, none.1.disk, carries old new first records begins (pages_are put) log (none.1.store ∙ ap (λ (k : PageCache). k.store) cache) (put.frames ∙ ap cache_frames cache))

  pub idle : cache_pages (cache_of old) ≤ frames_of old → IsOk result × (after ≡ before) × Carries old new records
  idle few =
      still (start old n) (record { lsns = λ p lt. refl; stored = λ p lt. refl; forced = refl; last = refl })
      (carry_idle (cache_pages (cache_of old)) (frames_of old) (puts_of (cache_pages (cache_of old)) (next_lsn_in (log_of old)) records) (start old n) few (puts_of_pages (cache_pages (cache_of old)) (next_lsn_in (log_of old)) records))

  -- The disk.

  back : (o : Origin) (batches : List (List Record)) (pending : List Record) (image : List ℕ) → IsLeft o batches pending mid (g.bytes before) image → IsLeft o batches pending old (g.bytes before) image
  back o batches pending image is =
      let there : (bs : List (List Record)) → Stands o bs mid image → Stands o bs old image = λ bs. stands_still o bs mid old image (sym added.place.at) (sym added.place.room) (sym (ap (λ (k : PageCache). store_plan k.store) cache)) in
      let Left : PageCache → Type 0 = λ c. ((p : ℕ) → p < cache_pages c → page_lsn (cache_log c) p (g.bytes before) ≤ page_lsn (cache_log c) p image) in
      let Beside : PageCache → Type 0 = λ c. SameOutside log_offset (cache_size c) (g.bytes before) image in
      record {
        stands = ⊎_elim (λ (s : Stands o batches mid image). inl (there batches s)) (λ s. inr (there (with_batch batches pending) s)) is.stands;
        later = subst Left cache is.later;
        outside = subst Beside cache is.outside;
      }

  gates_mid : (gates : ℕ → ℕ) → HasGates old gates (g.bytes before) → HasGates mid gates (g.bytes before)
  gates_mid gates has = let P : PageCache → Type 0 = λ c. (p : ℕ) → p < cache_pages c → gates p ≡ open_gates (cache_log c) (g.bytes before) p in subst P (sym cache) has

  pub on_disk : IsTrue g.tells → (o : Origin) (batches : List (List Record)) (pending : List Record) → HasAllWords o → IsUpToDate o batches pending old → IsOnDisk o batches old (g.bytes before)
      → AdvancesOnDisk g n old new before after result (λ k. carried_by old k records) o batches (pending ++ records)
  on_disk told o batches pending whole current held =
      let all = records_of batches ++ pending in
      let later = pending ++ records in
      let joined : all ++ records ≡ records_of batches ++ later = append_assoc (records_of batches) pending records in
      let next : first ≡ next_lsn o all = begins ∙ omega (arith, current.log.count, current.first, length-append (records_of batches) pending) in
      let way : HoldOnTheWay first (pages_in_memory mid) records o (records_of batches ++ later) = λ i.
      subst (λ (rs : List Record). EachHoldsPrefix o rs (redo_all first (pages_in_memory mid) (take i records))) joined
      (subst (λ (k : PageCache). EachHoldsPrefix o (all ++ records) (redo_all first (cached k) (take i records))) (sym cache)
      (subst (λ (l : ℕ). EachHoldsPrefix o (all ++ records) (redo_all l (pages_in_memory old) (take i records))) (sym next) (between_prefixes o whole all records i (pages_in_memory old) current.present))) in
      let behind : IsBehind o batches later mid = record { first = current.first; log = added.kept batches pending current.log; prefixes = way 0 } in
      let there : IsOnDisk o batches mid (g.bytes before) = record {
        stands = stands_still o batches old mid (g.bytes before) added.place.at added.place.room (ap (λ (k : PageCache). store_plan k.store) cache) held.stands;
        frames = let P : PageCache → Type 0 = λ k. Knows k.store (g.bytes before) in subst P (sym cache) held.frames;
      } in
      let d = puts.on_disk told o batches later behind way there in
      record {
        on_disk = subst (λ (f : Bool). OnOk result (IsOnDisk o (batches_if f batches later) new (g.bytes after))) forced_same d.on_disk;
        left = on_ok result (back o batches later (g.bytes after)) d.left;
        durable = d.durable;
        moments = λ only. weaker g.moment g.left_since before after _ (IsLeft o batches later old (g.bytes before)) (d.moments only) (λ image left. back o batches later image left);
        gates = λ k at has. on_ok result (λ has'. subst (λ (j : Carry). HasGates new j.gates (g.bytes after)) (go_is k) has') (d.gates k (at_mid k at) (gates_mid k.gates has));
        passes = λ k at has. subst (λ (j : Carry). Passes (j.calls - k.calls) (g.passed before) (g.passed after) result) (go_is k) (d.passes k (at_mid k at) (gates_mid k.gates has));
      }
