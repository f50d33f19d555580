-- A page is written in memory: the log and the disk stay as they are.
use Rattle.std.proofs.Common.{◌≡◌, ◌≢◌, ℕ, ◌+◌, ◌-◌, ◌<◌, ◌≤◌, Bool, true, false, Ok, List, length, refl, sym, ap, subst, ◌∙◌, inl, inr, arith, get_or-set_same, get_or-set_other}
use Rattle.std.specs.Prelude.{◌==◌, is_err, IsTrue}
use Rattle.std.proofs.lemmas.Bool.{cases_eq, cond-true, cond-false, eq-eqb, ne_eqb, le-ltb}
use Rattle.disk_model.proofs.KeepsLaws.{keeps_none}
use Rattle.disk_model.proofs.MomentLaws.{begins}
use Rattle.disk_model.specs.declared.disk.Disk.{Ghosts}
use Rattle.gate_slot.specs.Passing.{Passes}
use Rattle.gated_log.specs.declared.log.Log.{Log}
use Rattle.gated_log.specs.LogState.{HasSpare, Keeps, log_count, log_forced, log_room, log_used}
use Rattle.log_records.specs.declared.Record.{Record}
use Rattle.page_cache.specs.ByPage.{put_page}
use Rattle.page_cache.specs.CacheState.{cache_pages, cached_lsn, flushed_lsn}
use Rattle.page_redo.specs.Carry.{Carry, raised_at}
use Rattle.page_redo.specs.Origin.{Origin}
use Rattle.page_redo.specs.Pages.{Pages, lsn_of}
use Rattle.page_redo.specs.Transfers.{set_at}
use Rattle.page_store.specs.Gates.{open_gates}
use Rattle.page_store.specs.StoreState.{store_log, store_pages, store_plan, stored_lsn, Knows}
use Rattle.page_store.specs.declared.store.PageStore.{PageStore}
use Rattle.logged_pages.specs.Advancing.{Advances, AdvancesOnDisk, HasGates, HasPut, IsAt, IsStill, NothingMore, was_forced}
use Rattle.logged_pages.specs.declared.logged.LoggedPages.{LoggedPages}
use Rattle.logged_pages.specs.OnDisk.{batches_if, pending_if, IsLeft, IsOnDisk}
use Rattle.logged_pages.specs.State.{cache_of, frames_of, has_failed, log_of, pages_in_memory, store_of}
use Rattle.logged_pages.proofs.DiskLaws.{left_alone, stands_still}

module _ {D : Type 0} (g : Ghosts D) (old new : LoggedPages) (disk : D) (at : Pages) (go : Carry → Carry) (works : has_failed new ≡ false) (log : log_of new ≡ log_of old) (pages : pages_in_memory new ≡ at) (store : store_of new ≡ store_of old) (frames : frames_of new ≡ frames_of old)
    (only_now : IsTrue g.tells → (c : List ℕ) → g.left_since disk (g.moment disk) c → g.may_leave disk c) where
  never : was_forced old new ≡ false
  never = le-ltb (log_forced (log_of old)) (log_forced (log_of new)) (omega (arith, ap log_forced log))

  still_put : HasPut old new at
  still_put = record {
    pages = pages;
    kept = λ batches pending keeps.
        let here = subst (λ (l : Log). Keeps l batches pending) (sym log) keeps in
        subst (λ (f : Bool). Keeps (log_of new) (batches_if f batches pending) (pending_if f pending)) (sym never) here;
    count = ap log_count log;
    forced = omega (arith, ap log_forced log);
    used = omega (arith, ap log_used log);
    spare = λ more has. subst (λ (l : Log). HasSpare l more) (sym log) has;
    room = ap log_room log;
    plan = ap store_plan store;
    frames = frames;
  }

  still_there : (o : Origin) (batches : List (List Record)) (image : List ℕ) → IsOnDisk o batches old image → IsOnDisk o batches new image
  still_there o batches image is = record {
    stands = stands_still o batches old new image (new.place ∙ sym old.place) (ap log_room log) (ap store_plan store) is.stands;
    frames = subst (λ (s : PageStore). Knows s image) (sym store) is.frames;
  }

  -- so only memory gets ahead
  pub written_advances : ((k : Carry) → IsAt k old → IsAt (go k) new) → ((k : Carry) → (go k).calls ≡ k.calls) → ((k : Carry) → (go k).gates ≡ k.gates) → Advances g old new disk disk (Ok tt) at go NothingMore
  written_advances carries calls gates = record {
    disk = keeps_none g disk tt;
    failed = works;
    put = still_put;
    carry = carries;
    still = λ k here few. (refl, record { disk = refl; log = log; store = store });
    on_disk = λ told o batches pending is nothing held. record {
      on_disk = subst (λ (f : Bool). IsOnDisk o (batches_if f batches pending) new (g.bytes disk)) (sym never) (still_there o batches (g.bytes disk) held);
      left = left_alone old (g.bytes disk) (g.bytes disk) o batches pending held.stands refl;
      durable = λ only. only;
      moments = λ only. begins g.moment g.left_since disk (IsLeft o batches pending old (g.bytes disk)) (λ image left. left_alone old (g.bytes disk) image o batches pending held.stands (only image (only_now told image left)));
      gates = λ k here have p lt.
          let P : PageStore → Type 0 = λ s. k.gates p ≡ open_gates (store_log s) (g.bytes disk) p in
          ap (λ (f : ℕ → ℕ). f p) (gates k) ∙ subst P (sym store) (have p (omega (arith, lt, ap store_pages store)));
      passes = λ k here have.
          let none : (go k).calls - k.calls ≡ 0 = omega (arith, calls k) in
          subst (λ (n : ℕ). Passes n (g.passed disk) (g.passed disk) (Ok tt)) (sym none) (record { ok = refl; some = (0, omega arith, refl); stopped = λ not. absurd (cc not) });
    };
  }

-- the page has the record's LSN, and the others have theirs
module _ (old new : LoggedPages) (lsn p : ℕ) (rec : Record) (log : log_of new ≡ log_of old) (pages : pages_in_memory new ≡ put_page lsn p (pages_in_memory old) rec) (store : store_of new ≡ store_of old) (within : p < cache_pages (cache_of old)) where
  there : p < length (pages_in_memory old).lsns
  there = omega (arith, (cache_of old).whole, within)

  pub lsn_here : cached_lsn (cache_of new) p ≡ lsn
  lsn_here = ap (λ (at : Pages). lsn_of at p) pages ∙ get_or-set_same (pages_in_memory old).lsns p lsn 0 there

  pub lsn_apart : (q : ℕ) → q ≢ p → cached_lsn (cache_of new) q ≡ cached_lsn (cache_of old) q
  lsn_apart q apart = ap (λ (at : Pages). lsn_of at q) pages ∙ get_or-set_other (pages_in_memory old).lsns p q lsn 0 apart

  pub at_written : (k : Carry) → IsAt k old → IsAt (raised_at p lsn k) new
  at_written k at = record {
    lsns = λ q lt. elim (cases_eq q p) [
      | inl here ↦ subst (λ (n : ℕ). set_at p lsn k.lsns n ≡ cached_lsn (cache_of new) n) (sym here) (cond-true (p == p) lsn (k.lsns p) (eq-eqb p p refl) ∙ sym lsn_here)
      | inr apart ↦ cond-false (q == p) lsn (k.lsns q) (ne_eqb q p apart) ∙ at.lsns q (omega (arith, lt, ap store_pages store)) ∙ sym (lsn_apart q apart)
    ];
    stored = λ q lt. at.stored q (omega (arith, lt, ap store_pages store)) ∙ sym (ap (λ (s : PageStore). stored_lsn s q) store);
    forced = at.forced ∙ sym (ap log_forced log);
    last = omega (arith, at.last, ap log_count log);
  }
