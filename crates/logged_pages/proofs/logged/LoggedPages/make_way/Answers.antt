use Rattle.std.proofs.Common.{◌≡◌, ◌≢◌, ◌*◌, ◌<◌, ℕ, Bool, true, List, refl, sym, ap, subst, ◌∙◌, arith}
use Rattle.std.specs.Prelude.{IsTrue, Some, Option}
use Rattle.gate_slot.specs.Passing.{Passes}
use Rattle.gated_log.specs.LogState.{Keeps, log_count, log_forced, log_place}
use Rattle.image_plan.specs.declared.plan.Plan.{Plan}
use Rattle.log_records.specs.declared.Record.{Record}
use Rattle.page_cache.specs.CacheState.{cache_frames, cache_pages, cached_lsn, flushed_lsn, is_dirty}
use Rattle.page_redo.specs.Carry.{Carry, stored_in, way_made}
use Rattle.page_redo.specs.Origin.{Origin}
use Rattle.page_redo.specs.Pages.{Pages, lsn_of}
use Rattle.page_redo.specs.Victim.{victim}
use Rattle.page_store.specs.StoreState.{store_plan}
use Rattle.page_store.specs.declared.frame.Stored.{Stored}
use Rattle.logged_pages.specs.Advancing.{Advances, AdvancesOnDisk, HasPut, IsAt, NothingMore, was_forced}
use Rattle.logged_pages.specs.OnDisk.{batches_if, pending_if, is_ahead, IsOnDisk, Stands}
use Rattle.logged_pages.specs.State.{cache_of, frames_of, log_of, pages_in_memory, store_of}
use Rattle.logged_pages.proofs.AdvanceLaws.{advances_alike, advances_none}
use Rattle.logged_pages.proofs.CarriedLaws.{its, when_ok}
use Rattle.logged_pages.proofs.DiskLaws.{stands_still}
use Rattle.logged_pages.proofs.Frames.{stored_way, victim_at, victim_is}
use Rattle.logged_pages.proofs.Stores.{at_stored, calls_stored, gates_stored, left_stored, still_forced, stored_some, was_ahead}
use Rattle.logged_pages.proofs.logged.LoggedPages.make_way.Goals as goal

pub store-requires-clause-page : goal.store-requires-clause-page
store-requires-clause-page g c = (victim_is (cache_of c.args.self.now) c.args.p c.in-Some.victim (sym c.victim.ensures ∙ c.in-Some.is)).within

pub store-requires-clause-dirty : goal.store-requires-clause-dirty
store-requires-clause-dirty g c = (victim_is (cache_of c.args.self.now) c.args.p c.in-Some.victim (sym c.victim.ensures ∙ c.in-Some.is)).dirty

pub returns-in-Some-clause-way : goal.returns-in-Some-clause-way
returns-in-Some-clause-way g c =
    let old = c.args.self.now in
    let v = c.in-Some.victim in
    let is = victim_is (cache_of old) c.args.p v (sym c.victim.ensures ∙ c.in-Some.is) in
    let e = c.store.ensures in
    when_ok c.store.result (λ x done. stored_way (cache_of old) (cache_of c.store.new.self) v is.within e.pages e.plan e.other_pages c.args.p is.dirty e.frames (its c.store.result x done e.clean) old.bounded)

pub returns-in-Some-clause-stores : goal.returns-in-Some-clause-stores
returns-in-Some-clause-stores g c =
    let d = g.D.Disk in
    let old = c.args.self.now in
    let new = c.store.new.self in
    let before = c.args.disk.now in
    let after = c.store.new.disk in
    let r = c.store.result in
    let v = c.in-Some.victim in
    let e = c.store.ensures in
    let within = (victim_is (cache_of old) c.args.p v (sym c.victim.ensures ∙ c.in-Some.is)).within in
    let pages : cache_pages (cache_of new) ≡ cache_pages (cache_of old) = ap (λ (of : Plan). 2 * of.pages) e.plan in
    let lsns : (q : ℕ) → cached_lsn (cache_of new) q ≡ cached_lsn (cache_of old) q = λ q. ap (λ (at : Pages). lsn_of at q) e.pages in
    let others : (q : ℕ) → q ≢ v → flushed_lsn (cache_of new) q ≡ flushed_lsn (cache_of old) q = λ q apart. ap (λ (s : Stored). s.lsn) (e.other_pages q apart) in
    let stores : Advances d old new before after r (pages_in_memory old) (stored_in v) NothingMore = record {
      disk = e.disk;
      failed = e.failed;
      put = when_ok r (λ x done.
          let forced = its r x done e.forced in
          record {
            pages = e.pages;
            kept = λ batches pending keeps. subst (λ (b : Bool). Keeps (log_of new) (batches_if b batches pending) (pending_if b pending)) (sym (was_ahead old new v within forced)) (its r x done (e.kept batches pending keeps));
            count = e.count;
            forced = still_forced old new v within forced;
            used = e.used;
            spare = e.spare;
            room = e.room;
            plan = e.plan;
            frames = e.frames;
          });
      carry = λ k at. when_ok r (λ x done. at_stored old new v within k at (its r x done e.forced) e.count pages lsns (its r x done e.clean) others);
      still = λ k at few. absurd (omega (arith, few, stored_some v k));
      on_disk = λ told o batches pending is nothing held. record {
        on_disk = when_ok r (λ x done. subst (λ (b : Bool). IsOnDisk o (batches_if b batches pending) new (d.bytes after)) (sym (was_ahead old new v within (its r x done e.forced))) (its r x done (e.on_disk told o batches pending is held)));
        left = when_ok r (λ x done. left_stored old new v within o batches pending (d.bytes before) (d.bytes after)
            (stands_still o (batches_if (is_ahead old v) batches pending) new old (d.bytes after) (old.place ∙ sym new.place) (sym e.room) (sym e.plan) (its r x done (e.on_disk told o batches pending is held)).stands) held.frames (its r x done (e.stored told held.frames)));
        durable = λ only. e.durable told;
        moments = λ only. e.moments told only o batches pending is held;
        gates = λ k at gates. when_ok r (λ x done. gates_stored old new v within k at (d.bytes before) (d.bytes after) gates (its r x done (e.stored told held.frames)) e.plan);
        passes = λ k at gates. subst (λ (n : ℕ). Passes n (d.passed before) (d.passed after) r) (calls_stored old new v within k at (d.bytes before) gates) (e.passes told held.frames);
      };
    } in
    advances_alike d old new before after r (pages_in_memory old) (stored_in v) (λ k. way_made (victim (cache_pages (cache_of old)) (frames_of old) k.lsns k.stored c.args.p) k) NothingMore NothingMore
    (λ k at. sym (ap (λ (w : Option ℕ). way_made w k) (victim_at old k c.args.p c.requires.page at ∙ sym c.victim.ensures ∙ c.in-Some.is))) (λ o all nothing. nothing) stores

pub returns-in-None-clause-stores : goal.returns-in-None-clause-stores
returns-in-None-clause-stores g c =
    let old = c.args.self.now in
    advances_none g.D.Disk old c.args.disk.now (λ k. way_made (victim (cache_pages (cache_of old)) (frames_of old) k.lsns k.stored c.args.p) k) NothingMore c.requires.works (λ told. g.met.D.Disk.only_now told c.args.disk.now)
    (λ k at. ap (λ (w : Option ℕ). way_made w k) (victim_at old k c.args.p c.requires.page at ∙ sym c.victim.ensures ∙ c.in-None.is))
