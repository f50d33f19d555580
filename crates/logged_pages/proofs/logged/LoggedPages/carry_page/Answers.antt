use Rattle.std.proofs.Common.{rules, ◌≡◌, ◌≢◌, ◌*◌, ◌<◌, ◌≤◌, ℕ, Ok, Err, length, refl, sym, ap, subst, ◌∙◌, arith, get_or-set_same, get_or-set_other}
use Rattle.image_plan.specs.declared.plan.Plan.{Plan}
use Rattle.gated_log.specs.LogState.{log_count}
use Rattle.page_cache.proofs.ByPage.{length-put_page, put_lacks}
use Rattle.page_cache.specs.CacheState.{cached, cache_pages, cached_lsn, flushed_lsn}
use Rattle.page_cache.specs.ByPage.{put_page}
use Rattle.page_redo.proofs.CarryLaws.{way_calls}
use Rattle.page_redo.specs.Carry.{Carry, page_written, raised_at, way_made}
use Rattle.page_redo.specs.Pages.{Pages, lsn_of}
use Rattle.page_redo.specs.Prefix.{EachHoldsPrefix}
use Rattle.page_redo.specs.Redo.{EachLacks}
use Rattle.page_redo.specs.Victim.{victim}
use Rattle.page_store.specs.StoreState.{has_failed as store_failed, store_log, store_pages}
use Rattle.logged_pages.specs.Advancing.{Advances, NothingMore}
use Rattle.logged_pages.specs.State.{cache_of, frames_of, log_of, next_lsn_in, pages_in_memory}
use Rattle.logged_pages.proofs.AdvanceLaws.{advances_as, advances_cut, advances_then}
use Rattle.logged_pages.proofs.Frames.{written_bounded}
use Rattle.logged_pages.proofs.Writes.{at_written, written_advances}
use Rattle.logged_pages.proofs.logged.LoggedPages.carry_page.Goals as goal

same_calls : (n : ℕ) → n ≤ n
same_calls n = omega arith

pub returns-in_err-make_way : goal.returns-in_err-make_way
returns-in_err-make_way g c =
    let old = c.args.self.now in
    let pages = cache_pages (cache_of old) in
    let frames = frames_of old in
    let way : Carry → Carry = λ k. way_made (victim pages frames k.lsns k.stored c.args.p) k in
    let err : c.from_residual.result ≡ Err c.in_err-make_way.field-0.0 = search rules in
    let at = put_page c.args.lsn c.args.p (pages_in_memory old) (g.E.Effect.rec c.args.effect.now) in
    let cut = advances_cut g.D.Disk old c.make_way.new.self c.args.disk.now c.make_way.new.disk c.in_err-make_way.field-0.0 (pages_in_memory old) at way (page_written pages frames c.args.p c.args.lsn) NothingMore NothingMore
    (λ k. way_calls (victim pages frames k.lsns k.stored c.args.p) k) (λ k. same_calls (way k).calls) (λ o all nothing. nothing) c.in_err-make_way.ensures.stores in
    record {
      puts = advances_as g.D.Disk old c.make_way.new.self c.args.disk.now c.make_way.new.disk (Err c.in_err-make_way.field-0.0) c.from_residual.result at (page_written pages frames c.args.p c.args.lsn) NothingMore (sym err) cut;
    }

pub returns : goal.returns
returns g c =
    let old = c.args.self.now in
    let mid = c.make_way.new.self in
    let new = c.write.new.self in
    let p = c.args.p in
    let rec = g.E.Effect.rec c.args.effect.now in
    let pages = cache_pages (cache_of old) in
    let frames = frames_of old in
    let stores = c.in_ok-make_way.ensures.stores in
    let put = c.write.ensures in
    let at = put_page c.args.lsn p (pages_in_memory mid) rec in
    let before : cache_pages (cache_of mid) ≡ pages = ap (λ (of : Plan). 2 * of.pages) stores.put.plan in
    let there : p < cache_pages (cache_of mid) = omega (arith, before, c.requires.page) in
    let way : Carry → Carry = λ k. way_made (victim pages frames k.lsns k.stored p) k in
    let second = written_advances g.D.Disk mid new c.make_way.new.disk at (raised_at p c.args.lsn) (put.failed ∙ stores.failed) put.log put.put put.store put.frames (λ told. g.met.D.Disk.only_now told c.make_way.new.disk)
    (at_written mid new c.args.lsn p rec put.log put.put put.store there) (λ k. refl) (λ k. refl) in
    let both = advances_then g.D.Disk old mid new c.args.disk.now c.make_way.new.disk c.make_way.new.disk (Ok tt) (pages_in_memory old) at way (raised_at p c.args.lsn) NothingMore NothingMore NothingMore stores second
    (λ k. way_calls (victim pages frames k.lsns k.stored p) k) (λ k. same_calls k.calls) (λ o all nothing. nothing) (λ o all nothing. nothing)
    (λ o all each nothing. subst (λ (ps : Pages). EachHoldsPrefix o all ps) (sym stores.put.pages) each) in
    record { puts = subst (λ (ps : Pages). Advances g.D.Disk old new c.args.disk.now c.make_way.new.disk (Ok tt) (put_page c.args.lsn p ps rec) (page_written pages frames p c.args.lsn) NothingMore) stores.put.pages both }
