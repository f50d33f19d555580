use Rattle.std.proofs.Common.{◌≡◌, ◌≢◌, ◌<◌, ℕ, length, sym, ap, subst, ◌∙◌, arith, get_or-set_same, get_or-set_other}
use Rattle.page_cache.proofs.ByPage.{length-put_page, put_lacks}
use Rattle.page_cache.specs.CacheState.{cached, cache_pages, cached_lsn, flushed_lsn}
use Rattle.page_redo.specs.Pages.{Pages, lsn_of}
use Rattle.page_redo.specs.Redo.{EachLacks}
use Rattle.page_store.specs.StoreState.{has_failed as store_failed, store_log, store_pages}
use Rattle.logged_pages.specs.State.{cache_of, log_of, next_lsn_in, pages_in_memory}
use Rattle.logged_pages.proofs.Frames.{written_bounded}
use Rattle.logged_pages.proofs.logged.LoggedPages.write.Goals as goal

pub invariant_of-self : goal.invariant_of-self
invariant_of-self g c =
    let old = c.args.self.now in
    let new = c.write.new.self in
    let at = pages_in_memory old in
    let p = c.args.p in
    let rec = g.E.Effect.rec c.args.effect.now in
    let pages : cache_pages new ≡ cache_pages (cache_of old) = ap store_pages c.write.ensures.store in
    let within : p < length at.lsns = omega (arith, old.cache.whole, c.requires.page) in
    let size : length (cached new).words ≡ length at.words = ap (λ (ps : Pages). length ps.words) c.write.ensures.put ∙ length-put_page c.args.lsn p at rec in
    let here : cached_lsn new p ≡ c.args.lsn = ap (λ (ps : Pages). lsn_of ps p) c.write.ensures.put ∙ get_or-set_same at.lsns p c.args.lsn 0 within in
    let apart : (q : ℕ) → q ≢ p → cached_lsn new q ≡ cached_lsn (cache_of old) q = λ q apart. ap (λ (ps : Pages). lsn_of ps q) c.write.ensures.put ∙ get_or-set_other at.lsns p q c.args.lsn 0 apart in
    let ahead : flushed_lsn (cache_of old) p < cached_lsn new p = let front = old.cache.ahead p c.requires.page in omega (arith, here, c.requires.lacks, front) in
    record {
      logged = subst (λ (ps : Pages). EachLacks (next_lsn_in (log_of old)) ps) (sym c.write.ensures.put) (put_lacks (next_lsn_in (log_of old)) c.args.lsn p at rec old.logged c.requires.known within);
      works = λ is. ap store_failed c.write.ensures.store ∙ old.works is;
      sized = omega (arith, size, old.sized, pages);
      few = omega (arith, old.few, pages);
      bounded = written_bounded (cache_of old) new p c.requires.page c.write.ensures.store apart ahead c.write.ensures.frames old.some_frames c.requires.way old.bounded;
      some_frames = omega (arith, old.some_frames, c.write.ensures.frames);
      place = old.place;
      behind = old.behind ∙ sym (ap store_log c.write.ensures.store);
    }
