use Rattle.std.proofs.Common.{rules, ◌≡◌, ℕ, ◌+◌, ◌*◌, ap, subst, None, arith}
use Rattle.image_plan.specs.declared.plan.Plan.{Plan}
use Rattle.page_cache.specs.CacheState.{cache_frames, cache_pages, cache_store, cached, cached_lsn, flushed_lsn}
use Rattle.page_redo.proofs.VictimLaws.{dirty_at_most}
use Rattle.page_redo.specs.Redo.{EachLacks}
use Rattle.page_store.specs.StoreState.{store_plan}
use Rattle.object_tests.proofs.engine_tests.new_heap.Goals as goal

-- no page is ahead of the log
pub new-pages-requires-clause-logged : goal.new-pages-requires-clause-logged
new-pages-requires-clause-logged g c =
    let none : c.first_past.result ≡ None = search rules in
    subst (λ (n : ℕ). EachLacks (n + 1) (cached c.in_ok-cache.cache)) c.records.ensures (c.first_past.ensures.none none)

-- each page may be dirty
pub new-pages-requires-clause-bounded : goal.new-pages-requires-clause-bounded
new-pages-requires-clause-bounded g c =
    let cache = c.in_ok-cache.cache in
    let plan : store_plan (cache_store cache) ≡ c.args.plan = c.in_ok-cache.ensures.plan in
    let frames : cache_frames cache ≡ 2 * c.args.plan.pages = c.in_ok-cache.ensures.frames in
    let pages : cache_pages cache ≡ 2 * c.args.plan.pages = ap (λ (of : Plan). 2 * of.pages) plan in
    omega (arith, dirty_at_most (cache_pages cache) (cached_lsn cache) (flushed_lsn cache), frames, pages)
