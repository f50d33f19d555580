use Rattle.std.proofs.Common.{◌≡◌, ◌-◌, ◌≤◌, ◌∷◌, [], Ok, false}
use Rattle.page_cache.proofs.ByPage.{IsPutBefore}
use Rattle.page_cache.specs.CacheState.{cache_pages}
use Rattle.page_redo.specs.Carry.{carry, puts_below}
use Rattle.logged_pages.specs.Advancing.{Advances, HoldOnTheWay}
use Rattle.logged_pages.specs.State.{cache_of, frames_of, has_failed, pages_in_memory}
use Rattle.logged_pages.proofs.logged.LoggedPages.carry_record.Given as goal

-- the record is put on the pages so far, and the others are as they were
abbrev pub invariant-loop-p : goal.invariant-loop-p
invariant-loop-p g l =
    let old = l.fn.self in
    let rec = g.E.Effect.rec l.effect in
    record {
      put : IsPutBefore l.lsn rec (pages_in_memory old) l.from (pages_in_memory l.self);
      works : has_failed l.self ≡ false;
      within : l.from ≤ cache_pages (cache_of old);
      puts : Advances g.D.Disk old l.self l.fn.disk l.disk (Ok tt) (pages_in_memory l.self) (λ k. carry (cache_pages (cache_of old)) (frames_of old) k (puts_below l.from l.lsn rec)) (HoldOnTheWay l.lsn (pages_in_memory old) (rec ∷ []));
    }

abbrev pub decreases-loop-p : goal.decreases-loop-p
decreases-loop-p g l = cache_pages (cache_of l.fn.self) - l.from
