use Rattle.std.proofs.Common.{◌<◌, ◌≤◌, ℕ, length, sym, ap, subst, ◌∙◌, arith, length-set}
use Rattle.page_redo.proofs.VictimLaws.{dirty_room}
use Rattle.page_redo.specs.Pages.{Pages, lsn_of}
use Rattle.page_redo.specs.Victim.{differs}
use Rattle.page_store.specs.StoreState.{store_pages, stored_lsn}
use Rattle.page_cache.specs.CacheState.{cached_lsn, flushed_lsn}
use Rattle.page_cache.specs.Dirty.{Lists}
use Rattle.page_cache.proofs.ByPage.{length-put_page}
use Rattle.page_cache.proofs.DirtyLaws.{lists_count}
use Rattle.page_cache.proofs.WriteLaws.{written_dirty, written_others, written_ahead, written_listed}
use Rattle.page_cache.proofs.cache.PageCache.put.Goals as goal

pub add-requires-clause-room : goal.add-requires-clause-room
add-requires-clause-room g c =
    let cache = c.args.self.now in
    let clean = sym c.dirty-dirty.ensures ∙ c.if-not-dirty.true in
    let fewer = dirty_room (store_pages cache.store) (cached_lsn cache) (flushed_lsn cache) c.args.p c.requires.page clean in
    omega (arith, lists_count (differs (cached_lsn cache) (flushed_lsn cache)) cache.dirty (store_pages cache.store) cache.places cache.listed, fewer, cache.places)

pub invariant_of-self : goal.invariant_of-self
invariant_of-self g c =
    let cache = c.args.self.now in
    let stored : ℕ → ℕ = stored_lsn cache.store in
    let rec = g.E.Effect.rec c.args.effect.now in
    let clean = sym c.dirty-dirty.ensures ∙ c.if-not-dirty.true in
    let within : c.args.p < length cache.pages.lsns = omega (arith, cache.whole, c.requires.page) in
    let ahead = cache.ahead c.args.p c.requires.page in
    let put = sym c.write.ensures in
    let new = c.write.new.self in
    let dirty = written_dirty stored c.args.lsn c.args.p cache.pages rec within ahead c.requires.lacks in
    let others = written_others stored c.args.lsn c.args.p cache.pages rec within ahead c.requires.lacks in
    record {
      whole = ap (λ (at : Pages). length at.lsns) c.write.ensures ∙ length-set cache.pages.lsns c.args.p c.args.lsn ∙ cache.whole;
      sized = ap (λ (at : Pages). length at.words) c.write.ensures ∙ length-put_page c.args.lsn c.args.p cache.pages rec ∙ cache.sized;
      ahead = λ q lt. subst (λ (at : Pages). stored q ≤ lsn_of at q) put (written_ahead stored c.args.lsn c.args.p cache.pages rec within ahead c.requires.lacks q (cache.ahead q lt));
      places = c.add.ensures.pages ∙ cache.places;
      listed = subst (λ (at : Pages). Lists (differs (lsn_of at) stored) c.add.new.self) put (c.add.ensures.added (differs (lsn_of cache.pages) stored) _ cache.listed clean dirty others);
    }

pub invariant_of-self-else-not-dirty : goal.invariant_of-self-else-not-dirty
invariant_of-self-else-not-dirty g c =
    let cache = c.args.self.now in
    let stored : ℕ → ℕ = stored_lsn cache.store in
    let rec = g.E.Effect.rec c.args.effect.now in
    let dirty = sym c.dirty-dirty.ensures ∙ c.if-not-dirty.false in
    let within : c.args.p < length cache.pages.lsns = omega (arith, cache.whole, c.requires.page) in
    let ahead = cache.ahead c.args.p c.requires.page in
    let put = sym c.write.ensures in
    let listed = written_listed stored c.args.lsn c.args.p cache.pages rec within ahead c.requires.lacks cache.dirty dirty cache.listed in
    record {
      whole = ap (λ (at : Pages). length at.lsns) c.write.ensures ∙ length-set cache.pages.lsns c.args.p c.args.lsn ∙ cache.whole;
      sized = ap (λ (at : Pages). length at.words) c.write.ensures ∙ length-put_page c.args.lsn c.args.p cache.pages rec ∙ cache.sized;
      ahead = λ q lt. subst (λ (at : Pages). stored q ≤ lsn_of at q) put (written_ahead stored c.args.lsn c.args.p cache.pages rec within ahead c.requires.lacks q (cache.ahead q lt));
      places = cache.places;
      listed = subst (λ (at : Pages). Lists (differs (lsn_of at) stored) cache.dirty) put listed;
    }
