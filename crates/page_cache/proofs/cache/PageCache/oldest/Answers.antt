use Rattle.std.proofs.Common.{◌≡◌, ◌<◌, ℕ, sym, ap, subst, ◌∙◌, arith, inl, inr, ⊎_elim}
use Rattle.std.specs.Prelude.{slice_index}
use Rattle.std.proofs.lemmas.Bool.{cases_eq}
use Rattle.page_redo.proofs.VictimLaws.{no_younger_through, oldest_is}
use Rattle.page_redo.specs.Victim.{IsNoYounger}
use Rattle.page_store.specs.StoreState.{store_pages}
use Rattle.page_cache.specs.CacheState.{cached_lsn, flushed_lsn, is_dirty}
use Rattle.page_cache.specs.Dirty.{dirty_count, place_of}
use Rattle.page_cache.proofs.DirtyLaws.{listed_length, listed_page}
use Rattle.page_cache.proofs.cache.PageCache.oldest.Goals as goal

pub loop-p-preserved : goal.loop-p-preserved
loop-p-preserved c =
    let cache = c.args.self.now in
    let lsns : ℕ → ℕ = cached_lsn cache in
    let listed = c.as_slice-listed.result.now in
    let i = c.loop-p.p-index in
    let now = c.older-oldest.result in
    let older = c.older-oldest.ensures in
    let there : i < dirty_count cache.dirty = omega (arith, c.loop-p-test.true, listed_length cache.dirty listed c.as_slice-listed.ensures) in
    let page = listed_page cache.dirty listed i c.as_slice-listed.ensures there in
    record {
      within = ⊎_elim
          (λ (e : now ≡ c.loop-p.oldest). omega (arith, e, c.loop-p.invariant.within))
          (λ (e : now ≡ slice_index listed i). omega (arith, e, page, cache.dirty.below i there, cache.places))
          older.one;
      dirty = ⊎_elim
          (λ (e : now ≡ c.loop-p.oldest). ap (is_dirty cache) e ∙ c.loop-p.invariant.dirty)
          (λ (e : now ≡ slice_index listed i). ap (is_dirty cache) (e ∙ page) ∙ cache.listed.passes i there)
          older.one;
      least = λ j lt. elim (cases_eq j i) [
        | inl last ↦ subst (λ (k : ℕ). IsNoYounger lsns now (slice_index listed k)) (sym last) older.before_second
        | inr apart ↦ no_younger_through lsns now c.loop-p.oldest (slice_index listed j) older.before_first (c.loop-p.invariant.least j (omega (arith, lt, apart)))
      ];
    }

pub returns : goal.returns
returns c =
    let cache = c.args.self.now in
    let lsns : ℕ → ℕ = cached_lsn cache in
    let listed = c.as_slice-listed.result.now in
    sym (oldest_is (store_pages cache.store) lsns (flushed_lsn cache) c.loop-p.oldest (record {
      within = c.loop-p.invariant.within;
      dirty = c.loop-p.invariant.dirty;
      least = λ q lt dirty.
          let found = cache.listed.found q (omega (arith, lt, cache.places)) dirty in
          let place = place_of cache.dirty q in
          let seen : place < c.loop-p.p-index = omega (arith, found.0, c.loop-p-test.false, listed_length cache.dirty listed c.as_slice-listed.ensures) in
          let page = listed_page cache.dirty listed place c.as_slice-listed.ensures found.0 ∙ found.1 in
          subst (λ (k : ℕ). IsNoYounger lsns c.loop-p.oldest k) page (c.loop-p.invariant.least place seen);
    }))
