-- How many pages are dirty when one is stored or written.
use Rattle.std.proofs.Common.{◌≡◌, ◌≢◌, ℕ, ◌+◌, ◌*◌, ◌<◌, ◌≤◌, Bool, true, false, Result, Ok, Err, List, [], ◌∷◌, length, refl, sym, ap, subst, ◌∙◌, inl, inr, arith}
use Rattle.std.specs.Prelude.{OnErr, OnOk, IsTrue, Option, None, Some}
use Rattle.std.proofs.lemmas.Bool.{cases_Bool, cases_lt}
use Rattle.image_plan.specs.declared.plan.Plan.{Plan}
use Rattle.page_cache.specs.CacheState.{cached, cache_frames, cache_pages, cache_store, cached_lsn, flushed_lsn, is_dirty}
use Rattle.page_cache.specs.declared.cache.PageCache.{PageCache}
use Rattle.page_redo.proofs.CarryLaws.{victim_same}
use Rattle.page_redo.proofs.VictimLaws.{differs_no, differs_same, differs_yes, dirty_less, dirty_more, dirty_same, oldest_gives, victim_dirty, victim_due, victim_few, IsOldest}
use Rattle.page_redo.specs.Carry.{Carry}
use Rattle.page_redo.specs.Pages.{Pages, lsn_of}
use Rattle.page_redo.specs.Victim.{differs, dirty_pages, oldest, victim}
use Rattle.page_store.specs.StoreState.{store_pages, store_plan, stored_entry, stored_lsn}
use Rattle.page_store.specs.declared.store.PageStore.{PageStore}
use Rattle.page_store.specs.declared.frame.Stored.{Stored}
use Rattle.logged_pages.specs.Advancing.{IsAt}
use Rattle.logged_pages.specs.declared.logged.LoggedPages.{LoggedPages}
use Rattle.logged_pages.specs.State.{cache_of, frames_of}

-- how many pages of a cache are dirty
abbrev pub dirty_count : PageCache → ℕ
dirty_count cache = length (dirty_pages (cache_pages cache) (cached_lsn cache) (flushed_lsn cache))

-- two caches with as many pages
counted_for : (pages more : ℕ) (lsns stored : ℕ → ℕ) → more ≡ pages → length (dirty_pages more lsns stored) ≡ length (dirty_pages pages lsns stored)
counted_for pages more lsns stored same = ap (λ (n : ℕ). length (dirty_pages n lsns stored)) same

-- A page is stored.
module _ (old new : PageCache) (p : ℕ) (within : p < cache_pages old) (pages : cached new ≡ cached old) (plan : store_plan (cache_store new) ≡ store_plan (cache_store old)) (others : (q : ℕ) → q ≢ p → stored_entry (cache_store new) q ≡ stored_entry (cache_store old) q) where
  as_many : cache_pages new ≡ cache_pages old
  as_many = ap (λ (of : Plan). 2 * of.pages) plan

  lsn_is : (q : ℕ) → cached_lsn new q ≡ cached_lsn old q
  lsn_is q = ap (λ (at : Pages). lsn_of at q) pages

  elsewhere : (q : ℕ) → q ≢ p → differs (cached_lsn new) (flushed_lsn new) q ≡ differs (cached_lsn old) (flushed_lsn old) q
  elsewhere q apart = differs_same (cached_lsn old) (flushed_lsn old) (cached_lsn new) (flushed_lsn new) q (lsn_is q) (ap (λ (s : Stored). s.lsn) (others q apart))

  -- so one less is dirty
  pub stored_count : is_dirty old p ≡ true → flushed_lsn new p ≡ cached_lsn old p → dirty_count old ≡ dirty_count new + 1
  stored_count dirty clean =
      dirty_less (cache_pages old) (cached_lsn old) (flushed_lsn old) (cached_lsn new) (flushed_lsn new) p within elsewhere dirty (differs_no (cached_lsn new) (flushed_lsn new) p (lsn_is p ∙ sym clean))
      ∙ ap (λ (n : ℕ). n + 1) (sym (counted_for (cache_pages old) (cache_pages new) (cached_lsn new) (flushed_lsn new) as_many))

  -- or as many as before, where it was not
  pub failed_count : stored_entry (cache_store new) p ≡ stored_entry (cache_store old) p → dirty_count new ≡ dirty_count old
  failed_count same =
      counted_for (cache_pages old) (cache_pages new) (cached_lsn new) (flushed_lsn new) as_many
      ∙ ap length (dirty_same (cache_pages old) (cached_lsn old) (flushed_lsn old) (cached_lsn new) (flushed_lsn new) p within elsewhere
      (differs_same (cached_lsn old) (flushed_lsn old) (cached_lsn new) (flushed_lsn new) p (lsn_is p) (ap (λ (s : Stored). s.lsn) same)))

  -- no more pages are dirty than may be
  pub stored_bounded : {A E : Type 0} (r : Result A E) → is_dirty old p ≡ true → cache_frames new ≡ cache_frames old → OnOk r (flushed_lsn new p ≡ cached_lsn old p) → OnErr r ((q : ℕ) → stored_entry (cache_store new) q ≡ stored_entry (cache_store old) q)
      → dirty_count old ≤ cache_frames old → dirty_count new ≤ cache_frames new
  stored_bounded (Ok x) dirty frames clean none bounded = omega (arith, stored_count dirty clean, frames, bounded)
  stored_bounded (Err e) dirty frames clean none bounded = omega (arith, failed_count (none p), frames, bounded)

  -- and one more may be
  pub stored_way : (q : ℕ) → is_dirty old p ≡ true → cache_frames new ≡ cache_frames old → flushed_lsn new p ≡ cached_lsn old p → dirty_count old ≤ cache_frames old → victim (cache_pages new) (cache_frames new) (cached_lsn new) (flushed_lsn new) q ≡ None
  stored_way q dirty frames clean bounded = victim_few (cache_pages new) (cached_lsn new) (flushed_lsn new) (cache_frames new) q (omega (arith, stored_count dirty clean, frames, bounded))

-- a victim is dirty
pub victim_is : (cache : PageCache) (p v : ℕ) → victim (cache_pages cache) (cache_frames cache) (cached_lsn cache) (flushed_lsn cache) p ≡ Some v → IsOldest (cache_pages cache) (cached_lsn cache) (flushed_lsn cache) v
victim_is cache p v is =
    let pages = cache_pages cache in
    let frames = cache_frames cache in
    let lsns = cached_lsn cache in
    let stored = flushed_lsn cache in
    elim (cases_Bool (differs lsns stored p)) [
      | inl dirty ↦ absurd (cc (is, victim_dirty pages lsns stored frames p dirty))
      | inr clean ↦ elim (cases_lt (length (dirty_pages pages lsns stored)) frames) [
        | inl few ↦ absurd (cc (is, victim_few pages lsns stored frames p few))
        | inr full ↦ oldest_gives pages lsns stored v (sym (victim_due pages lsns stored frames p clean full) ∙ is)
      ]
    ]

-- a carry has the victim of the pages
pub victim_at : (of : LoggedPages) (k : Carry) (p : ℕ) → p < cache_pages (cache_of of) → IsAt k of → victim (cache_pages (cache_of of)) (frames_of of) k.lsns k.stored p ≡ victim (cache_pages (cache_of of)) (frames_of of) (cached_lsn (cache_of of)) (flushed_lsn (cache_of of)) p
victim_at of k p within at = victim_same (cache_pages (cache_of of)) (frames_of of) k.lsns k.stored (cached_lsn (cache_of of)) (flushed_lsn (cache_of of)) at.lsns at.stored p within

no_oldest : (lsns : ℕ → ℕ) (ps : List ℕ) → oldest lsns ps ≡ None → length ps ≡ 0
no_oldest lsns [] none = refl
no_oldest lsns (p ∷ ps) none = absurd (cc none)

-- where no page has to be stored before page p, it is dirty or one more may be
room_for : (pages frames : ℕ) (lsns stored : ℕ → ℕ) (p : ℕ) → 0 < frames → victim pages frames lsns stored p ≡ None → differs lsns stored p ≡ false → length (dirty_pages pages lsns stored) < frames
room_for pages frames lsns stored p some none clean = elim (cases_lt (length (dirty_pages pages lsns stored)) frames) [
  | inl few ↦ few
  | inr full ↦ absurd (omega (arith, no_oldest lsns (dirty_pages pages lsns stored) (sym (victim_due pages lsns stored frames p clean full) ∙ none), full, some))
]

-- A page is written.
module _ (old new : PageCache) (p : ℕ) (within : p < cache_pages old) (store : cache_store new ≡ cache_store old) (others : (q : ℕ) → q ≢ p → cached_lsn new q ≡ cached_lsn old q) (ahead : flushed_lsn old p < cached_lsn new p) where
  same_store : (q : ℕ) → flushed_lsn new q ≡ flushed_lsn old q
  same_store q = ap (λ (s : PageStore). stored_lsn s q) store

  pages_there : cache_pages new ≡ cache_pages old
  pages_there = ap store_pages store

  unwritten : (q : ℕ) → q ≢ p → differs (cached_lsn new) (flushed_lsn new) q ≡ differs (cached_lsn old) (flushed_lsn old) q
  unwritten q apart = differs_same (cached_lsn old) (flushed_lsn old) (cached_lsn new) (flushed_lsn new) q (others q apart) (same_store q)

  dirty_now : differs (cached_lsn new) (flushed_lsn new) p ≡ true
  dirty_now = differs_yes (cached_lsn new) (flushed_lsn new) p (λ same. absurd (omega (arith, same, same_store p, ahead)))

  -- no more pages are dirty than may be
  pub written_bounded : cache_frames new ≡ cache_frames old → 0 < cache_frames old → victim (cache_pages old) (cache_frames old) (cached_lsn old) (flushed_lsn old) p ≡ None → dirty_count old ≤ cache_frames old → dirty_count new ≤ cache_frames new
  written_bounded frames some none bounded =
      let count = counted_for (cache_pages old) (cache_pages new) (cached_lsn new) (flushed_lsn new) pages_there in
      elim (cases_Bool (differs (cached_lsn old) (flushed_lsn old) p)) [
        | inl dirty ↦
            let same = ap length (dirty_same (cache_pages old) (cached_lsn old) (flushed_lsn old) (cached_lsn new) (flushed_lsn new) p within unwritten (dirty_now ∙ sym dirty)) in
            omega (arith, count, same, frames, bounded)
        | inr clean ↦
            let more = dirty_more (cache_pages old) (cached_lsn old) (flushed_lsn old) (cached_lsn new) (flushed_lsn new) p within unwritten clean dirty_now in
            let room = room_for (cache_pages old) (cache_frames old) (cached_lsn old) (flushed_lsn old) p some none clean in
            omega (arith, count, more, frames, room)
      ]
