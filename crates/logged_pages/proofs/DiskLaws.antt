-- What a force and the store of a page leave of the log and the pages on a disk.
use Rattle.std.proofs.Common.{◌≡◌, ◌≢◌, ◌⊎◌, ℕ, ◌+◌, ◌-◌, ◌<◌, ◌≤◌, Bool, true, false, List, [], ◌∷◌, ◌++◌, length, take, refl, sym, ap, subst, ◌∙◌, inl, inr, ⊎_elim, arith, lit<}
use Rattle.std.specs.Prelude.{min, nat_lt, if◌then◌else◌}
use Rattle.std.proofs.lemmas.Bool.{cases_eq}
use Rattle.std.proofs.lemmas.List.{append-nil, take_at}
use Rattle.std.proofs.lemmas.List.Concat.{flat_map-append}
use Rattle.disk_model.specs.Disk.{part, SameOutside}
use Rattle.gate_slot.proofs.ImageLaws.{same_part}
use Rattle.gated_log.specs.Log.{records_of, with_batch, HoldsBatches}
use Rattle.gated_log.specs.LogState.{log_forced, log_place, log_room, Keeps}
use Rattle.image_plan.specs.declared.plan.Plan.{Plan}
use Rattle.image_plan.specs.Plan.{frame_offset, log_offset}
use Rattle.page_redo.specs.Origin.{Origin, records_below}
use Rattle.log_records.specs.declared.Record.{Record}
use Rattle.page_cache.proofs.Flushing.{still_legal}
use Rattle.page_cache.proofs.ImageLaws.{stored_behind_log}
use Rattle.page_cache.specs.CacheState.{cache_log, cache_pages, cache_size, cached_lsn, cached_page}
use Rattle.page_cache.specs.declared.cache.PageCache.{PageCache}
use Rattle.page_cache.specs.Stored.{stored_pages}
use Rattle.page_redo.proofs.PrefixLaws.{EachHoldsPrefix-append}
use Rattle.page_redo.specs.Pages.{Pages, pages_in}
use Rattle.page_redo.specs.Prefix.{EachHoldsPrefix}
use Rattle.page_store.proofs.GateLaws.{gates_behind_log}
use Rattle.page_store.proofs.PageLaws.{pages_behind_log}
use Rattle.page_store.proofs.StoreLaws.{knows_behind_log}
use Rattle.page_store.specs.Gates.{open_gates}
use Rattle.page_store.specs.Page.{page_lsn, HasPage, IsStoring, SameButPage, SamePage}
use Rattle.page_store.specs.StoreState.{store_plan, Knows}
use Rattle.logged_pages.specs.declared.logged.LoggedPages.{LoggedPages}
use Rattle.logged_pages.specs.OnDisk.{batches_if, store_calls, HasStored, IsLeft, IsOnDisk, SameBeside, Stands}
use Rattle.logged_pages.specs.State.{cache_of, log_of, store_of, IsBehind}

-- Batches.

-- a batch more has the pending records
pub records_of-with_batch : (batches : List (List Record)) (pending : List Record) → records_of (with_batch batches pending) ≡ records_of batches ++ pending
records_of-with_batch batches [] = sym (append-nil (records_of batches))
records_of-with_batch batches (r ∷ rs) = flat_map-append (λ (records : List Record). records) batches ((r ∷ rs) ∷ []) ∙ ap (λ (l : List Record). records_of batches ++ l) (append-nil (r ∷ rs))

-- what is behind all records still is when they are forced
pub behind_forced : (o : Origin) (batches : List (List Record)) (pending : List Record) (old new : LoggedPages) → IsBehind o batches pending old → Keeps (log_of new) (with_batch batches pending) [] → cache_of new ≡ cache_of old
    → IsBehind o (with_batch batches pending) [] new
behind_forced o batches pending old new is keeps cache =
    let all : records_of batches ++ pending ≡ records_of (with_batch batches pending) ++ [] = sym (append-nil (records_of (with_batch batches pending)) ∙ records_of-with_batch batches pending) in
    record {
      first = is.first;
      log = keeps;
      prefixes = subst (λ (at : Pages). EachHoldsPrefix o (records_of (with_batch batches pending) ++ []) at) (sym (ap (λ c. c.pages) cache)) (subst (λ (rs : List Record). EachHoldsPrefix o rs (cache_of old).pages) all is.prefixes);
    }

-- Images.

-- a larger part
pub outside_within : (from end low high : ℕ) (old new : List ℕ) → low ≤ from → end ≤ high → SameOutside from end old new → SameOutside low high old new
outside_within from end low high old new begins ends same = record {
  size = same.size;
  before = λ i less. same.before i (omega (arith, less, begins));
  behind = λ i more. same.behind i (omega (arith, more, ends));
}

-- one change after another
pub outside_then : (from end : ℕ) (old mid new : List ℕ) → SameOutside from end old mid → SameOutside from end mid new → SameOutside from end old new
outside_then from end old mid new first second = record {
  size = second.size ∙ first.size;
  before = λ i less. second.before i less ∙ first.before i less;
  behind = λ i more. second.behind i more ∙ first.behind i more;
}

-- A write into the log.
module _ (of : LoggedPages) (old image : List ℕ) (outside : SameOutside (log_place (log_of of)) (log_place (log_of of) + log_room (log_of of)) old image) where
  in_log : SameOutside log_offset (log_offset + cache_log (cache_of of)) old image
  in_log =
      let P : ℕ → ℕ → Type 0 = λ n m. SameOutside n (n + m) old image in
      subst (P log_offset) of.behind (let Q : ℕ → Type 0 = λ n. P n (log_room (log_of of)) in subst Q of.place outside)

  pub log_beside : SameBeside of old image
  log_beside = outside_within log_offset (log_offset + cache_log (cache_of of)) log_offset (cache_size (cache_of of)) old image (omega arith) (omega arith) in_log

  pub knows_still : Knows (store_of of) old → Knows (store_of of) image
  knows_still knows = knows_behind_log (store_of of) old image knows in_log

  -- leaves the stored pages as they were
  pub stands_with : (o : Origin) (batches others : List (List Record)) → Stands o batches of old → ((at : Pages) → EachHoldsPrefix o (records_of batches) at → EachHoldsPrefix o (records_of others) at)
      → HoldsBatches (part image (log_place (log_of of)) (log_room (log_of of))) others → Stands o others of image
  stands_with o batches others is more held =
      let plan = store_plan (store_of of) in
      let same = stored_behind_log plan.pages plan.log_bytes old image in_log in
      record { log = held; pages = subst (λ (at : Pages). EachHoldsPrefix o (records_of others) at) (sym same) (more (stored_pages plan.pages plan.log_bytes old) is.pages) }

  -- with these batches, or with one more
  pub stands_more : (o : Origin) (batches : List (List Record)) (pending : List Record) → Stands o batches of old → HoldsBatches (part image (log_place (log_of of)) (log_room (log_of of))) (with_batch batches pending)
      → Stands o (with_batch batches pending) of image
  stands_more o batches pending is held =
      stands_with o batches (with_batch batches pending) is
      (λ at each. subst (λ (rs : List Record). EachHoldsPrefix o rs at) (sym (records_of-with_batch batches pending)) (EachHoldsPrefix-append o (records_of batches) pending at each)) held

  pub left_by_force : (o : Origin) (batches : List (List Record)) (pending : List Record) → Stands o batches of old
      → HoldsBatches (part image (log_place (log_of of)) (log_room (log_of of))) batches ⊎ HoldsBatches (part image (log_place (log_of of)) (log_room (log_of of))) (with_batch batches pending) → IsLeft o batches pending of old image
  left_by_force o batches pending is held = record {
    stands = ⊎_elim (λ these. inl (stands_with o batches batches is (λ at each. each) these)) (λ more. inr (stands_more o batches pending is more)) held;
    later = λ p lt. let same = (pages_behind_log (cache_log (cache_of of)) old image in_log p).lsn_is in omega (arith, same);
    outside = log_beside;
  }

-- what stands on a disk does so where the log and the pages lie as they did
pub stands_still : (o : Origin) (batches : List (List Record)) (old new : LoggedPages) (image : List ℕ) → log_place (log_of new) ≡ log_place (log_of old) → log_room (log_of new) ≡ log_room (log_of old)
    → store_plan (store_of new) ≡ store_plan (store_of old) → Stands o batches old image → Stands o batches new image
stands_still o batches old new image place room plan is = record {
  log =
      let P : ℕ → ℕ → Type 0 = λ n m. HoldsBatches (part image n m) batches in
      subst (P (log_place (log_of new))) (sym room) (let Q : ℕ → Type 0 = λ n. P n (log_room (log_of old)) in subst Q (sym place) is.log);
  pages = subst (λ (of : Plan). EachHoldsPrefix o (records_of batches) (stored_pages of.pages of.log_bytes image)) (sym plan) is.pages;
}

-- no call was made
pub left_alone : (of : LoggedPages) (old image : List ℕ) (o : Origin) (batches : List (List Record)) (pending : List Record) → Stands o batches of old → image ≡ old → IsLeft o batches pending of old image
left_alone of old image o batches pending is same =
    subst (λ (l : List ℕ). IsLeft o batches pending of old l) (sym same) (record { stands = inl is; later = λ p lt. omega arith; outside = record { size = refl; before = λ i low. refl; behind = λ i high. refl } })

-- A page is stored.
module _ (of : LoggedPages) (p : ℕ) (within : p < cache_pages (cache_of of)) (mid image : List ℕ) (but : SameButPage (cache_log (cache_of of)) p mid image) where
  abbrev bytes : ℕ
  bytes = cache_log (cache_of of)

  -- the log stays as it was
  log_part : part image (log_place (log_of of)) (log_room (log_of of)) ≡ part mid (log_place (log_of of)) (log_room (log_of of))
  log_part =
      let place = of.place in
      let behind = of.behind in
      same_part (log_place (log_of of)) (log_room (log_of of)) mid image but.size (λ i low high. but.before i (omega (arith, place, behind, high)))

  pub page_beside : SameBeside of mid image
  page_beside = outside_within (frame_offset bytes p 0) (frame_offset bytes (p + 1) 0) log_offset (cache_size (cache_of of)) mid image (omega arith) (omega (arith, within)) but

  module _ (o : Origin) (batches : List (List Record)) (pending : List Record) (is : IsBehind o batches pending of) (disk : IsOnDisk o batches of mid) (reached : cached_lsn (cache_of of) p ≤ log_forced (log_of of))
      (storing : IsStoring bytes p (cached_lsn (cache_of of) p) (cached_page (cache_of of) p) mid image) where
    abbrev all : List Record
    all = records_of batches ++ pending

    abbrev forced : ℕ
    forced = log_forced (log_of of)

    origin_pages : o.state.pages ≡ (store_plan (store_of of)).pages
    origin_pages = let whole = (cache_of of).whole in let size = is.prefixes.lsns_size in omega (arith, whole, size)

    -- the records that are on the disk
    front : records_below o (forced + 1) all ≡ records_of batches
    front =
        let n : forced + 1 - o.lsn ≡ length (records_of batches) = omega (arith, is.log.forced, is.first) in
        ap (λ (k : ℕ). take k all) n ∙ take_at (records_of batches) pending (length (records_of batches)) refl

    -- the page is not ahead of the batches
    pub page_stands : Stands o batches of image
    page_stands =
        let at = (cache_of of).pages in
        let lt : p < pages_in o.state.pages = omega (arith, within, origin_pages) in
        let P : List Record → ℕ → List ℕ → Type 0 = λ rs pages l. EachHoldsPrefix o rs (stored_pages pages bytes l) in
        let before : P (records_below o (forced + 1) all) o.state.pages mid =
        subst (λ (n : ℕ). P (records_below o (forced + 1) all) n mid) (sym origin_pages) (subst (λ (rs : List Record). P rs (store_plan (store_of of)).pages mid) (sym front) disk.stands.pages) in
        let here = still_legal o bytes forced all at is.prefixes p lt reached (cached_lsn (cache_of of) p) (cached_page (cache_of of) p) mid image refl refl before storing in
        record {
          log = subst (λ (l : List ℕ). HoldsBatches l batches) (sym log_part) disk.stands.log;
          pages = subst (λ (n : ℕ). P (records_of batches) n image) origin_pages (subst (λ (rs : List Record). P rs o.state.pages image) front here);
        }

    -- no page is older than it was
    pub page_later : (q : ℕ) → q < cache_pages (cache_of of) → page_lsn bytes q mid ≤ page_lsn bytes q image
    page_later q lt = elim (cases_eq q p) [
      | inl here ↦ subst (λ (k : ℕ). page_lsn bytes k mid ≤ page_lsn bytes k image) (sym here) (⊎_elim
          (λ same. let is_same = same.lsn_is in omega (arith, is_same))
          (λ has. let is_new = has.lsn_is in let known = disk.frames.lsns p within in let ahead = (cache_of of).ahead p within in omega (arith, is_new, known, ahead))
          storing.page)
      | inr apart ↦ let same = (storing.others q apart).lsn_is in omega (arith, same)
    ]

-- the batches after a force, if there was one
pub one_of : (ahead : Bool) (o : Origin) (batches : List (List Record)) (pending : List Record) (of : LoggedPages) (image : List ℕ) → Stands o (batches_if ahead batches pending) of image
    → Stands o batches of image ⊎ Stands o (with_batch batches pending) of image
one_of true o batches pending of image is = inr is
one_of false o batches pending of image is = inl is

-- A page of a cache was stored in an image.
pub record IsFlushed (cache : PageCache) (p : ℕ) (mid image : List ℕ) : Type 0 where
  pub page : HasPage (cache_log cache) p (cached_lsn cache p) (cached_page cache p) image
  pub others : (q : ℕ) → q ≢ p → SamePage (cache_log cache) q mid image
  pub outside : SameButPage (cache_log cache) p mid image
  pub gates : open_gates (cache_log cache) image p ≡ min 2 (open_gates (cache_log cache) mid p + 1)
  pub other_gates : (q : ℕ) → q ≢ p → open_gates (cache_log cache) image q ≡ open_gates (cache_log cache) mid q

-- so it was, after a write into the log
pub stored_by : (of : LoggedPages) (p : ℕ) (old mid image : List ℕ) → p < cache_pages (cache_of of) → SameOutside (log_place (log_of of)) (log_place (log_of of) + log_room (log_of of)) old mid → IsFlushed (cache_of of) p mid image
    → HasStored of p old image
stored_by of p old mid image within outside flushed =
    let log = cache_log (cache_of of) in
    let written = in_log of old mid outside in
    record {
      page = flushed.page;
      others = λ q apart.
          let first = pages_behind_log log old mid written q in
          let second = flushed.others q apart in
          record { lsn_is = second.lsn_is ∙ first.lsn_is; words_are = second.words_are ∙ first.words_are };
      gates = flushed.gates ∙ ap (λ (n : ℕ). min 2 (n + 1)) (gates_behind_log log old mid written p);
      other_gates = λ q apart. flushed.other_gates q apart ∙ gates_behind_log log old mid written q;
      outside = outside_then log_offset (cache_size (cache_of of)) old mid image (log_beside of old mid outside) (page_beside of p within mid image flushed.outside);
    }

-- the calls of a store are those by the gates before the write into the log
pub gates_by : (of : LoggedPages) (p : ℕ) (old mid : List ℕ) → SameOutside (log_place (log_of of)) (log_place (log_of of) + log_room (log_of of)) old mid
    → (if nat_lt (open_gates (cache_log (cache_of of)) mid p) 2 then 4 else 6) ≡ store_calls of p old
gates_by of p old mid outside = ap (λ (n : ℕ). if nat_lt n 2 then 4 else 6) (gates_behind_log (cache_log (cache_of of)) old mid (in_log of old mid outside) p)

-- a store makes calls
pub some_store : (of : LoggedPages) (p : ℕ) (old : List ℕ) → 0 < store_calls of p old
some_store of p old = by_test (nat_lt (open_gates (cache_log (cache_of of)) old p) 2)
  where
    by_test : (b : Bool) → 0 < (if b then 4 else 6)
    by_test true = lit< tt
    by_test false = lit< tt

-- What a crash leaves while a page is stored after a force, or after none.
module _ (old of : LoggedPages) (p : ℕ) (before mid image : List ℕ) (ahead : Bool) (o : Origin) (batches : List (List Record)) (pending rest : List Record) where
  pub left_by_store : log_place (log_of old) ≡ log_place (log_of of) → log_room (log_of old) ≡ log_room (log_of of) → cache_of of ≡ cache_of old → p < cache_pages (cache_of of)
      → SameOutside (log_place (log_of old)) (log_place (log_of old) + log_room (log_of old)) before mid → IsBehind o (batches_if ahead batches pending) rest of → IsOnDisk o (batches_if ahead batches pending) of mid
      → cached_lsn (cache_of of) p ≤ log_forced (log_of of) → IsStoring (cache_log (cache_of of)) p (cached_lsn (cache_of of) p) (cached_page (cache_of of) p) mid image → IsLeft o batches pending old before image
  left_by_store place room cache within outside is disk reached storing =
      let bs = batches_if ahead batches pending in
      let stands = page_stands of p within mid image storing.outside o bs rest is disk reached storing in
      let later = page_later of p within mid image storing.outside o bs rest is disk reached storing in
      let Later : PageCache → Type 0 = λ c. (q : ℕ) → q < cache_pages c → page_lsn (cache_log c) q mid ≤ page_lsn (cache_log c) q image in
      let Beside : PageCache → Type 0 = λ c. SameOutside log_offset (cache_size c) mid image in
      let later_old = subst Later cache later in
      let beside_old = subst Beside cache (page_beside of p within mid image storing.outside) in
      let written = in_log old before mid outside in
      record {
        stands = one_of ahead o batches pending old image (stands_still o bs of old image place room (ap (λ (c : PageCache). c.store.plan) (sym cache)) stands);
        later = λ q lt. let same = (pages_behind_log (cache_log (cache_of old)) before mid written q).lsn_is in let more = later_old q lt in omega (arith, same, more);
        outside = outside_then log_offset (cache_size (cache_of old)) before mid image (log_beside old before mid outside) beside_old;
      }
