use Rattle.std.proofs.Common.{◌≡◌, ◌*◌, ◌<◌, ◌∙◌, ℕ, List, length, sym, ap, arith}
use Rattle.std.specs.Prelude.{slice_index}
use Rattle.image_plan.specs.declared.plan.Plan.{Plan}
use Rattle.page_redo.proofs.VictimLaws.{differs_no}
use Rattle.page_redo.specs.Pages.{Pages, lsn_of}
use Rattle.page_redo.specs.Victim.{differs}
use Rattle.page_store.specs.Page.{page_lsn}
use Rattle.page_store.specs.StoreState.{store_pages, stored_lsn}
use Rattle.page_cache.proofs.Opening.{opened}
use Rattle.page_cache.proofs.cache.PageCache.open.Goals as goal

pub invariant_of-result : goal.invariant_of-result
invariant_of-result g c =
    let store = c.in_ok-store.store in
    let pages : store_pages store ≡ 2 * c.args.plan.pages = ap (λ (x : Plan). 2 * x.pages) c.in_ok-store.ensures.plan in
    let lsns = ap (λ (at : Pages). at.lsns) c.of.ensures in
    let same : (p : ℕ) → p < store_pages store → lsn_of c.of.result p ≡ stored_lsn store p =
    λ p lt. ap (λ (l : List ℕ). slice_index l p) lsns ∙ c.in_ok-lsns.ensures.each p (omega (arith, pages, lt)) in
    record {
      whole = ap length lsns ∙ c.in_ok-lsns.ensures.size ∙ sym pages;
      sized = ap (λ (at : Pages). length at.words) c.of.ensures ∙ omega (arith, c.in_ok-store.ensures.size, pages);
      ahead = λ p lt. omega (arith, same p lt);
      places = c.in_ok-dirty.ensures.pages ∙ sym pages;
      listed = c.in_ok-dirty.ensures.empty (differs (lsn_of c.of.result) (stored_lsn store))
          (λ p lt. differs_no (lsn_of c.of.result) (stored_lsn store) p (same p (omega (arith, lt, c.in_ok-dirty.ensures.pages, pages))));
    }

pub returns-clause-stored : goal.returns-clause-stored
returns-clause-stored g c tells =
    let plan = c.in_ok-store.ensures.plan in
    let image = g.D.Disk.bytes c.args.disk.now in
    let found = c.in_ok-store.ensures.table tells in
    c.of.ensures
    ∙ opened c.args.plan.pages c.args.plan.log_bytes image c.in_ok-store.words.items c.in_ok-lsns.lsns.items (c.in_ok-store.ensures.words tells) c.in_ok-lsns.ensures.size
    (λ p lt.
    let within : p < store_pages c.in_ok-store.store = omega (arith, ap (λ (x : Plan). x.pages) plan) in
    c.in_ok-lsns.ensures.each p lt ∙ found.lsns p within ∙ ap (λ (x : Plan). page_lsn x.log_bytes p image) plan)
