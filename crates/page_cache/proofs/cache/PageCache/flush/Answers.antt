use Rattle.std.proofs.Common.{◌≡◌, ℕ, ◌+◌, ◌*◌, ◌<◌, OnOk, ap, sym, ◌∙◌, subst, arith}
use Rattle.std.specs.Prelude.{not}
use Rattle.disk_model.proofs.MomentLaws.{weaker}
use Rattle.gate_slot.specs.Passing.{Passes}
use Rattle.page_store.specs.Frame.{spare}
use Rattle.page_store.specs.Page.{store_calls}
use Rattle.page_store.proofs.GateLaws.{calls_by_gates}
use Rattle.page_redo.specs.Origin.{records_below}
use Rattle.page_redo.specs.Pages.{pages_in, lsn_of}
use Rattle.page_redo.specs.Victim.{differs}
use Rattle.image_plan.specs.declared.plan.Plan.{Plan}
use Rattle.page_store.specs.StoreState.{store_pages, stored_lsn}
use Rattle.page_cache.proofs.StoreLaws.{stored_ahead, stored_clean, stored_others}
use Rattle.page_redo.specs.Prefix.{EachHoldsPrefix}
use Rattle.page_cache.specs.CacheState.{cache_log}
use Rattle.page_cache.specs.Stored.{stored_pages}
use Rattle.page_cache.proofs.Flushing.{still_legal, then_legal}
use Rattle.page_cache.proofs.cache.PageCache.flush.Goals as goal

pub remove_if-requires-clause-place : goal.remove_if-requires-clause-place
remove_if-requires-clause-place g c =
    let cache = c.args.self.now in
    (cache.listed.found c.args.p (omega (arith, c.requires.page, cache.places)) c.requires.dirty).0

pub invariant_of-self : goal.invariant_of-self
invariant_of-self g c =
    let cache = c.args.self.now in
    let new = c.store-stored.new.self in
    let stored = c.store-stored.ensures in
    let lsns : ℕ → ℕ = lsn_of cache.pages in
    let pages : store_pages new ≡ store_pages cache.store = ap (λ (plan : Plan). 2 * plan.pages) stored.plan in
    let clean = stored_clean c.store-stored.result cache.store new lsns c.args.p c.lsn-lsn.result c.lsn-lsn.ensures stored.lsn stored.err c.requires.dirty in
    record {
      whole = cache.whole ∙ sym pages;
      sized = cache.sized ∙ ap (λ n. 64 * n) (sym pages);
      ahead = λ q lt. stored_ahead c.store-stored.result cache.store new lsns c.args.p c.lsn-lsn.result c.lsn-lsn.ensures stored.lsn stored.err stored.other_pages q (cache.ahead q (omega (arith, lt, pages)));
      places = c.remove_if.ensures.pages ∙ cache.places ∙ sym pages;
      listed = c.remove_if.ensures.removed (differs lsns (stored_lsn cache.store)) (differs lsns (stored_lsn new)) cache.listed c.requires.dirty
          (clean ∙ ap not (sym c.is_ok.ensures.value)) (λ q apart. stored_others cache.store new lsns q (stored.other_pages q apart));
    }

pub returns-clause-legal : goal.returns-clause-legal
returns-clause-legal g c told knows o all same is legal =
    let cache = c.args.self.now in
    let bytes = cache.store.plan.log_bytes in
    let front = records_below o (c.args.forced + 1) all in
    let page : c.args.p < pages_in o.state.pages = subst (λ (n : ℕ). c.args.p < pages_in n) (sym same) c.requires.page in
    subst (λ (n : ℕ). OnOk c.store-stored.result (EachHoldsPrefix o front (stored_pages n bytes (g.D.Disk.bytes c.store-stored.new.disk)))) same
    (then_legal o bytes c.args.forced all cache.pages is c.args.p page c.requires.logged
    c.store-stored.result _ _ _ _ c.lsn-lsn.ensures c.page.ensures (subst (λ (n : ℕ). EachHoldsPrefix o front (stored_pages n bytes (g.D.Disk.bytes c.args.disk.now))) (sym same) legal)
    (c.store-stored.ensures.stored told knows) (c.store-stored.ensures.others told) (c.store-stored.ensures.outside told))

pub returns-clause-legal_moments : goal.returns-clause-legal_moments
returns-clause-legal_moments g c told knows only o all same is legal =
    let cache = c.args.self.now in
    let bytes = cache.store.plan.log_bytes in
    let front = records_below o (c.args.forced + 1) all in
    let page : c.args.p < pages_in o.state.pages = subst (λ (n : ℕ). c.args.p < pages_in n) (sym same) c.requires.page in
    let before = subst (λ (n : ℕ). EachHoldsPrefix o front (stored_pages n bytes (g.D.Disk.bytes c.args.disk.now))) (sym same) legal in
    weaker g.D.Disk.moment g.D.Disk.left_since c.args.disk.now c.store-stored.new.disk _ _ (c.store-stored.ensures.moments told knows only)
    (λ left storing. subst (λ (n : ℕ). EachHoldsPrefix o front (stored_pages n bytes left)) same
    (still_legal o bytes c.args.forced all cache.pages is c.args.p page c.requires.logged _ _ _ left c.lsn-lsn.ensures c.page.ensures before storing))

pub returns-clause-calls : goal.returns-clause-calls
returns-clause-calls g c told knows =
    let cache = c.args.self.now in
    let image = g.D.Disk.bytes c.args.disk.now in
    let frame_is = ap spare (knows.frames c.args.p c.requires.page) in
    subst (λ (n : ℕ). Passes n (g.D.Disk.passed c.args.disk.now) (g.D.Disk.passed c.store-stored.new.disk) c.store-stored.result)
    (ap (λ frame. store_calls (cache_log cache) c.args.p frame image) frame_is ∙ calls_by_gates (cache_log cache) c.args.p image) (c.store-stored.ensures.passes told)
