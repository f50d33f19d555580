use Rattle.std.proofs.Common.{◌≡◌, ℕ, ◌+◌, ◌<◌, ◌^◌, length, refl, sym, subst, ap, ◌∙◌, arith}
use Rattle.std.specs.Prelude.{Option, Some}
use Rattle.log_machine.specs.Effect.{WritesBelow}
use Rattle.log_records.specs.declared.Record.{Record}
use Rattle.page_redo.specs.Pages.{Pages, touched}
use Rattle.page_store.specs.StoreState.{store_pages}
use Rattle.page_cache.specs.ByPage.{IsNextOf}
use Rattle.page_cache.specs.CacheState.{cache_frames, cache_pages, cache_store, cached}
use Rattle.page_cache.specs.declared.cache.PageCache.{PageCache}
use Rattle.page_cache.proofs.ByPage.{IsPutBefore, below_more, put_all_pages, put_had, put_next, put_none, touched_below}
use Rattle.page_cache.proofs.cache.PageCache.redo.Goals as goal
use Rattle.page_cache.proofs.cache.PageCache.redo.Goals.{then-lsn, else-lsn}

-- there is the next page
next_within : (old : PageCache) (rec : Record) (from p : ℕ) (next : Option ℕ) → WritesBelow (length (cached old).words) rec → IsNextOf (touched rec) from next → next ≡ Some p → p < cache_pages old
next_within old rec from p next inside found is =
    let here = subst (λ (o : Option ℕ). IsNextOf (touched rec) from o) is found in
    touched_below (cache_pages old) (length (cached old).words) rec p old.sized inside here.1

pub loop-p-init : goal.loop-p-init
loop-p-init c = record { put = put_none c.args.lsn c.args.rec.now (cached c.args.self.now); store = refl; frames = refl }

pub next_page-requires : goal.next_page-requires
next_page-requires c =
    let old = c.args.self.now in
    below_more (length (cached old).words) (2 ^ 38) c.args.rec.now (omega (arith, old.sized, old.store.few)) c.requires

pub lsn-requires : goal.lsn-requires
lsn-requires c =
    omega (arith, c.loop-p.self.whole, ap store_pages c.loop-p.invariant.store, next_within c.args.self.now c.args.rec.now c.loop-p.from c.in-Some.p c.next_page.result c.requires c.next_page.ensures c.in-Some.is)

pub put-requires-clause-page : goal.put-requires-clause-page
put-requires-clause-page c =
    omega (arith, ap store_pages c.loop-p.invariant.store, next_within c.args.self.now c.args.rec.now c.loop-p.from c.in-Some.p c.next_page.result c.requires c.next_page.ensures c.in-Some.is)

pub overflow_add-from : goal.overflow_add-from
overflow_add-from c =
    omega (arith, c.args.self.now.store.few, next_within c.args.self.now c.args.rec.now c.loop-p.from c.in-Some.p c.next_page.result c.requires c.next_page.ensures c.in-Some.is)

pub loop-p-preserved : goal.loop-p-preserved
loop-p-preserved c =
    let old = c.args.self.now in
    let rec = c.args.rec.now in
    let at = cached old in
    let l = c.loop-p in
    let next = subst (λ (o : Option ℕ). IsNextOf (touched rec) l.from o) c.in-Some.is c.next_page.ensures in
    let within : c.in-Some.p < length at.lsns = omega (arith, old.whole, next_within old rec l.from c.in-Some.p c.next_page.result c.requires c.next_page.ensures c.in-Some.is) in
    let Put : Pages → Type 0 = IsPutBefore c.args.lsn rec at (c.in-Some.p + 1) in
    elim c.if-lsn.branch [
      | then-lsn w ↦
          let put = put_next c.args.lsn rec at l.from c.in-Some.p (cached l.self) l.invariant.put next within (omega (arith, c.lsn.ensures, w.if-lsn.true)) in
          record {
            put = subst Put (sym (ap cached w.self-is ∙ w.put.ensures.put)) put;
            store = ap cache_store w.self-is ∙ w.put.ensures.store ∙ l.invariant.store;
            frames = ap cache_frames w.self-is ∙ w.put.ensures.frames ∙ l.invariant.frames;
          }
      | else-lsn w ↦
          let put = put_had c.args.lsn rec at l.from c.in-Some.p (cached l.self) l.invariant.put next within (omega (arith, c.lsn.ensures, w.if-lsn.false)) in
          record {
            put = subst Put (sym (ap cached w.self-is)) put;
            store = ap cache_store w.self-is ∙ l.invariant.store;
            frames = ap cache_frames w.self-is ∙ l.invariant.frames;
          }
    ]

pub loop-p-smaller : goal.loop-p-smaller
loop-p-smaller c =
    let next = subst (λ (o : Option ℕ). IsNextOf (touched c.args.rec.now) c.loop-p.from o) c.in-Some.is c.next_page.ensures in
    omega (arith, next.0, next_within c.args.self.now c.args.rec.now c.loop-p.from c.in-Some.p c.next_page.result c.requires c.next_page.ensures c.in-Some.is)

pub returns-clause-redone : goal.returns-clause-redone
returns-clause-redone c =
    let rec = c.args.rec.now in
    let l = c.loop-p in
    let none = subst (λ (o : Option ℕ). IsNextOf (touched rec) l.from o) c.in_default.is c.next_page.ensures in
    put_all_pages c.args.lsn rec (cached c.args.self.now) l.from (cached l.self) l.invariant.put none
