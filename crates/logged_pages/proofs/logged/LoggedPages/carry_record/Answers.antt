use Rattle.std.proofs.Common.{rules, ◌≡◌, ℕ, ◌+◌, ◌<◌, ◌≤◌, ◌^◌, [], ◌∷◌, Ok, Err, length, refl, sym, subst, ap, ◌∙◌, arith}
use Rattle.std.specs.Prelude.{Option, Some}
use Rattle.log_machine.specs.Effect.{WritesBelow}
use Rattle.log_records.specs.declared.Record.{Record}
use Rattle.page_cache.proofs.ByPage.{IsPutBefore, below_more, put_all_pages, put_had, put_next, put_none, touched_below}
use Rattle.page_cache.specs.ByPage.{IsNextOf, put_page}
use Rattle.page_cache.specs.CacheState.{cache_pages, cached_lsn}
use Rattle.page_redo.specs.Carry.{Carry, carry, puts_below}
use Rattle.page_redo.specs.Pages.{Pages, touched}
use Rattle.logged_pages.specs.Advancing.{Advances, HoldOnTheWay}
use Rattle.logged_pages.specs.declared.logged.LoggedPages.{LoggedPages}
use Rattle.logged_pages.specs.State.{cache_of, frames_of, has_failed, pages_in_memory}
use Rattle.logged_pages.proofs.AdvanceLaws.{advances_as, advances_at, advances_none}
use Rattle.logged_pages.proofs.PutSteps.{as_many, page_had, page_put, record_cut, record_put}
use Rattle.logged_pages.proofs.logged.LoggedPages.carry_record.Goals as goal
use Rattle.logged_pages.proofs.logged.LoggedPages.carry_record.Goals.{then-lsn+in_ok-carry_page, else-lsn}

-- there is the next page
next_within : (old : LoggedPages) (rec : Record) (from p : ℕ) (next : Option ℕ) → WritesBelow (length (pages_in_memory old).words) rec → IsNextOf (touched rec) from next → next ≡ Some p → p < cache_pages (cache_of old)
next_within old rec from p next inside found is =
    let here = subst (λ (o : Option ℕ). IsNextOf (touched rec) from o) is found in
    touched_below (cache_pages (cache_of old)) (length (pages_in_memory old).words) rec p old.sized inside here.1

pub loop-p-init : goal.loop-p-init
loop-p-init g c =
    let old = c.args.self.now in
    let rec = g.E.Effect.rec c.args.effect.now in
    record {
      put = put_none c.args.lsn rec (pages_in_memory old);
      works = c.requires.works;
      within = omega arith;
      puts = advances_none g.D.Disk old c.args.disk.now (λ k. carry (cache_pages (cache_of old)) (frames_of old) k (puts_below 0 c.args.lsn rec)) (HoldOnTheWay c.args.lsn (pages_in_memory old) (rec ∷ [])) c.requires.works (λ told. g.met.D.Disk.only_now told c.args.disk.now) (λ k at. refl);
    }

pub next_page-requires : goal.next_page-requires
next_page-requires g c =
    let old = c.args.self.now in
    below_more (length (pages_in_memory old).words) (2 ^ 38) (g.E.Effect.rec c.args.effect.now) (omega (arith, old.sized, old.few)) c.requires.inside

pub lsn-requires : goal.lsn-requires
lsn-requires g c =
    omega (arith, as_many c.args.self.now c.loop-p.self (pages_in_memory c.loop-p.self) c.loop-p.invariant.puts.put, next_within c.args.self.now (g.E.Effect.rec c.args.effect.now) c.loop-p.from c.in-Some.p c.next_page.result c.requires.inside c.next_page.ensures c.in-Some.is)

pub carry_page-requires-clause-page : goal.carry_page-requires-clause-page
carry_page-requires-clause-page g c =
    omega (arith, as_many c.args.self.now c.loop-p.self (pages_in_memory c.loop-p.self) c.loop-p.invariant.puts.put, next_within c.args.self.now (g.E.Effect.rec c.args.effect.now) c.loop-p.from c.in-Some.p c.next_page.result c.requires.inside c.next_page.ensures c.in-Some.is)

pub overflow_add-from : goal.overflow_add-from
overflow_add-from g c =
    omega (arith, c.args.self.now.few, next_within c.args.self.now (g.E.Effect.rec c.args.effect.now) c.loop-p.from c.in-Some.p c.next_page.result c.requires.inside c.next_page.ensures c.in-Some.is)

pub returns-in_err-carry_page : goal.returns-in_err-carry_page
returns-in_err-carry_page g c =
    let old = c.args.self.now in
    let rec = g.E.Effect.rec c.args.effect.now in
    let l = c.loop-p in
    let p = c.in-Some.p in
    let e = c.in_err-carry_page.field-0.0 in
    let err : c.from_residual.result ≡ Err e = search rules in
    let next = subst (λ (o : Option ℕ). IsNextOf (touched rec) l.from o) c.in-Some.is c.next_page.ensures in
    let within = next_within old rec l.from p c.next_page.result c.requires.inside c.next_page.ensures c.in-Some.is in
    let at = put_page c.args.lsn p (pages_in_memory l.self) rec in
    let put = page_put g.D.Disk old l.self c.args.disk.now l.disk c.args.lsn rec l.from p l.invariant.puts next.0 next.1 (next.2) within l.invariant.put (omega (arith, c.lsn.ensures.value, c.if-lsn.true)) c.carry_page.new.self c.carry_page.new.disk (Err e) at c.in_err-carry_page.ensures.puts in
    record { puts = advances_as g.D.Disk old c.carry_page.new.self c.args.disk.now c.carry_page.new.disk (Err e) c.from_residual.result _ _ _ (sym err) (record_cut g.D.Disk old c.carry_page.new.self c.args.disk.now c.carry_page.new.disk c.args.lsn rec (p + 1) e at (omega (arith, within)) put) }

pub loop-p-preserved : goal.loop-p-preserved
loop-p-preserved g c =
    let d = g.D.Disk in
    let old = c.args.self.now in
    let rec = g.E.Effect.rec c.args.effect.now in
    let at = pages_in_memory old in
    let l = c.loop-p in
    let p = c.in-Some.p in
    let lsn = c.args.lsn in
    let next = subst (λ (o : Option ℕ). IsNextOf (touched rec) l.from o) c.in-Some.is c.next_page.ensures in
    let there = next_within old rec l.from p c.next_page.result c.requires.inside c.next_page.ensures c.in-Some.is in
    let within : p < length at.lsns = omega (arith, old.cache.whole, there) in
    let Put : Pages → Type 0 = IsPutBefore lsn rec at (p + 1) in
    let May = HoldOnTheWay lsn at (rec ∷ []) in
    let go : Carry → Carry = λ k. carry (cache_pages (cache_of old)) (frames_of old) k (puts_below (p + 1) lsn rec) in
    elim c.if-lsn.branch [
      | then-lsn+in_ok-carry_page w ↦
          let lacks : cached_lsn (cache_of l.self) p < lsn = omega (arith, c.lsn.ensures.value, w.if-lsn.true) in
          let one = w.in_ok-carry_page.ensures.puts in
          let new = w.carry_page.new.self in
          let put = put_next lsn rec at l.from p (pages_in_memory l.self) l.invariant.put next within lacks in
          let puts = page_put d old l.self c.args.disk.now l.disk lsn rec l.from p l.invariant.puts next.0 next.1 next.2 there l.invariant.put lacks new w.carry_page.new.disk (Ok tt) (put_page lsn p (pages_in_memory l.self) rec) one in
          let here = subst (λ (ps : Pages). Advances d old new c.args.disk.now w.carry_page.new.disk (Ok tt) ps go May) (sym one.put.pages) puts in
          record {
            put = subst Put (sym (ap pages_in_memory w.self-is ∙ one.put.pages)) put;
            works = ap has_failed w.self-is ∙ one.failed;
            within = omega (arith, there);
            puts = advances_at d old c.args.disk.now new c.if-lsn.self w.carry_page.new.disk c.if-lsn.disk go May (sym w.self-is) (sym w.disk-is) here;
          }
      | else-lsn w ↦
          let has : lsn ≤ cached_lsn (cache_of l.self) p = omega (arith, c.lsn.ensures.value, w.if-lsn.false) in
          let put = put_had lsn rec at l.from p (pages_in_memory l.self) l.invariant.put next within has in
          let puts = page_had d old l.self c.args.disk.now l.disk lsn rec l.from p l.invariant.puts next.0 next.1 next.2 there has in
          record {
            put = subst Put (sym (ap pages_in_memory w.self-is)) put;
            works = ap has_failed w.self-is ∙ l.invariant.works;
            within = omega (arith, there);
            puts = advances_at d old c.args.disk.now l.self c.if-lsn.self l.disk c.if-lsn.disk go May (sym w.self-is) (sym w.disk-is) puts;
          }
    ]

pub loop-p-smaller : goal.loop-p-smaller
loop-p-smaller g c =
    let next = subst (λ (o : Option ℕ). IsNextOf (touched (g.E.Effect.rec c.args.effect.now)) c.loop-p.from o) c.in-Some.is c.next_page.ensures in
    omega (arith, next.0, next_within c.args.self.now (g.E.Effect.rec c.args.effect.now) c.loop-p.from c.in-Some.p c.next_page.result c.requires.inside c.next_page.ensures c.in-Some.is)

pub returns : goal.returns
returns g c =
    let old = c.args.self.now in
    let rec = g.E.Effect.rec c.args.effect.now in
    let l = c.loop-p in
    let none = subst (λ (o : Option ℕ). IsNextOf (touched rec) l.from o) c.in_default.is c.next_page.ensures in
    record {
      puts = record_put g.D.Disk old l.self c.args.disk.now l.disk c.args.lsn rec l.from l.invariant.puts l.invariant.within none (put_all_pages c.args.lsn rec (pages_in_memory old) l.from (pages_in_memory l.self) l.invariant.put none);
    }
