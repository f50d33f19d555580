use Rattle.std.proofs.Common.{◌≡◌, ◌+◌, ◌<◌, ◌≤◌, ◌++◌, ℕ, Bool, true, List, refl, sym, ap, subst, ◌∙◌, inr, ⊎_elim, arith}
use Rattle.std.specs.Prelude.{nat_lt, if◌then◌else◌}
use Rattle.disk_model.proofs.MomentLaws.{joined, weaker}
use Rattle.gate_slot.proofs.PassingLaws.{joined as both_pass}
use Rattle.gate_slot.specs.Passing.{Passes}
use Rattle.gated_log.specs.LogState.{is_waiting, log_forced}
use Rattle.gated_log.specs.Log.{records_of}
use Rattle.page_cache.specs.CacheState.{cache_log, cache_pages, cached_lsn, cached_page, is_dirty}
use Rattle.page_cache.specs.declared.cache.PageCache.{PageCache}
use Rattle.page_store.specs.Gates.{open_gates}
use Rattle.page_store.specs.Page.{IsStoring}
use Rattle.page_store.specs.StoreState.{Knows}
use Rattle.logged_pages.specs.OnDisk.{batches_if, pending_if, force_calls, is_ahead, store_calls, IsLeft, Stands}
use Rattle.page_redo.specs.Pages.{Pages}
use Rattle.page_redo.specs.Prefix.{EachHoldsPrefix}
use Rattle.logged_pages.specs.State.{cache_of, log_of, IsBehind}
use Rattle.logged_pages.proofs.CarriedLaws.{its, when_ok}
use Rattle.logged_pages.proofs.DiskLaws.{IsFlushed, gates_by, knows_still, left_by_store, page_stands, some_store, stands_still, stored_by}
use Rattle.logged_pages.proofs.Frames.{stored_bounded}
use Rattle.logged_pages.proofs.logged.LoggedPages.store.Goals as goal

pub invariant_of-self-clause-bounded : goal.invariant_of-self-clause-bounded
invariant_of-self-clause-bounded g c =
    let of = c.force_up_to.new.self in
    let flush = c.flush-stored.ensures in
    let within : c.args.p < cache_pages (cache_of of) = omega (arith, ap cache_pages c.force_up_to.ensures.cache, c.requires.page) in
    let dirty : is_dirty (cache_of of) c.args.p ≡ true = ap (λ (k : PageCache). is_dirty k c.args.p) c.force_up_to.ensures.cache ∙ c.requires.dirty in
    stored_bounded (cache_of of) c.flush-stored.new.self c.args.p within flush.pages flush.plan flush.other_pages c.flush-stored.result dirty flush.frames flush.clean flush.err of.bounded

pub returns-clause-behind : goal.returns-clause-behind
returns-clause-behind g c o batches pending is =
    let at = c.flush-stored.ensures.pages in
    let same : nat_lt (log_forced (log_of c.args.self.now)) c.lsn-lsn.result ≡ is_ahead c.args.self.now c.args.p = ap (nat_lt (log_forced (log_of c.args.self.now))) c.lsn-lsn.ensures.value in
    when_ok c.flush-stored.result (λ x done.
    let before = c.in_ok-force_up_to.ensures.behind o batches pending is in
    let here = subst (λ (b : Bool). IsBehind o (batches_if b batches pending) (pending_if b pending) c.force_up_to.new.self) same before in
    record { first = here.first; log = here.log; prefixes = subst (λ (ps : Pages). EachHoldsPrefix o (records_of (batches_if (is_ahead c.args.self.now c.args.p) batches pending) ++ pending_if (is_ahead c.args.self.now c.args.p) pending) ps) (sym at) here.prefixes })

pub returns-clause-on_disk : goal.returns-clause-on_disk
returns-clause-on_disk g c told o batches pending is disk =
    let old = c.args.self.now in
    let of = c.force_up_to.new.self in
    let p = c.args.p in
    let made = c.in_ok-force_up_to.ensures in
    let flush = c.flush-stored.ensures in
    let ahead = nat_lt (log_forced (log_of old)) c.lsn-lsn.result in
    let same : ahead ≡ is_ahead old p = ap (nat_lt (log_forced (log_of old))) c.lsn-lsn.ensures.value in
    let bs = batches_if ahead batches pending in
    let mid = g.D.Disk.bytes c.force_up_to.new.disk in
    let image = g.D.Disk.bytes c.flush-stored.new.disk in
    let held = made.on_disk told o batches pending is disk in
    let within : p < cache_pages (cache_of of) = omega (arith, ap cache_pages made.cache, c.requires.page) in
    let reached : cached_lsn (cache_of of) p ≤ log_forced (log_of of) = omega (arith, ap (λ (k : PageCache). cached_lsn k p) made.cache, c.lsn-lsn.ensures.value, made.reached) in
    when_ok c.flush-stored.result (λ x done.
    let storing : IsStoring (cache_log (cache_of of)) p (cached_lsn (cache_of of) p) (cached_page (cache_of of) p) mid image = record {
      page = inr (its c.flush-stored.result x done (flush.stored told held.frames));
      others = λ q apart. its c.flush-stored.result x done (flush.others told q apart);
      outside = its c.flush-stored.result x done (flush.outside told);
    } in
    let stands = page_stands of p within mid image storing.outside o bs (pending_if ahead pending) (made.behind o batches pending is) held reached storing in
    let after = subst (λ (b : Bool). Stands o (batches_if b batches pending) of image) same stands in
    record {
      stands = stands_still o (batches_if (is_ahead old p) batches pending) of _ image refl refl flush.plan after;
      frames = its c.flush-stored.result x done (flush.known told held.frames);
    })

pub returns-clause-stored : goal.returns-clause-stored
returns-clause-stored g c told knows =
    let old = c.args.self.now in
    let p = c.args.p in
    let cache = c.force_up_to.ensures.cache in
    let before = g.D.Disk.bytes c.args.disk.now in
    let mid = g.D.Disk.bytes c.force_up_to.new.disk in
    let image = g.D.Disk.bytes c.flush-stored.new.disk in
    let outside = c.in_ok-force_up_to.ensures.outside told in
    let Known : PageCache → Type 0 = λ k. Knows k.store mid in
    let knows_mid = subst Known (sym cache) (knows_still old before mid outside knows) in
    let Flushed : PageCache → Type 0 = λ k. IsFlushed k p mid image in
    when_ok c.flush-stored.result (λ x is.
    stored_by old p before mid image c.requires.page outside (subst Flushed cache (record {
      page = its c.flush-stored.result x is (c.flush-stored.ensures.stored told knows_mid);
      others = λ q apart. its c.flush-stored.result x is (c.flush-stored.ensures.others told q apart);
      outside = its c.flush-stored.result x is (c.flush-stored.ensures.outside told);
      gates = its c.flush-stored.result x is (c.flush-stored.ensures.gates told knows_mid);
      other_gates = λ q apart. its c.flush-stored.result x is (c.flush-stored.ensures.other_gates told q apart);
    })))

pub returns-clause-known : goal.returns-clause-known
returns-clause-known g c told knows =
    let old = c.args.self.now in
    let before = g.D.Disk.bytes c.args.disk.now in
    let mid = g.D.Disk.bytes c.force_up_to.new.disk in
    let Known : PageCache → Type 0 = λ k. Knows k.store mid in
    let knows_mid = subst Known (sym c.force_up_to.ensures.cache) (knows_still old before mid (c.in_ok-force_up_to.ensures.outside told) knows) in
    c.flush-stored.ensures.known told knows_mid

pub returns-clause-moments : goal.returns-clause-moments
returns-clause-moments g c told only o batches pending is disk =
    let d = g.D.Disk in
    let old = c.args.self.now in
    let of = c.force_up_to.new.self in
    let p = c.args.p in
    let made = c.in_ok-force_up_to.ensures in
    let ahead = nat_lt (log_forced (log_of old)) c.lsn-lsn.result in
    let before = d.bytes c.args.disk.now in
    let mid = d.bytes c.force_up_to.new.disk in
    let held = made.on_disk told o batches pending is disk in
    let within : p < cache_pages (cache_of of) = omega (arith, ap cache_pages made.cache, c.requires.page) in
    let reached : cached_lsn (cache_of of) p ≤ log_forced (log_of of) = omega (arith, ap (λ (k : PageCache). cached_lsn k p) made.cache, c.lsn-lsn.ensures.value, made.reached) in
    let Left : List ℕ → Type 0 = IsLeft o batches pending old before in
    let first = c.force_up_to.ensures.moments told only o batches pending is disk in
    let second = weaker d.moment d.left_since c.force_up_to.new.disk c.flush-stored.new.disk _ Left (c.flush-stored.ensures.moments told held.frames (made.durable told only))
    (λ image storing. left_by_store old of p before mid image ahead o batches pending (pending_if ahead pending) (old.place ∙ sym of.place) (sym made.room) made.cache within (made.outside told) (made.behind o batches pending is) held reached storing) in
    weaker d.moment d.left_since c.args.disk.now c.flush-stored.new.disk _ Left
    (joined d.moment d.left_since c.args.disk.now c.force_up_to.new.disk c.flush-stored.new.disk Left Left first second) (λ image either. ⊎_elim (λ left. left) (λ left. left) either)

pub returns-clause-passes : goal.returns-clause-passes
returns-clause-passes g c told knows =
    let d = g.D.Disk in
    let old = c.args.self.now in
    let p = c.args.p in
    let made = c.in_ok-force_up_to.ensures in
    let before = d.bytes c.args.disk.now in
    let mid = d.bytes c.force_up_to.new.disk in
    let outside = made.outside told in
    let Known : PageCache → Type 0 = λ k. Knows k.store mid in
    let knows_mid = subst Known (sym made.cache) (knows_still old before mid outside knows) in
    let calls = ap (λ (k : PageCache). if nat_lt (open_gates (cache_log k) mid p) 2 then 4 else 6) made.cache ∙ gates_by old p before mid outside in
    let first = if nat_lt (log_forced (log_of old)) c.lsn-lsn.result then force_calls (is_waiting (log_of old)) else 0 in
    let same = ap (λ (n : ℕ). (if nat_lt (log_forced (log_of old)) n then force_calls (is_waiting (log_of old)) else 0) + store_calls old p before) c.lsn-lsn.ensures.value in
    let last = subst (λ (n : ℕ). Passes n (d.passed c.force_up_to.new.disk) (d.passed c.flush-stored.new.disk) c.flush-stored.result) calls (c.flush-stored.ensures.calls told knows_mid) in
    subst (λ (n : ℕ). Passes n (d.passed c.args.disk.now) (d.passed c.flush-stored.new.disk) c.flush-stored.result) same
    (both_pass first (store_calls old p before) (d.passed c.args.disk.now) (d.passed c.force_up_to.new.disk) (d.passed c.flush-stored.new.disk) c.flush-stored.result (some_store old p before) (made.passes told).ok last)
