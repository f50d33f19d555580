-- Pages get ahead in steps, one after another.
use Rattle.std.proofs.Common.{◌≡◌, ◌⊎◌, ℕ, ◌+◌, ◌-◌, ◌*◌, ◌<◌, ◌≤◌, zero, suc, Bool, true, false, Result, Ok, Err, List, [], ◌∷◌, ◌++◌, refl, sym, ap, subst, ◌∙◌, inl, inr, ⊎_elim, arith}
use Rattle.std.specs.Prelude.{nat_lt, ◌||◌, OnOk, IsOk, IsTrue, if◌then◌else◌}
use Rattle.std.proofs.lemmas.Bool.{cases_lt, lt-ltb, le-ltb}
use Rattle.std.proofs.lemmas.List.{append-nil}
use Rattle.disk_model.proofs.KeepsLaws.{keeps_none, keeps_on}
use Rattle.disk_model.proofs.MomentLaws.{begins, joined, weaker}
use Rattle.counts.specs.Count.{counted}
use Rattle.disk_model.specs.Disk.{Only, SameOutside}
use Rattle.disk_model.specs.Moments.{LeavesOnly}
use Rattle.disk_model.specs.declared.disk.Disk.{Ghosts}
use Rattle.disk_model.specs.declared.disk.DiskError.{DiskError}
use Rattle.disk_model.specs.declared.disk.DiskError.TheVariants.{Stopped}
use Rattle.gate_slot.proofs.PassingLaws.{counted-add, joined as both_pass}
use Rattle.gate_slot.specs.Passing.{Passes}
use Rattle.gated_log.specs.Log.{records_of, with_batch}
use Rattle.gated_log.specs.LogState.{Keeps, log_count, log_forced, log_place, log_room}
use Rattle.log_records.specs.declared.Record.{Record}
use Rattle.page_cache.specs.CacheState.{cache_log, cache_pages, cache_size}
use Rattle.page_redo.specs.Carry.{Carry}
use Rattle.page_redo.specs.Origin.{Origin}
use Rattle.page_redo.specs.Pages.{Pages}
use Rattle.page_redo.specs.Prefix.{EachHoldsPrefix}
use Rattle.page_store.specs.Page.{page_lsn}
use Rattle.page_store.specs.StoreState.{store_plan}
use Rattle.image_plan.specs.declared.plan.Plan.{Plan}
use Rattle.image_plan.specs.Plan.{image_size, log_offset}
use Rattle.logged_pages.specs.Advancing.{IsAt, HasGates, was_forced, HasPut, IsStill, AdvancesOnDisk, Advances}
use Rattle.logged_pages.specs.declared.logged.LoggedPages.{LoggedPages}
use Rattle.logged_pages.specs.OnDisk.{batches_if, pending_if, IsLeft, IsOnDisk, SameBeside, Stands}
use Rattle.logged_pages.specs.State.{IsBehind, cache_of, frames_of, has_failed, log_of, pages_in_memory, store_of}
use Rattle.logged_pages.proofs.Batches.{all_if, batches_then, pending_then}
use Rattle.logged_pages.proofs.CarriedLaws.{on_both}
use Rattle.logged_pages.proofs.DiskLaws.{left_alone, outside_then, records_of-with_batch, stands_still}

-- Memory.

pub put_then : (old mid new : LoggedPages) (between at : Pages) → HasPut old mid between → HasPut mid new at → HasPut old new at
put_then old mid new between at one more = record {
  pages = more.pages;
  kept = λ batches pending keeps.
      let bs = batches_then old mid new one.forced more.forced batches pending in
      let ps = pending_then old mid new one.forced more.forced pending in
      let here = more.kept (batches_if (was_forced old mid) batches pending) (pending_if (was_forced old mid) pending) (one.kept batches pending keeps) in
      subst (λ (l : List Record). Keeps (log_of new) (batches_if (was_forced old new) batches pending) l) ps
      (subst (λ (l : List (List Record)). Keeps (log_of new) l (pending_if (was_forced mid new) (pending_if (was_forced old mid) pending))) bs here);
  count = more.count ∙ one.count;
  forced = omega (arith, one.forced, more.forced);
  used = omega (arith, one.used, more.used);
  spare = λ n has. more.spare n (one.spare n has);
  room = more.room ∙ one.room;
  plan = more.plan ∙ one.plan;
  frames = more.frames ∙ one.frames;
}

-- the pages are behind the log still, where each holds its prefix
pub behind_put : (o : Origin) (batches : List (List Record)) (pending : List Record) (old new : LoggedPages) (at : Pages) → HasPut old new at → IsBehind o batches pending old → EachHoldsPrefix o (records_of batches ++ pending) (pages_in_memory new)
    → IsBehind o (batches_if (was_forced old new) batches pending) (pending_if (was_forced old new) pending) new
behind_put o batches pending old new at put is each = record {
  first = is.first;
  log = put.kept batches pending is.log;
  prefixes = subst (λ (rs : List Record). EachHoldsPrefix o rs (pages_in_memory new)) (sym (all_if (was_forced old new) batches pending)) each;
}

-- The disk.

-- what is left of an image after another one was left of the first
pub left_then : (old mid : LoggedPages) (at : Pages) (before between image : List ℕ) (o : Origin) (batches : List (List Record)) (pending : List Record) → HasPut old mid at → IsLeft o batches pending old before between
    → IsLeft o (batches_if (was_forced old mid) batches pending) (pending_if (was_forced old mid) pending) mid between image → IsLeft o batches pending old before image
left_then old mid at before between image o batches pending put first second =
    let place : log_place (log_of old) ≡ log_place (log_of mid) = old.place ∙ sym mid.place in
    let back : (bs : List (List Record)) → Stands o bs mid image → Stands o bs old image = λ bs. stands_still o bs mid old image place (sym put.room) (sym put.plan) in
    let Later : Plan → Type 0 = λ plan. (p : ℕ) → p < 2 * plan.pages → page_lsn plan.log_bytes p between ≤ page_lsn plan.log_bytes p image in
    let later = subst Later put.plan second.later in
    let Beside : Plan → Type 0 = λ plan. SameOutside log_offset (image_size plan.pages plan.log_bytes) between image in
    record {
      stands = these (was_forced old mid) (⊎_elim (λ (s : Stands o (batches_if (was_forced old mid) batches pending) mid image). inl (back (batches_if (was_forced old mid) batches pending) s)) (λ s. inr (back (with_batch (batches_if (was_forced old mid) batches pending) (pending_if (was_forced old mid) pending)) s)) second.stands);
      later = λ p lt. omega (arith, first.later p lt, later p lt);
      outside = outside_then log_offset (cache_size (cache_of old)) before between image first.outside (subst Beside put.plan second.outside);
    }
  where
    these : (f : Bool) → Stands o (batches_if f batches pending) old image ⊎ Stands o (with_batch (batches_if f batches pending) (pending_if f pending)) old image → Stands o batches old image ⊎ Stands o (with_batch batches pending) old image
    these true (inl is) = inr is
    these true (inr is) = inr is
    these false (inl is) = inl is
    these false (inr is) = inr is

-- Calls.

pub pass_then : (n m all before mid now : ℕ) (result : Result (Unit {0}) DiskError) → n + m ≡ all → (m ≡ 0 → IsOk result) → mid ≡ counted n before → Passes m mid now result → Passes all before now result
pass_then n zero all before mid now (Ok x) sum some first second =
    let same : n ≡ all = omega (arith, sum) in
    let is : now ≡ counted all before = second.ok ∙ first ∙ ap (λ (k : ℕ). counted k before) same in
    record { ok = is; some = (all, omega arith, is); stopped = λ not. absurd (cc not) }
pass_then n zero all before mid now (Err e) sum some first second = absurd (cc (some refl))
pass_then n (suc m) all before mid now result sum some first second =
    subst (λ (k : ℕ). Passes k before now result) sum (both_pass n (suc m) before mid now result (omega arith) first second)

pub pass_cut : (n all before now : ℕ) (e : DiskError) → 0 < n → n ≤ all → Passes n before now (Err e) → Passes all before now (Err e)
pass_cut n all before now e any le run = record {
  ok = tt;
  some = (run.some.0, omega (arith, run.some.1, le), run.some.2);
  stopped = λ is some. let short = run.stopped is any in (short.0, omega (arith, short.1, le), short.2);
}

some_calls : (a b c : ℕ) → a ≤ b → b ≤ c → (b - a) + (c - b) ≡ c - a
some_calls a b c low high = omega (arith, low, high)

no_more : (b c : ℕ) → b ≤ c → c - b ≡ 0 → c ≡ b
no_more b c le none = omega (arith, le, none)

-- Steps.

module _ {D : Type 0} (g : Ghosts D) where
  -- what follows where a call succeeds
  both_ok : (r : Result (Unit {0}) DiskError) {P Q : Type 0} → (P → Q) → OnOk r P → OnOk r Q
  both_ok (Ok x) f p = f p
  both_ok (Err e) f p = tt

  -- nothing was done
  pub advances_none : (of : LoggedPages) (disk : D) (go : Carry → Carry) (May : Origin → List Record → Type 0) → has_failed of ≡ false → (IsTrue g.tells → (c : List ℕ) → g.left_since disk (g.moment disk) c → g.may_leave disk c)
      → ((k : Carry) → IsAt k of → go k ≡ k) → Advances g of of disk disk (Ok tt) (pages_in_memory of) go May
  advances_none of disk go May works now same = record {
    disk = keeps_none g disk tt;
    failed = works;
    put = put_nothing;
    carry = λ k at. subst (λ (j : Carry). IsAt j of) (sym (same k at)) at;
    still = λ k at few. (refl, record { disk = refl; log = refl; store = refl });
    on_disk = λ told o batches pending is may held. record {
      on_disk = subst (λ (bs : List (List Record)). IsOnDisk o bs of (g.bytes disk)) (sym (no_batch batches pending)) held;
      left = left_alone of (g.bytes disk) (g.bytes disk) o batches pending held.stands refl;
      durable = λ only. only;
      moments = λ only. begins g.moment g.left_since disk (IsLeft o batches pending of (g.bytes disk)) (λ image left. left_alone of (g.bytes disk) image o batches pending held.stands (only image (now told image left)));
      gates = λ k at gates. subst (λ (j : Carry). HasGates of j.gates (g.bytes disk)) (sym (same k at)) gates;
      passes = λ k at gates. let none : (go k).calls - k.calls ≡ 0 = omega (arith, ap (λ (j : Carry). j.calls) (same k at)) in subst (λ (n : ℕ). Passes n (g.passed disk) (g.passed disk) (Ok tt)) (sym none) (record { ok = refl; some = (0, omega arith, refl); stopped = λ not. absurd (cc not) });
    };
  }
    where
      never : was_forced of of ≡ false
      never = le-ltb (log_forced (log_of of)) (log_forced (log_of of)) (omega arith)

      no_batch : (batches : List (List Record)) (pending : List Record) → batches_if (was_forced of of) batches pending ≡ batches
      no_batch batches pending = ap (λ (f : Bool). batches_if f batches pending) never

      put_nothing : HasPut of of (pages_in_memory of)
      put_nothing = record {
        pages = refl;
        kept = λ batches pending keeps. subst (λ (f : Bool). Keeps (log_of of) (batches_if f batches pending) (pending_if f pending)) (sym never) keeps;
        count = refl;
        forced = omega arith;
        used = omega arith;
        spare = λ more has. has;
        room = refl;
        plan = refl;
        frames = refl;
      }

  -- one step behind another
  module _ (old mid new : LoggedPages) (before between after : D) (result : Result (Unit {0}) DiskError) (here at : Pages) (go more : Carry → Carry) (May First Second : Origin → List Record → Type 0)
      (first : Advances g old mid before between (Ok tt) here go First) (second : Advances g mid new between after result at more Second) (calls_go : (k : Carry) → k.calls ≤ (go k).calls) (calls_more : (k : Carry) → k.calls ≤ (more k).calls) where
    then_still : (k : Carry) → IsAt k old → (more (go k)).calls ≡ k.calls → IsOk result × IsStill old new before after
    then_still k is few =
        let one : (go k).calls ≡ k.calls = omega (arith, few, calls_go k, calls_more (go k)) in
        let two : (more (go k)).calls ≡ (go k).calls = omega (arith, few, one) in
        let a = (first.still k is one).1 in
        let b = second.still (go k) (first.carry k is) two in
        (b.0, record { disk = b.1.disk ∙ a.disk; log = b.1.log ∙ a.log; store = b.1.store ∙ a.store })

    module _ (may_first : (o : Origin) (all : List Record) → May o all → First o all) (may_second : (o : Origin) (all : List Record) → May o all → Second o all)
        (on_way : (o : Origin) (all : List Record) → EachHoldsPrefix o all (pages_in_memory old) → May o all → EachHoldsPrefix o all (pages_in_memory mid)) where
      module _ (told : IsTrue g.tells) (o : Origin) (batches : List (List Record)) (pending : List Record) (is : IsBehind o batches pending old) (may : May o (records_of batches ++ pending)) (held : IsOnDisk o batches old (g.bytes before)) where
        abbrev f : Bool
        f = was_forced old mid

        abbrev bs : List (List Record)
        bs = batches_if f batches pending

        abbrev ps : List Record
        ps = pending_if f pending

        one : AdvancesOnDisk g 0 old mid before between (Ok tt) go o batches pending
        one = first.on_disk told o batches pending is (may_first o (records_of batches ++ pending) may) held

        behind : IsBehind o bs ps mid
        behind = behind_put o batches pending old mid here first.put is (on_way o (records_of batches ++ pending) is.prefixes may)

        two : AdvancesOnDisk g 0 mid new between after result more o bs ps
        two = second.on_disk told o bs ps behind (subst (λ (rs : List Record). Second o rs) (sym (all_if f batches pending)) (may_second o (records_of batches ++ pending) may)) one.on_disk

        batches_are : HasPut mid new at → batches_if (was_forced mid new) bs ps ≡ batches_if (was_forced old new) batches pending
        batches_are put = batches_then old mid new first.put.forced put.forced batches pending

        pub then_on_disk : AdvancesOnDisk g 0 old new before after result (λ k. more (go k)) o batches pending
        then_on_disk = record {
          on_disk = on_both result (λ (put : HasPut mid new at) disk. subst (λ (l : List (List Record)). IsOnDisk o l new (g.bytes after)) (batches_are put) disk) second.put two.on_disk;
          left = both_ok result (left_then old mid here (g.bytes before) (g.bytes between) (g.bytes after) o batches pending first.put one.left) two.left;
          durable = λ only. two.durable (one.durable only);
          moments = λ only.
              let Left : List ℕ → Type 0 = IsLeft o batches pending old (g.bytes before) in
              let later = weaker g.moment g.left_since between after _ Left (two.moments (one.durable only)) (λ image left. left_then old mid here (g.bytes before) (g.bytes between) image o batches pending first.put one.left left) in
              weaker g.moment g.left_since before after _ Left (joined g.moment g.left_since before between after Left Left (one.moments only) later) (λ image either. ⊎_elim (λ left. left) (λ left. left) either);
          gates = λ k at gates. two.gates (go k) (first.carry k at) (one.gates k at gates);
          passes = λ k at gates.
              let passed = one.passes k at gates in
              let rest = two.passes (go k) (first.carry k at) (one.gates k at gates) in
              pass_then ((go k).calls - k.calls) ((more (go k)).calls - (go k).calls) ((more (go k)).calls - k.calls) (g.passed before) (g.passed between) (g.passed after) result
              (some_calls k.calls (go k).calls (more (go k)).calls (calls_go k) (calls_more (go k)))
              (λ none. (second.still (go k) (first.carry k at) (no_more (go k).calls (more (go k)).calls (calls_more (go k)) none)).0) passed.ok rest;
        }

      pub advances_then : Advances g old new before after result at (λ k. more (go k)) May
      advances_then = record {
        disk = keeps_on g before between after (Ok tt) tt result refl first.disk second.disk;
        failed = second.failed;
        put = both_ok result (λ put. put_then old mid new here at first.put put) second.put;
        carry = λ k is. second.carry (go k) (first.carry k is);
        still = then_still;
        on_disk = then_on_disk;
      }

  -- the same, where a carry has the pages and the log in the same place
  pub advances_alike : (old new : LoggedPages) (before after : D) (result : Result (Unit {0}) DiskError) (at : Pages) (go same : Carry → Carry) (May Less : Origin → List Record → Type 0) → ((k : Carry) → IsAt k old → go k ≡ same k) → ((o : Origin) (all : List Record) → Less o all → May o all)
      → Advances g old new before after result at go May → Advances g old new before after result at same Less
  advances_alike old new before after result at go same May Less alike may is = record {
    disk = is.disk;
    failed = is.failed;
    put = is.put;
    carry = λ k here. both_ok result (λ there. subst (λ (j : Carry). IsAt j new) (alike k here) there) (is.carry k here);
    still = λ k here few. is.still k here (ap (λ (j : Carry). j.calls) (alike k here) ∙ few);
    on_disk = λ told o batches pending behind less held.
        let d = is.on_disk told o batches pending behind (may o (records_of batches ++ pending) less) held in
        record {
          on_disk = d.on_disk;
          left = d.left;
          durable = d.durable;
          moments = d.moments;
          gates = λ k here gates. both_ok result (λ there. subst (λ (j : Carry). HasGates new j.gates (g.bytes after)) (alike k here) there) (d.gates k here gates);
          passes = λ k here gates. subst (λ (j : Carry). Passes (j.calls - k.calls) (g.passed before) (g.passed after) result) (alike k here) (d.passes k here gates);
        };
  }

  -- where the pages and the disk are
  pub advances_at : (old : LoggedPages) (before : D) (new same : LoggedPages) (after there : D) (go : Carry → Carry) (May : Origin → List Record → Type 0) → new ≡ same → after ≡ there → Advances g old new before after (Ok tt) (pages_in_memory new) go May → Advances g old same before there (Ok tt) (pages_in_memory same) go May
  advances_at old before new same after there go May is at held =
      let P : LoggedPages → Type 0 = λ of. Advances g old of before after (Ok tt) (pages_in_memory of) go May in
      let Q : D → Type 0 = λ d. Advances g old same before d (Ok tt) (pages_in_memory same) go May in
      subst Q at (subst P is held)

  -- what ended in a result
  pub advances_as : (old new : LoggedPages) (before after : D) (r s : Result (Unit {0}) DiskError) (at : Pages) (go : Carry → Carry) (May : Origin → List Record → Type 0) → r ≡ s → Advances g old new before after r at go May → Advances g old new before after s at go May
  advances_as old new before after r s at go May same is = let P : Result (Unit {0}) DiskError → Type 0 = λ x. Advances g old new before after x at go May in subst P same is

  -- a step that ended at an error, as the beginning of a longer one
  pub advances_cut : (old new : LoggedPages) (before after : D) (e : DiskError) (here at : Pages) (go more : Carry → Carry) (May Less : Origin → List Record → Type 0) → ((k : Carry) → k.calls ≤ (go k).calls) → ((k : Carry) → (go k).calls ≤ (more k).calls)
      → ((o : Origin) (all : List Record) → Less o all → May o all) → Advances g old new before after (Err e) here go May → Advances g old new before after (Err e) at more Less
  advances_cut old new before after e here at go more May Less calls_go calls_more may is = record {
    disk = is.disk;
    failed = is.failed;
    put = tt;
    carry = λ k here. tt;
    still = λ k here few. absurd (cc ((is.still k here (omega (arith, few, calls_go k, calls_more k))).0));
    on_disk = λ told o batches pending behind less held.
        let d = is.on_disk told o batches pending behind (may o (records_of batches ++ pending) less) held in
        record {
          on_disk = tt;
          left = tt;
          durable = λ only. tt;
          moments = d.moments;
          gates = λ k here gates. tt;
          passes = λ k here gates. elim (cases_lt k.calls (go k).calls) [
            | inl some ↦ pass_cut ((go k).calls - k.calls) ((more k).calls - k.calls) (g.passed before) (g.passed after) e (omega (arith, some)) (omega (arith, some, calls_more k)) (d.passes k here gates)
            | inr none ↦ absurd (cc ((is.still k here (omega (arith, none, calls_go k))).0))
          ];
        };
  }
