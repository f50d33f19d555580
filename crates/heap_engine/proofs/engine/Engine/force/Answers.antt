use Rattle.std.proofs.Common.{rules, ◌≡◌, ℕ, ◌+◌, Ok, Err, refl, sym, ap, subst, ◌∙◌}
use Rattle.disk_model.specs.Disk.{part}
use Rattle.disk_model.proofs.MomentLaws.{weaker}
use Rattle.gated_log.specs.Log.{with_batch, HoldsBatches}
use Rattle.gated_log.specs.LogState.{log_place, log_room}
use Rattle.graph_model.specs.declared.event.Event.TheVariants.{Force}
use Rattle.graph_model.specs.declared.reply.Reply.TheVariants.{Durable}
use Rattle.core_laws.proofs.Step.Events.{valid_after}
use Rattle.heap_model.specs.Core.{cut, log_origin}
use Rattle.logged_pages.specs.State.{log_of, store_of}
use Rattle.page_cache.specs.CacheState.{cached, cache_store}
use Rattle.page_cache.specs.declared.cache.PageCache.{PageCache}
use Rattle.heap_engine.specs.declared.step_error.StepError.TheVariants.{Disk}
use Rattle.heap_engine.specs.EngineState.{memory}
use Rattle.heap_engine.specs.Refinement.{IsLeftByStep}
use Rattle.heap_engine.proofs.DeviceCalls.{force_passes, no_calls_empty}
use Rattle.heap_engine.proofs.EventCore.{left_cut, engine_valid, engine_after}
use Rattle.heap_engine.proofs.ForceCore.{knows_forced, force_does, forced_on, force_cut_short}
use Rattle.heap_engine.proofs.OnPages.{behind, on_disk, left_by_step}
use Rattle.heap_engine.proofs.engine.Engine.force.Goals as goal

pub returns-clause-core : goal.returns-clause-core
returns-clause-core g c =
    let old = c.args.self.now in
    let cache = c.force.ensures.cache in
    let words = ap (λ (k : PageCache). (cached k).words) cache in
    let lsns = ap (λ (k : PageCache). (cached k).lsns) cache in
    let store : store_of c.force.new.self ≡ store_of old.pages = ap (λ (k : PageCache). cache_store k) cache in
    record {
      core = λ core is reached.
          let valid = engine_valid g.D.Disk core old c.args.disk.now is reached in
          let kept = c.in_ok-force.ensures.kept core.batches core.pending is.memory.log in
          let does = force_does (memory old) _ core (Durable old.sealed) valid is.memory kept (c.force.new.self.place ∙ sym old.pages.place) c.force.ensures.room
          (record { words = words; lsns = lsns; table = refl; locks = refl; spaces = refl; collection = refl; sealed = refl }) store refl in (
            does.replied,
            engine_after g.D.Disk core Force (Durable old.sealed) _ c.force.new.disk (valid_after core Force valid reached.locked tt) does
                (λ told. knows_forced core old is.memory _ _ _ store (c.in_ok-force.ensures.outside told) (is.pages told)),
          );
      still = λ core is reached no_calls.
          let valid = engine_valid g.D.Disk core old c.args.disk.now is reached in
          (c.force.ensures.idle (no_calls_empty core (log_of old.pages) valid is.memory.log no_calls)).1;
      untouched = λ never. absurd (cc never);
      kept = λ never. absurd (cc never);
    }

pub returns-clause-holds : goal.returns-clause-holds
returns-clause-holds g c tells =
    let d = g.D.Disk in
    let old = c.args.self.now in
    let new = c.force.new.self in
    let image = d.bytes c.force.new.disk in
    record {
      holds = λ s core is reached disk.
          let valid = engine_valid d core old c.args.disk.now is reached in
          let there = c.in_ok-force.ensures.on_disk tells (log_origin core) core.batches core.pending (behind core old is.memory s _ _ disk) (on_disk core old is.memory s _ _ disk (is.pages tells).frames) in
          let P : ℕ → ℕ → Type 0 = λ n m. HoldsBatches (part image n m) (with_batch core.batches core.pending) in
          let Q : ℕ → Type 0 = λ n. P n (log_room (log_of new)) in
          let held = subst (P (log_place (log_of old.pages))) c.force.ensures.room (subst Q (new.place ∙ sym old.pages.place) there.stands.log) in
          forced_on core old is.memory s _ image _ _ disk valid held (c.in_ok-force.ensures.outside tells) (c.in_ok-force.ensures.durable tells disk.only);
      moments = λ s core is reached disk.
          weaker d.moment d.left_since c.args.disk.now c.force.new.disk _ (IsLeftByStep (cut core Force) (d.bytes c.args.disk.now))
          (c.force.ensures.moments tells disk.only (log_origin core) core.batches core.pending (behind core old is.memory s _ _ disk) (on_disk core old is.memory s _ _ disk (is.pages tells).frames))
          (λ image left. left_cut core Force _ image reached.sound (left_by_step core old is.memory s _ _ disk image reached.sound left));
      passes = λ core is reached.
          force_passes core (log_of old.pages) _ _ (Ok tt) (engine_valid d core old c.args.disk.now is reached) is.memory.log (c.in_ok-force.ensures.passes tells);
    }

pub returns-in_err-force-clause-core : goal.returns-in_err-force-clause-core
returns-in_err-force-clause-core g c =
    let d = g.D.Disk in
    let old = c.args.self.now in
    let e = c.in_err-force.field-0.0 in
    let err : c.from_residual.result ≡ Err (Disk e) = search rules in
    rw err (record {
      core = λ core is reached. force_cut_short core old is.memory _ c.force.result e (engine_valid d core old c.args.disk.now is reached) (λ four. (c.force.ensures.idle four).0) c.in_err-force.was refl refl;
      still = λ core is reached no_calls.
          let valid = engine_valid d core old c.args.disk.now is reached in
          (c.force.ensures.idle (no_calls_empty core (log_of old.pages) valid is.memory.log no_calls)).1;
      untouched = λ never. absurd (cc never);
      kept = λ never. absurd (cc never);
    })

pub returns-in_err-force-clause-holds : goal.returns-in_err-force-clause-holds
returns-in_err-force-clause-holds g c tells =
    let d = g.D.Disk in
    let old = c.args.self.now in
    let e = c.in_err-force.field-0.0 in
    let err : c.from_residual.result ≡ Err (Disk e) = search rules in
    rw err (record {
      holds = λ s core is reached disk. tt;
      moments = λ s core is reached disk.
          weaker d.moment d.left_since c.args.disk.now c.force.new.disk _ (IsLeftByStep (cut core Force) (d.bytes c.args.disk.now))
          (c.force.ensures.moments tells disk.only (log_origin core) core.batches core.pending (behind core old is.memory s _ _ disk) (on_disk core old is.memory s _ _ disk (is.pages tells).frames))
          (λ image left. left_cut core Force _ image reached.sound (left_by_step core old is.memory s _ _ disk image reached.sound left));
      passes = λ core is reached.
          force_passes core (log_of old.pages) _ _ (Err e) (engine_valid d core old c.args.disk.now is reached) is.memory.log (c.in_err-force.ensures.passes tells);
    })

pub invariant_of-self-clause-spare : goal.invariant_of-self-clause-spare
invariant_of-self-clause-spare g c = c.force.ensures.spare c.args.self.now.reserved c.args.self.now.spare
