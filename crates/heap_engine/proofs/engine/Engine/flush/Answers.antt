use Rattle.std.proofs.Common.{◌*◌, rules, ◌≡◌, ◌≢◌, ◌+◌, ◌≤◌, ℕ, length, Ok, Err, refl, sym, ap, ◌∙◌, subst, arith}
use Rattle.std.specs.Prelude.{is_err}
use Rattle.disk_model.proofs.MomentLaws.{weaker}
use Rattle.gate_slot.specs.Passing.{Passes}
use Rattle.graph_model.specs.declared.event.Event.TheVariants.{Flush}
use Rattle.graph_model.specs.History.{account}
use Rattle.graph_model.specs.declared.reply.Reply.TheVariants.{Flushed}
use Rattle.core_laws.specs.Valid.{IsReached}
use Rattle.core_laws.proofs.Step.Flush.{flush_granted}
use Rattle.core_laws.proofs.Step.Events.{valid_after}
use Rattle.heap_model.specs.Core.{Core, cut, log_origin}
use Rattle.heap_model.proofs.Run.Calls.{calls-granted}
use Rattle.memory_laws.specs.CoreMemory.{IsMemory}
use Rattle.memory_laws.proofs.Step.Flush.{flush_no_page, flush_clean, flush_done}
use Rattle.image_plan.specs.declared.plan.Plan.{Plan}
use Rattle.page_redo.specs.Pages.{Pages}
use Rattle.heap_engine.specs.declared.step_error.StepError.TheVariants.{Disk}
use Rattle.heap_engine.specs.EngineState.{memory}
use Rattle.heap_engine.specs.Reserve.{AreSound}
use Rattle.heap_engine.specs.Refinement.{IsEngine, IsLeftByStep}
use Rattle.heap_engine.proofs.EventCore.{engine_valid, engine_after, left_cut, cut_short}
use Rattle.heap_engine.proofs.FlushCore.{past, is_there, left_refused, left_flushed, left_clean, refused_calls, clean_calls, dirty_calls, knows_left, disk_left, idle_steps, idle_on}
use Rattle.heap_engine.proofs.OnPages.{within, dirty_is, behind, on_disk, left_by_step}
use Rattle.heap_engine.proofs.StoreCore.{flushed_memory, flushed_knows, flushed_on, flush_passes}
use Rattle.heap_engine.proofs.engine.Engine.flush.Goals as goal

pub returns-then-p-from-clause-core : goal.returns-then-p-from-clause-core
returns-then-p-from-clause-core g c =
    let e = c.args.self.now in
    let p = c.args.p in
    let beyond = λ (core : Core) (works : IsMemory (memory e) (account core.history) core). past core e p c.from.result works (c.from.ensures ∙ c.pages.ensures) c.if-p-from.true in
    idle_steps g.D.Disk p e c.args.disk.now c.refused.result (λ core works valid. flush_no_page _ core p _ valid (beyond core works) works c.refused.ensures) (λ core works valid. left_refused core p valid (beyond core works))
    (λ core works valid. refused_calls core p valid (beyond core works))

pub returns-then-p-from-clause-holds : goal.returns-then-p-from-clause-holds
returns-then-p-from-clause-holds g c tells =
    let e = c.args.self.now in
    let p = c.args.p in
    let beyond = λ (core : Core) (works : IsMemory (memory e) (account core.history) core). past core e p c.from.result works (c.from.ensures ∙ c.pages.ensures) c.if-p-from.true in
    idle_on g.D.Disk p e c.args.disk.now c.refused.result (λ core works valid. flush_no_page _ core p _ valid (beyond core works) works c.refused.ensures) (λ core works valid. left_refused core p valid (beyond core works))
    (λ core works valid. refused_calls core p valid (beyond core works)) (g.met.D.Disk.only_now tells c.args.disk.now)

pub returns-then-not-dirty-clause-core : goal.returns-then-not-dirty-clause-core
returns-then-not-dirty-clause-core g c =
    let e = c.args.self.now in
    let p = c.args.p in
    let page = is_there e p c.from.result (c.from.ensures ∙ c.pages.ensures) c.if-p-from.false in
    let clean = λ (core : Core) (works : IsMemory (memory e) (account core.history) core). sym (dirty_is core e works p page) ∙ sym c.dirty.ensures ∙ c.if-not-dirty.true in
    idle_steps g.D.Disk p e c.args.disk.now _ (λ core works valid. flush_clean _ core p _ valid (within core e works p page) (clean core works) works refl)
    (λ core works valid. left_clean core p valid (within core e works p page) (clean core works)) (λ core works valid. clean_calls core p valid (within core e works p page) (clean core works))

pub returns-then-not-dirty-clause-holds : goal.returns-then-not-dirty-clause-holds
returns-then-not-dirty-clause-holds g c tells =
    let e = c.args.self.now in
    let p = c.args.p in
    let page = is_there e p c.from.result (c.from.ensures ∙ c.pages.ensures) c.if-p-from.false in
    let clean = λ (core : Core) (works : IsMemory (memory e) (account core.history) core). sym (dirty_is core e works p page) ∙ sym c.dirty.ensures ∙ c.if-not-dirty.true in
    idle_on g.D.Disk p e c.args.disk.now _ (λ core works valid. flush_clean _ core p _ valid (within core e works p page) (clean core works) works refl)
    (λ core works valid. left_clean core p valid (within core e works p page) (clean core works)) (λ core works valid. clean_calls core p valid (within core e works p page) (clean core works))
    (g.met.D.Disk.only_now tells c.args.disk.now)

pub returns-clause-core : goal.returns-clause-core
returns-clause-core g c =
    let d = g.D.Disk in
    let e = c.args.self.now in
    let new = c.store.new.self in
    let p = c.args.p in
    let page = is_there e p c.from.result (c.from.ensures ∙ c.pages.ensures) c.if-p-from.false in
    let dirty = sym c.dirty.ensures ∙ c.if-not-dirty.false in
    let same = c.store.ensures.pages in
    let works = new.works (c.store.ensures.failed ∙ ap is_err c.in_ok-store.was) in
    record {
      core = λ core is reached.
          let valid = engine_valid d core e c.args.disk.now is reached in
          let lt = within core e is.memory p page in
          let kept = c.in_ok-store.ensures.kept core.batches core.pending is.memory.log in
          let flushed = flushed_memory core e p is.memory page dirty _ kept (new.place ∙ sym e.pages.place) c.store.ensures.room
          (record { words = ap (λ (x : Pages). x.words) same; lsns = ap (λ (x : Pages). x.lsns) same; table = refl; locks = refl; spaces = refl; collection = refl; sealed = refl }) c.store.ensures.plan works c.in_ok-store.ensures.clean c.store.ensures.other_pages in
          let does = flush_done _ core p (Flushed p) valid lt (sym (dirty_is core e is.memory p page) ∙ dirty) flushed refl in (
            does.replied,
            engine_after d core (Flush p) (Flushed p) _ c.store.new.disk (valid_after core (Flush p) valid reached.locked tt) does
                (λ told.
                let known = is.pages told in
                knows_left core _ p (left_flushed core p valid lt) _ _
                (flushed_knows core e p is.memory page dirty _ _ known (c.in_ok-store.ensures.stored told known.frames) _ (c.in_ok-store.ensures.known told known.frames))),
          );
      still = λ core is reached no_calls.
          let valid = engine_valid d core e c.args.disk.now is reached in
          absurd (omega (arith, no_calls, dirty_calls core p valid (within core e is.memory p page) (sym (dirty_is core e is.memory p page) ∙ dirty)));
      untouched = λ never. absurd (cc never);
      kept = λ never. absurd (cc never);
    }

pub returns-clause-holds : goal.returns-clause-holds
returns-clause-holds g c tells =
    let d = g.D.Disk in
    let e = c.args.self.now in
    let new = c.store.new.self in
    let p = c.args.p in
    let page = is_there e p c.from.result (c.from.ensures ∙ c.pages.ensures) c.if-p-from.false in
    let dirty = sym c.dirty.ensures ∙ c.if-not-dirty.false in
    record {
      holds = λ s core is reached disk.
          let valid = engine_valid d core e c.args.disk.now is reached in
          let known = is.pages tells in
          let there = c.in_ok-store.ensures.on_disk tells (log_origin core) core.batches core.pending (behind core e is.memory s _ _ disk) (on_disk core e is.memory s _ _ disk known.frames) in
          disk_left core _ p (left_flushed core p valid (within core e is.memory p page)) s _ _
          (flushed_on core e p is.memory page dirty s _ _ _ _ disk (c.in_ok-store.ensures.stored tells known.frames) new (new.place ∙ sym e.pages.place) c.store.ensures.room c.store.ensures.plan there.stands
          (c.in_ok-store.ensures.durable tells));
      moments = λ s core is reached disk.
          weaker d.moment d.left_since c.args.disk.now c.store.new.disk _ (IsLeftByStep (cut core (Flush p)) (d.bytes c.args.disk.now))
          (c.store.ensures.moments tells disk.only (log_origin core) core.batches core.pending (behind core e is.memory s _ _ disk) (on_disk core e is.memory s _ _ disk (is.pages tells).frames))
          (λ image left. left_cut core (Flush p) _ image reached.sound (left_by_step core e is.memory s _ _ disk image reached.sound left));
      passes = λ core is reached.
          let valid = engine_valid d core e c.args.disk.now is reached in
          let known = is.pages tells in
          subst (λ (n : ℕ). Passes n (d.passed c.args.disk.now) (d.passed c.store.new.disk) (Ok tt)) (sym (calls-granted core (Flush p) (flush_granted core p valid (within core e is.memory p page))))
          (flush_passes core e p is.memory page dirty _ _ _ (Ok tt) known (c.in_ok-store.ensures.passes tells known.frames));
    }

pub returns-in_err-store-clause-core : goal.returns-in_err-store-clause-core
returns-in_err-store-clause-core g c =
    let d = g.D.Disk in
    let old = c.args.self.now in
    let p = c.args.p in
    let e = c.in_err-store.field-0.0 in
    let err : c.from_residual.result ≡ Err (Disk e) = search rules in
    let page = is_there old p c.from.result (c.from.ensures ∙ c.pages.ensures) c.if-p-from.false in
    let some = λ (core : Core) (is : IsEngine d core old c.args.disk.now) (reached : IsReached core).
    let valid = engine_valid d core old c.args.disk.now is reached in
    let dirty = sym (dirty_is core old is.memory p page) ∙ sym c.dirty.ensures ∙ c.if-not-dirty.false in
    dirty_calls core p valid (within core old is.memory p page) dirty in
    rw err (record {
      core = λ core is reached. cut_short core (Flush p) old _ is.memory (some core is reached) refl refl;
      still = λ core is reached no_calls. absurd (omega (arith, no_calls, some core is reached));
      untouched = λ never. absurd (cc never);
      kept = λ never. absurd (cc never);
    })

pub returns-in_err-store-clause-holds : goal.returns-in_err-store-clause-holds
returns-in_err-store-clause-holds g c tells =
    let d = g.D.Disk in
    let old = c.args.self.now in
    let p = c.args.p in
    let e = c.in_err-store.field-0.0 in
    let err : c.from_residual.result ≡ Err (Disk e) = search rules in
    let page = is_there old p c.from.result (c.from.ensures ∙ c.pages.ensures) c.if-p-from.false in
    let dirty = sym c.dirty.ensures ∙ c.if-not-dirty.false in
    rw err (record {
      holds = λ s core is reached disk. tt;
      moments = λ s core is reached disk.
          weaker d.moment d.left_since c.args.disk.now c.store.new.disk _ (IsLeftByStep (cut core (Flush p)) (d.bytes c.args.disk.now))
          (c.store.ensures.moments tells disk.only (log_origin core) core.batches core.pending (behind core old is.memory s _ _ disk) (on_disk core old is.memory s _ _ disk (is.pages tells).frames))
          (λ image left. left_cut core (Flush p) _ image reached.sound (left_by_step core old is.memory s _ _ disk image reached.sound left));
      passes = λ core is reached.
          let valid = engine_valid d core old c.args.disk.now is reached in
          let known = is.pages tells in
          subst (λ (n : ℕ). Passes n (d.passed c.args.disk.now) (d.passed c.store.new.disk) (Err e)) (sym (calls-granted core (Flush p) (flush_granted core p valid (within core old is.memory p page))))
          (flush_passes core old p is.memory page dirty _ _ _ (Err e) known (c.in_err-store.ensures.passes tells known.frames));
    })

pub invariant_of-self : goal.invariant_of-self
invariant_of-self g c =
    let e = c.args.self.now in
    let store = c.store.ensures in
    let size = ap (λ (x : Pages). length x.words) store.pages in
    record {
      owed = e.owed;
      gray = e.gray;
      room = omega (arith, e.room, store.used, store.room);
      spare = store.spare e.reserved e.spare;
      sound = subst (λ (n : ℕ). AreSound e.table n e.reserved e.sealed) (sym size) e.sound;
      sized = size ∙ e.sized;
      few = omega (arith, size, e.few);
      whole = omega (arith, e.whole, ap (λ (of : Plan). 2 * of.pages) store.plan, store.frames);
    }
