use Rattle.std.specs.Prelude.{◌⊎◌, ◌<◌, ◌≤◌}
use Rattle.heap_engine.specs.EngineState.{memory}
use Rattle.heap_core.specs.Ending.{IsReady, entries_kept}
use Rattle.std.proofs.Common.{ℕ, arith, ◌+◌, List, Result, Err, [], ◌∷◌, ◌++◌, length, refl, sym, ap, ◌∙◌, subst}
use Rattle.disk_model.specs.Keeps.{KeepsDisk}
use Rattle.disk_model.specs.declared.disk.DiskError.{DiskError}
use Rattle.gate_slot.specs.Passing.{Passes}
use Rattle.graph_model.specs.declared.reply.Entry.{Entry}
use Rattle.graph_model.specs.declared.reply.Refusal.TheVariants.{Failed}
use Rattle.graph_model.specs.declared.reply.Reply.{Reply}
use Rattle.graph_model.specs.declared.reply.Reply.TheVariants.{Refused}
use Rattle.heap_model.specs.Core.{calls, cut}
use Rattle.heap_model.proofs.Run.Calls.{same_step}
use Rattle.memory_laws.proofs.Kept.Log.{some_waits}
use Rattle.heap_core.proofs.Collects.{collects_as_told}
use Rattle.heap_core.proofs.CrashLaws.{heap_left}
use Rattle.heap_core.proofs.Ends.{ends_as_told}
use Rattle.heap_core.specs.HeapState.{entry_of}
use Rattle.heap_core.proofs.StepCore.{remembers, whole_steps, cut_steps, failed_steps, with_history, whole_on, cut_on, failed_on, failed_passes}
use Rattle.heap_engine.specs.declared.step_error.StepError.{StepError}
use Rattle.heap_engine.specs.Refinement.{IsLeftByStep, CameTo}
use Rattle.heap_engine.specs.StepResult.{engine_device, StepPasses}
use Rattle.heap_engine.proofs.DeviceCalls.{stays}
use Rattle.heap_engine.proofs.EventCore.{left_cut}
use Rattle.heap_core.proofs.KeptEntries.{room_one, room_left, room_lacking}
use Rattle.heap_core.proofs.in_memory.HeapCore.step_on.Goals as goal

pub returns-in_err-make_room-clause-moments : goal.returns-in_err-make_room-clause-moments
returns-in_err-make_room-clause-moments g c tells s core heap reached =
    let d = g.E.Disk in
    let disk = c.args.disk.now in
    stays d.moment d.left_since disk (d.may_leave disk) (IsLeftByStep (cut core c.args.event) (d.bytes disk)) (g.met.E.Disk.only_now tells disk)
    (λ image left. left_cut core c.args.event _ image reached.sound (heap_left s core _ _ heap.disk reached.sound image left))

-- The heap had failed.

pub returns-in-Some-clause-core : goal.returns-in-Some-clause-core
returns-in-Some-clause-core g c core heap reached =
    let steps = failed_steps g.E.Disk core c.args.event c.in-Some.failure c.args.self.now.engine c.args.disk.now c.args.self.now.failed heap.memory c.in-Some.is in
    rw c.entered.ensures.reply (
      steps.next,
      steps.step,
      record {
        history = with_history g.E.Disk core c.args.event (Refused (Failed c.in-Some.failure.entry)) _ _ _ c.args.self.now.history.entries _ heap.history (c.entered.ensures.entries ∙ ap (λ (l : List Entry). l ++ record { event = c.args.event; reply = (Refused (Failed c.in-Some.failure.entry)) } ∷ []) c.reserve.ensures.same) steps;
        before = heap.before ∙ sym (same_step core steps.next c.args.event (Refused (Failed c.in-Some.failure.entry)) steps.step).before;
        memory = steps.memory;
        engine = steps.engine;
      },
    )

pub returns-in-Some-clause-collects : goal.returns-in-Some-clause-collects
returns-in-Some-clause-collects g c core heap reached =
    let made = returns-in-Some-clause-core g c core heap reached in
    collects_as_told core made.0 c.args.event _ reached made.1

pub returns-in-Some-clause-ends : goal.returns-in-Some-clause-ends
returns-in-Some-clause-ends g c core heap reached end =
    let made = returns-in-Some-clause-core g c core heap reached in
    ends_as_told core made.0 c.args.event _ reached end made.1

pub returns-in-Some-clause-holds : goal.returns-in-Some-clause-holds
returns-in-Some-clause-holds g c tells s core heap reached =
    let steps = failed_steps g.E.Disk core c.args.event c.in-Some.failure c.args.self.now.engine c.args.disk.now c.args.self.now.failed heap.core.memory c.in-Some.is in
    rw c.entered.ensures.reply (
      steps.next,
      steps.step,
      record {
        core = record {
          history = with_history g.E.Disk core c.args.event (Refused (Failed c.in-Some.failure.entry)) _ _ _ c.args.self.now.history.entries _ heap.core.history (c.entered.ensures.entries ∙ ap (λ (l : List Entry). l ++ record { event = c.args.event; reply = (Refused (Failed c.in-Some.failure.entry)) } ∷ []) c.reserve.ensures.same) steps;
          before = heap.core.before ∙ sym (same_step core steps.next c.args.event (Refused (Failed c.in-Some.failure.entry)) steps.step).before;
          memory = steps.memory;
          engine = steps.engine;
        };
        disk = failed_on s core steps.next c.args.event _ c.in-Some.failure.entry _ _ (sym heap.core.memory.failure ∙ ap entry_of c.in-Some.is) heap.disk steps.step;
      },
    )

pub returns-in-Some-clause-moments : goal.returns-in-Some-clause-moments
returns-in-Some-clause-moments g c tells s core heap reached =
    let d = g.E.Disk in
    let disk = c.args.disk.now in
    stays d.moment d.left_since disk (d.may_leave disk) (IsLeftByStep (cut core c.args.event) (d.bytes disk)) (g.met.E.Disk.only_now tells disk)
    (λ image left. left_cut core c.args.event _ image reached.sound (heap_left s core _ _ heap.disk reached.sound image left))

pub returns-in-Some-clause-passes : goal.returns-in-Some-clause-passes
returns-in-Some-clause-passes g c tells core heap reached =
    failed_passes core c.args.event c.in-Some.failure.entry (g.E.Disk.passed c.args.disk.now) c.entered.result (sym heap.memory.failure ∙ ap entry_of c.in-Some.is)

-- The engine made the event.

pub returns-in-Ok-clause-core : goal.returns-in-Ok-clause-core
returns-in-Ok-clause-core g c core heap reached =
    let none = c.in_default.is in
    let came = c.in-Ok.ensures.core.core core (heap.engine none) reached in
    let steps = whole_steps g.E.Disk core c.args.event c.in-Ok.reply c.step_on.new.self c.step_on.new.disk c.args.self.now.failed none came.0 came.1 in
    rw c.entered-in-Ok.ensures.reply (
      steps.next,
      steps.step,
      record {
        history = with_history g.E.Disk core c.args.event c.in-Ok.reply _ _ _ c.args.self.now.history.entries _ heap.history (c.entered-in-Ok.ensures.entries ∙ ap (λ (l : List Entry). l ++ record { event = c.args.event; reply = c.in-Ok.reply } ∷ []) c.make_room.ensures.same) steps;
        before = heap.before ∙ sym (same_step core steps.next c.args.event c.in-Ok.reply steps.step).before;
        memory = steps.memory;
        engine = steps.engine;
      },
    )

pub returns-in-Ok-clause-collects : goal.returns-in-Ok-clause-collects
returns-in-Ok-clause-collects g c core heap reached =
    let made = returns-in-Ok-clause-core g c core heap reached in
    collects_as_told core made.0 c.args.event _ reached made.1

pub returns-in-Ok-clause-ends : goal.returns-in-Ok-clause-ends
returns-in-Ok-clause-ends g c core heap reached end =
    let made = returns-in-Ok-clause-core g c core heap reached in
    ends_as_told core made.0 c.args.event _ reached end made.1

pub returns-in-Ok-clause-holds : goal.returns-in-Ok-clause-holds
returns-in-Ok-clause-holds g c tells s core heap reached =
    let none = c.in_default.is in
    let came = c.in-Ok.ensures.core.core core (heap.core.engine none) reached in
    let steps = whole_steps g.E.Disk core c.args.event c.in-Ok.reply c.step_on.new.self c.step_on.new.disk c.args.self.now.failed none came.0 came.1 in
    rw c.entered-in-Ok.ensures.reply (
      steps.next,
      steps.step,
      record {
        core = record {
          history = with_history g.E.Disk core c.args.event c.in-Ok.reply _ _ _ c.args.self.now.history.entries _ heap.core.history (c.entered-in-Ok.ensures.entries ∙ ap (λ (l : List Entry). l ++ record { event = c.args.event; reply = c.in-Ok.reply } ∷ []) c.make_room.ensures.same) steps;
          before = heap.core.before ∙ sym (same_step core steps.next c.args.event c.in-Ok.reply steps.step).before;
          memory = steps.memory;
          engine = steps.engine;
        };
        disk = whole_on s core c.args.event _ _ came.1.unfailed heap.disk.born ((c.in-Ok.ensures.holds tells).holds s core (heap.core.engine none) reached (heap.disk.unfailed (heap.core.engine none).unfailed));
      },
    )

pub returns-in-Ok-clause-disk : goal.returns-in-Ok-clause-disk
returns-in-Ok-clause-disk g c =
    let P : Result (Unit {0}) DiskError → Type 0 = λ r. KeepsDisk g.E.Disk c.args.disk.now c.step_on.new.disk r in
    rw c.entered-in-Ok.ensures.reply (subst P (sym c.in-Ok.ensures.answered) c.in-Ok.ensures.disk)

pub returns-in-Ok-clause-moments : goal.returns-in-Ok-clause-moments
returns-in-Ok-clause-moments g c tells s core heap reached =
    let engine = heap.core.engine c.in_default.is in
    (c.step_on.ensures.holds tells).moments s core engine reached (heap.disk.unfailed engine.unfailed)

pub returns-in-Ok-clause-passes : goal.returns-in-Ok-clause-passes
returns-in-Ok-clause-passes g c tells core heap reached =
    let passed = g.E.Disk.passed in
    let P : Result (Unit {0}) DiskError → Type 0 = λ r. Passes (calls core c.args.event) (passed c.args.disk.now) (passed c.step_on.new.disk) r in
    rw c.entered-in-Ok.ensures.reply (subst P (sym c.in-Ok.ensures.answered) ((c.in-Ok.ensures.holds tells).passes core (heap.engine c.in_default.is) reached))

pub returns-in-Ok-clause-still : goal.returns-in-Ok-clause-still
returns-in-Ok-clause-still g c core heap reached no_calls = c.step_on.ensures.core.still core (heap.engine c.in_default.is) reached no_calls

-- It ran out of memory.

pub returns-in-Err-NoMemory-clause-disk : goal.returns-in-Err-NoMemory-clause-disk
returns-in-Err-NoMemory-clause-disk g c =
    let P : Result Reply StepError → Type 0 = λ r. KeepsDisk g.E.Disk c.args.disk.now c.step_on.new.disk (engine_device r) in
    subst P (c.in-Err-NoMemory.is ∙ ap Err c.in-Err-NoMemory.field-0-is) c.step_on.ensures.disk

pub returns-in-Err-NoMemory-clause-kept : goal.returns-in-Err-NoMemory-clause-kept
returns-in-Err-NoMemory-clause-kept g c core heap =
    let none = c.in_default.is in
    let is = c.step_on.ensures.core.kept (c.in-Err-NoMemory.is ∙ ap Err c.in-Err-NoMemory.field-0-is) core (heap.engine none) in
    record { history = c.make_room.ensures.same ∙ heap.history; before = heap.before; memory = remembers g.E.Disk core c.step_on.new.self c.step_on.new.disk c.args.self.now.failed none is; engine = λ still. is }

pub returns-in-Err-NoMemory-clause-untouched : goal.returns-in-Err-NoMemory-clause-untouched
returns-in-Err-NoMemory-clause-untouched g c = c.step_on.ensures.core.untouched (c.in-Err-NoMemory.is ∙ ap Err c.in-Err-NoMemory.field-0-is)

pub returns-in-Err-NoMemory-clause-moments : goal.returns-in-Err-NoMemory-clause-moments
returns-in-Err-NoMemory-clause-moments g c tells s core heap reached =
    let engine = heap.core.engine c.in_default.is in
    (c.step_on.ensures.holds tells).moments s core engine reached (heap.disk.unfailed engine.unfailed)

pub returns-in-Err-NoMemory-clause-still : goal.returns-in-Err-NoMemory-clause-still
returns-in-Err-NoMemory-clause-still g c core heap reached no_calls = c.step_on.ensures.core.still core (heap.engine c.in_default.is) reached no_calls

-- The disk cut it short.

pub returns-in-Err-Disk-clause-core : goal.returns-in-Err-Disk-clause-core
returns-in-Err-Disk-clause-core g c core heap reached =
    let engine = heap.engine c.in_default.is in
    let err = c.in-Err-Disk.is ∙ ap Err c.in-Err-Disk.field-0-is in
    let P : Result Reply StepError → Type 0 = λ r. CameTo g.E.Disk core c.args.event c.step_on.new.self c.step_on.new.disk r in
    let came = subst P err (c.step_on.ensures.core.core core engine reached) in
    let known = some_waits _ core.batches core.pending engine.memory.log in
    let steps = cut_steps g.E.Disk core c.args.event c.cut_short.result c.step_on.new.self c.step_on.new.disk c.len.result c.pending-pending.result _ engine.unfailed came c.cut_short.ensures.told
    (c.len.ensures.value ∙ ap (λ (l : List Entry). length l) (c.make_room.ensures.same ∙ heap.history)) refl (λ yes. known.0 (sym c.pending-pending.ensures ∙ yes), λ some. c.pending-pending.ensures ∙ known.1 some) in
    rw c.entered-in-Err-Disk.ensures.reply (
      steps.next,
      steps.step,
      record {
        history = with_history g.E.Disk core c.args.event c.cut_short.result _ _ _ c.args.self.now.history.entries _ heap.history (c.entered-in-Err-Disk.ensures.entries ∙ ap (λ (l : List Entry). l ++ record { event = c.args.event; reply = c.cut_short.result } ∷ []) c.make_room.ensures.same) steps;
        before = heap.before ∙ sym (same_step core steps.next c.args.event c.cut_short.result steps.step).before;
        memory = steps.memory;
        engine = steps.engine;
      },
    )

pub returns-in-Err-Disk-clause-collects : goal.returns-in-Err-Disk-clause-collects
returns-in-Err-Disk-clause-collects g c core heap reached =
    let made = returns-in-Err-Disk-clause-core g c core heap reached in
    collects_as_told core made.0 c.args.event _ reached made.1

pub returns-in-Err-Disk-clause-ends : goal.returns-in-Err-Disk-clause-ends
returns-in-Err-Disk-clause-ends g c core heap reached end =
    let made = returns-in-Err-Disk-clause-core g c core heap reached in
    ends_as_told core made.0 c.args.event _ reached end made.1

pub returns-in-Err-Disk-clause-holds : goal.returns-in-Err-Disk-clause-holds
returns-in-Err-Disk-clause-holds g c tells s core heap reached =
    let engine = heap.core.engine c.in_default.is in
    let err = c.in-Err-Disk.is ∙ ap Err c.in-Err-Disk.field-0-is in
    let P : Result Reply StepError → Type 0 = λ r. CameTo g.E.Disk core c.args.event c.step_on.new.self c.step_on.new.disk r in
    let came = subst P err (c.step_on.ensures.core.core core engine reached) in
    let known = some_waits _ core.batches core.pending engine.memory.log in
    let steps = cut_steps g.E.Disk core c.args.event c.cut_short.result c.step_on.new.self c.step_on.new.disk c.len.result c.pending-pending.result _ engine.unfailed came c.cut_short.ensures.told
    (c.len.ensures.value ∙ ap (λ (l : List Entry). length l) (c.make_room.ensures.same ∙ heap.core.history)) refl (λ yes. known.0 (sym c.pending-pending.ensures ∙ yes), λ some. c.pending-pending.ensures ∙ known.1 some) in
    rw c.entered-in-Err-Disk.ensures.reply (
      steps.next,
      steps.step,
      record {
        core = record {
          history = with_history g.E.Disk core c.args.event c.cut_short.result _ _ _ c.args.self.now.history.entries _ heap.core.history (c.entered-in-Err-Disk.ensures.entries ∙ ap (λ (l : List Entry). l ++ record { event = c.args.event; reply = c.cut_short.result } ∷ []) c.make_room.ensures.same) steps;
          before = heap.core.before ∙ sym (same_step core steps.next c.args.event c.cut_short.result steps.step).before;
          memory = steps.memory;
          engine = steps.engine;
        };
        disk =
            let run = (c.step_on.ensures.holds tells).moments s core engine reached (heap.disk.unfailed engine.unfailed) in
            cut_on s core c.args.event c.cut_short.result _ _ _ (c.len.result + 1) heap.disk.born came.some c.cut_short.ensures.told steps.memory.failure
            (g.met.E.Disk.reads_an_image tells c.step_on.new.disk) (λ image left. run.each image (g.met.E.Disk.counts_now tells c.step_on.new.disk _ image run.later left));
      },
    )

pub returns-in-Err-Disk-clause-disk : goal.returns-in-Err-Disk-clause-disk
returns-in-Err-Disk-clause-disk g c =
    let P : Result Reply StepError → Type 0 = λ r. KeepsDisk g.E.Disk c.args.disk.now c.step_on.new.disk (engine_device r) in
    let Q : Result (Unit {0}) DiskError → Type 0 = λ r. KeepsDisk g.E.Disk c.args.disk.now c.step_on.new.disk r in
    rw c.entered-in-Err-Disk.ensures.reply (subst Q (sym c.cut_short.ensures.device) (subst P (c.in-Err-Disk.is ∙ ap Err c.in-Err-Disk.field-0-is) c.step_on.ensures.disk))

pub returns-in-Err-Disk-clause-moments : goal.returns-in-Err-Disk-clause-moments
returns-in-Err-Disk-clause-moments g c tells s core heap reached =
    let engine = heap.core.engine c.in_default.is in
    (c.step_on.ensures.holds tells).moments s core engine reached (heap.disk.unfailed engine.unfailed)

pub returns-in-Err-Disk-clause-passes : goal.returns-in-Err-Disk-clause-passes
returns-in-Err-Disk-clause-passes g c tells core heap reached =
    let passed = g.E.Disk.passed in
    let P : Result Reply StepError → Type 0 = λ r. StepPasses (calls core c.args.event) (passed c.args.disk.now) (passed c.step_on.new.disk) r in
    let Q : Result (Unit {0}) DiskError → Type 0 = λ r. Passes (calls core c.args.event) (passed c.args.disk.now) (passed c.step_on.new.disk) r in
    rw c.entered-in-Err-Disk.ensures.reply
    (subst Q (sym c.cut_short.ensures.device) (subst P (c.in-Err-Disk.is ∙ ap Err c.in-Err-Disk.field-0-is) ((c.step_on.ensures.holds tells).passes core (heap.engine c.in_default.is) reached)))

pub returns-in-Err-Disk-clause-still : goal.returns-in-Err-Disk-clause-still
returns-in-Err-Disk-clause-still g c core heap reached no_calls = c.step_on.ensures.core.still core (heap.engine c.in_default.is) reached no_calls

-- The room for entries.

pub entered-requires-in-Err-Disk : goal.entered-requires-in-Err-Disk
entered-requires-in-Err-Disk g c =
    let heap = c.args.self.now in
    room_one heap.engine heap.history.entries c.args.event c.make_room.new.history.room (omega (arith, heap.kept c.in_default.is, c.make_room.ensures.kept)) c.in_ok-make_room.ensures.room

pub entered-requires-in-Ok : goal.entered-requires-in-Ok
entered-requires-in-Ok g c =
    let heap = c.args.self.now in
    room_one heap.engine heap.history.entries c.args.event c.make_room.new.history.room (omega (arith, heap.kept c.in_default.is, c.make_room.ensures.kept)) c.in_ok-make_room.ensures.room

pub invariant_of-self-in-Ok-clause-kept : goal.invariant_of-self-in-Ok-clause-kept
invariant_of-self-in-Ok-clause-kept g c still =
    let heap = c.args.self.now in
    let made = c.make_room.new.history in
    let now = c.entered-in-Ok.new.history in
    let room = subst (λ (n : ℕ). (65 < n) ⊎ IsReady (memory heap.engine) heap.history.entries c.args.event) (sym c.entered-in-Ok.ensures.room) c.in_ok-make_room.ensures.room in
    let all = room_left heap.engine (memory c.step_on.new.self) heap.history.entries c.args.event c.in-Ok.reply now.room (omega (arith, heap.kept still, c.make_room.ensures.kept, c.entered-in-Ok.ensures.room)) room c.in-Ok.ensures.ends in
    let entries = c.entered-in-Ok.ensures.entries ∙ ap (λ (l : List Entry). l ++ record { event = c.args.event; reply = c.in-Ok.reply } ∷ []) c.make_room.ensures.same in
    subst (λ (l : List Entry). entries_kept (memory c.step_on.new.self) l ≤ now.room) (sym entries) all

pub invariant_of-self-in-Err-NoMemory-clause-kept : goal.invariant_of-self-in-Err-NoMemory-clause-kept
invariant_of-self-in-Err-NoMemory-clause-kept g c still =
    let heap = c.args.self.now in
    let made = c.make_room.new.history in
    let all = room_lacking (memory heap.engine) (memory c.step_on.new.self) heap.history.entries c.args.event made.room
    (λ needs. c.step_on.ensures.memory needs (c.in-Err-NoMemory.is ∙ ap Err c.in-Err-NoMemory.field-0-is)) c.in_ok-make_room.ensures.room in
    subst (λ (l : List Entry). entries_kept (memory c.step_on.new.self) l ≤ made.room) (sym c.make_room.ensures.same) all
