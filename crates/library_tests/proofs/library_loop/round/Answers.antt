use Rattle.std.proofs.Common.{◌≡◌, ◌∙◌, List, take, ap, subst, arith}
use Rattle.std.proofs.lemmas.List.{take_all}
use Rattle.graph_model.specs.declared.event.Event.{Event}
use Rattle.heap_core.proofs.CrashLaws.{heap_keeps}
use Rattle.heap_core.specs.HeapState.{heap_disk}
use Rattle.library_tests.proofs.Going.{KeepsCounts, HasGone}
use Rattle.library_tests.proofs.RoundLaws.{legal_of, found_of, core_of, going_opened, of_session_at, gone_on, round_ends, counts_then, counts_of}
use Rattle.library_tests.proofs.library_loop.round.Goals as goal

pub loop-event-init : goal.loop-event-init
loop-event-init g c = (
  counts_of _ _ _ c.in-Ok.ensures.image.disk,
  λ tells only gr k stands.
      let found = found_of stands in
      record {
        super = stands.stored.super;
        core = core_of stands;
        going = going_opened _ stands;
        is = c.in-Ok.ensures.holds tells stands.stored (legal_of stands) only found.0 found.1 found.2;
      },
)

pub loop-event-preserved : goal.loop-event-preserved
loop-event-preserved g c =
    let so_far = c.loop-event.invariant in
    let one = c.in_ok-step.ensures.disk in (
      counts_then _ _ _ so_far.0 (counts_of _ _ _ one),
      λ tells only gr k stands.
          let gone = so_far.1 tells only gr k stands in
          gone_on c.args.events.now c.loop-event.event-index _ c.args.disk c.loop-event.heap c.step.new.self _ c.loop-event-test.true c.requires gone so_far.0 one
          (c.in_ok-step.ensures.holds tells gone.super gone.core gone.is gone.going.reached),
    )

pub step-requires : goal.step-requires
step-requires g c = of_session_at c.args.events.now c.loop-event.event-index _ c.loop-event-test.true c.requires

pub returns : goal.returns
returns g c tells only gr k stands =
    let d = g.D.Disk in
    let heap = c.loop-event.heap in
    let gone = c.loop-event.invariant.1 tells only gr k stands in
    let events = c.args.events.now in
    let all : take c.loop-event.event-index events ≡ events = take_all c.loop-event.event-index events (omega arith) in
    let left = subst (λ (x : _). d.may_leave x (d.bytes c.restart.new.self)) c.close-disk.ensures (c.restart.ensures.left tells) in
    let faults : d.faults c.restart.new.self ≡ d.faults (heap_disk heap) = c.restart.ensures.faults ∙ ap d.faults c.close-disk.ensures in
    let stops : d.stops c.restart.new.self ≡ d.stops (heap_disk heap) = c.restart.ensures.stops ∙ ap d.stops c.close-disk.ensures in
    let since : KeepsCounts d (heap_disk heap) c.restart.new.self = record { faults = omega (arith, faults); stops = omega (arith, stops) } in
    let whole = subst (λ (es : List Event). HasGone gr k es c.args.disk heap) all gone in
    let keeps = heap_keeps whole.super whole.core _ _ whole.is.disk whole.going.reached.sound (d.bytes c.restart.new.self) left in
    let ends = round_ends c.args.disk heap c.restart.new.self whole since keeps in
    (c.restart.ensures.durable tells, ends.0, ends.1, ends.2, ends.3)
