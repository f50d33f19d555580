use Rattle.std.proofs.Common.{Err, length, sym, ◌∙◌, subst, arith}
use Rattle.heap_core.specs.HeapState.{history_of}
use Rattle.shared_heap.specs.Follows.{Follows}
use Rattle.shared_heap.proofs.FollowsLaws.{follows_itself}
use Rattle.turn_lock.specs.Passes.{mine_of}
use Rattle.turn_lock.specs.Turning.{EachOnce, places, times, total}
use Rattle.thread_play.specs.Worked.{IsWorked}
use Rattle.thread_play.proofs.Sending.{are_workers, labels_at}
use Rattle.thread_play.proofs.Working.{each_back, all_back, worked, nothing_worked}
use Rattle.thread_play.proofs.play.play_together.Goals as goal

pub returns-in-Err-clause-follows : goal.returns-in-Err-clause-follows
returns-in-Err-clause-follows g c = follows_itself c.args.heap

pub returns-in-Err-new-clause-follows : goal.returns-in-Err-new-clause-follows
returns-in-Err-new-clause-follows g c = subst (λ heap. Follows c.args.heap heap) (sym c.in-Err-new.ensures.err) (follows_itself c.args.heap)

pub returns-in-Err-clause-worked : goal.returns-in-Err-clause-worked
returns-in-Err-clause-worked g c = nothing_worked c.args.tries c.args.lines.now (history_of c.args.heap) c.in-Err.e c.requires.tries

pub returns-in-Err-new-clause-worked : goal.returns-in-Err-new-clause-worked
returns-in-Err-new-clause-worked g c =
    subst (λ heap. IsWorked c.args.tries c.args.lines.now (length (history_of c.args.heap)) (history_of heap) (Err c.in-Err-new.e)) (sym c.in-Err-new.ensures.err)
    (nothing_worked c.args.tries c.args.lines.now (history_of c.args.heap) c.in-Err-new.e c.requires.tries)

pub work_by-end-requires-clause-workers : goal.work_by-end-requires-clause-workers
work_by-end-requires-clause-workers g c κs within =
    let made = c.in-Ok.ensures in
    are_workers c.args.tries c.args.lines.now c.in-Ok.workers.items (sym c.in-Ok.workers.ok.0 ∙ made.count) made.workers c.requires.sessions

pub work_by-end-requires-clause-passes : goal.work_by-end-requires-clause-passes
work_by-end-requires-clause-passes g c κs within =
    let made = c.in-Ok-new.ensures in
    record {
      count = sym c.in-Ok-new.passes.ok.0 ∙ made.count;
      each = λ i pass at. let new = made.passes i pass at in record { pass_is = new.0; numbers = new.1; label = new.2 ∙ labels_at i; none = new.4; no_turn = new.5 };
    }

pub close-requires-clause-each : goal.close-requires-clause-each
close-requires-clause-each g c = each_back c.in-Ok-new.shared c.work_by-end.result c.in-Ok.workers.items c.work_by-end.new.passes.items c.work_by-end.ensures

pub close-requires-clause-all : goal.close-requires-clause-all
close-requires-clause-all g c = λ number lt. all_back c.in-Ok-new.shared c.work_by-end.result c.in-Ok.workers.items c.work_by-end.new.passes.items c.work_by-end.ensures number (omega (arith, lt, c.in-Ok-new.ensures.heap.1))

pub returns-in-Ok-new-clause-worked : goal.returns-in-Ok-new-clause-worked
returns-in-Ok-new-clause-worked g c =
    let made = c.in-Ok.ensures in
    let closed = c.close.ensures in
    let passes = c.work_by-end.new.passes.items in
    let history = history_of c.close.result in
    worked c.in-Ok-new.shared c.work_by-end.result c.in-Ok.workers.items passes c.work_by-end.ensures c.args.tries c.args.lines.now (length (history_of c.args.heap)) history
    (sym c.in-Ok.workers.ok.0 ∙ made.count) made.workers closed.stand
    (subst (λ heap. EachOnce (λ k. total (λ p. times k (places (mine_of p))) passes) (length (history_of heap)) (length history)) c.in-Ok-new.ensures.heap.0 closed.once)
