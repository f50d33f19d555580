use Rattle.std.proofs.Common.{rules}
use Rattle.slow_heap.proofs.Called.{call_answered}
use Rattle.slow_heap.proofs.Kept.{kept_called_by}
use Rattle.slow_heap.proofs.slow_heap.SlowHeap.call.Goals as goal

pub invariant_of-self-2 : goal.invariant_of-self-2
invariant_of-self-2 c =
    kept_called_by c.self.inside.history.items _ _ c.self.inside.next c.session-s.result c.self.inside.active c.insert.new.self c.self.inside.states.items c.in-Some.transaction.now c.in_ok-next.next _ _ c.args.event
    c.in_ok-view.view c.call.new.self c.in_ok-reply.reply
    c.self.invariant c.session-s.ensures c.in-Some.ensures.value c.in_ok-next.ensures c.in_ok-reply.ensures c.in_ok-insert.ensures.updates c.in_ok-reserve.ensures.items c.push_reserved.ensures.items

pub returns-clause-reply : goal.returns-clause-reply
returns-clause-reply c = search (rules, call_answered)
