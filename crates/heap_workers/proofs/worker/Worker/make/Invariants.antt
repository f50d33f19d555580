use Rattle.std.proofs.Common.{◌≡◌, ◌+◌, ◌<◌, ◌++◌, List, length}
use Rattle.std.specs.List.{AllByRecursion}
use Rattle.graph_model.specs.declared.event.Event.{Event}
use Rattle.graph_model.specs.declared.reply.Entry.{Entry}
use Rattle.graph_model.specs.History.{session_of}
use Rattle.heap_workers.specs.Playing.{IsBusyTo}
use Rattle.heap_workers.proofs.worker.Worker.make.Given as goal

abbrev pub invariant-loop : goal.invariant-loop
invariant-loop g l = record {
  sent : (busy : List Entry) × (g.C.HeapCalls.sent l.calls ≡ g.C.HeapCalls.sent l.fn.calls ++ busy) × AllByRecursion (IsBusyTo l.fn.event) busy × (length busy ≡ l.counter);
  asked : g.C.HeapCalls.asked l.calls ≡ g.C.HeapCalls.asked l.fn.calls + l.counter;
  session : 0 < l.counter → 0 < session_of l.fn.event;
  takes : (e : Event) → g.C.HeapCalls.takes l.fn.calls e → g.C.HeapCalls.takes l.calls e;
  origin : g.C.HeapCalls.origin l.calls ≡ g.C.HeapCalls.origin l.fn.calls;
}
