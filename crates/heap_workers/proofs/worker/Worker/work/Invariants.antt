use Rattle.std.proofs.Common.{◌≡◌, ◌+◌, ◌++◌, List, drop, length}
use Rattle.graph_model.specs.declared.event.Event.{Event}
use Rattle.graph_model.specs.declared.reply.Entry.{Entry}
use Rattle.heap_workers.specs.Playing.{Played}
use Rattle.heap_workers.proofs.worker.Worker.work.Given as goal

abbrev pub invariant-loop-place : goal.invariant-loop-place
invariant-loop-place g l = record {
  sent : (part : List Entry) × (g.C.HeapCalls.sent l.calls ≡ g.C.HeapCalls.sent l.fn.calls ++ part)
      × (g.C.HeapCalls.asked l.calls ≡ g.C.HeapCalls.asked l.fn.calls + length part)
      × ((more : List Entry) → Played l.self.tries (drop l.place l.self.events.items) more → Played l.self.tries l.self.events.items (part ++ more));
  takes : (e : Event) → g.C.HeapCalls.takes l.fn.calls e → g.C.HeapCalls.takes l.calls e;
  origin : g.C.HeapCalls.origin l.calls ≡ g.C.HeapCalls.origin l.fn.calls;
}
