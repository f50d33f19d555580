use Rattle.std.proofs.Common.{rules, ap, ◌∙◌, refl}
use Rattle.heap_embed.specs.declared.open_heap.OpenHeap.{OpenHeap}
use Rattle.heap_embed.proofs.Answering.{same_heap}
use Rattle.heap_embed.proofs.state.State.close.Goals as goal

pub returns-in-Open-clause-closed : goal.returns-in-Open-clause-closed
returns-in-Open-clause-closed c heap is = (refl, c.close.ensures ∙ ap (λ (h : OpenHeap). h.disk) (same_heap c.in-Open.heap heap c.args.self.now (search rules) is))
