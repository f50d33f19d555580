use Rattle.graph_model.specs.declared.event.Event.TheVariants.{Force}
use Rattle.shared_heap.proofs.together.work_together.Goals as goal

pub returns : goal.returns
returns g c = λ i d lt. let w = c.work_all.ensures i d lt in let ready = c.requires i d lt in
    record { worker = w.worker; pass = (w.takes Force (ready.pass, tt)).0; whose_is = w.origin; part = w.part; mine = w.sent; turns = w.asked; played = w.played }
