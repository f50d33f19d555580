use Rattle.std.proofs.Common.{◌≡◌, sym, ap, ◌∙◌}
use Rattle.std.proofs.lemmas.Option.{same_Some}
use Rattle.log_machine.specs.Machine.{State, settled, spaces_of}
use Rattle.heap_model.proofs.Opening.Rolled.{rolled_reached}
use Rattle.heap_theorems.proofs.images.openings_leave_collections.Goals as goal

pub returns : goal.returns
returns c stored shaped n is =
    let same : n ≡ settled shaped.state = same_Some n (settled shaped.state) (sym is ∙ rolled_reached stored shaped) in
    (ap spaces_of same, ap (λ (x : State). x.collection) same)
