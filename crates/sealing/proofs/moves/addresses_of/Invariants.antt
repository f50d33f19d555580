use Rattle.std.proofs.Common.{◌≡◌, ◌+◌, map, take}
use Rattle.stability_tracker.specs.Promotion.{need}
use Rattle.graph_words.specs.Promotion.{moves_to}
use Rattle.sealing.proofs.moves.addresses_of.Given as goal

abbrev pub invariant-loop-object : goal.invariant-loop-object
invariant-loop-object l = record {
  so_far : l.addresses.items ≡ map (λ m. m.1) (moves_to l.area (take l.object-index l.objects) l.address);
  next : l.next ≡ l.address + need l.area (take l.object-index l.objects);
}
