use Rattle.std.proofs.Common.{◌≡◌, ◌++◌, map, drop, zip}
use Rattle.graph_words.specs.Promotion.{base_of}
use Rattle.sealing.proofs.records.bases.Given as goal

abbrev pub invariant-loop-i : goal.invariant-loop-i
invariant-loop-i l =
    let moves = zip l.objects l.addresses in
    l.records.items ++ map (base_of l.area moves) (zip (drop l.i l.objects) (drop l.i l.addresses)) ≡ map (base_of l.area moves) moves
