use Rattle.flip_copy.proofs.FlipLaws.{planned_collects}
use Rattle.flip_laws.specs.Flip.{copies_of}
use Rattle.flip_laws.proofs.Heap.{flip_keeps, flip_underway}
use Rattle.flip_laws.proofs.Roots.{flip_begun, flip_planned}
use Rattle.flip_laws.proofs.flips.flips_keep_heaps.Goals as goal

pub returns : goal.returns
returns c s places words roots t made g us can are stands =
    (planned_collects s words roots (copies_of s words roots) (flip_planned can), flip_underway can, (flip_begun can).gray, flip_keeps us can are stands)
