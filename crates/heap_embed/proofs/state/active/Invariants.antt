use Rattle.heap_embed.proofs.Active.{AreCounted}
use Rattle.heap_embed.proofs.state.active.Given as goal

abbrev pub invariant-loop-s : goal.invariant-loop-s
invariant-loop-s l = AreCounted l.core l.count l.s
