use Rattle.std.proofs.Common.{arith}
use Rattle.heap_embed.proofs.Active.{all_counted}
use Rattle.heap_embed.proofs.state.active.Goals as goal

pub returns : goal.returns
returns c = all_counted c.args.core.now c.loop-s.count c.loop-s.s (omega arith) c.loop-s.invariant
