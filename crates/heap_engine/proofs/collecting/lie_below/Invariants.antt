use Rattle.std.proofs.Common.{take}
use Rattle.log_machine.specs.Translation.{translated_list}
use Rattle.heap_engine.specs.Reserve.{WroteBelow}
use Rattle.heap_engine.proofs.collecting.lie_below.Given as goal

abbrev pub invariant-loop-object : goal.invariant-loop-object
invariant-loop-object l = WroteBelow l.end (translated_list l.pairs (take l.object-index l.entries))
