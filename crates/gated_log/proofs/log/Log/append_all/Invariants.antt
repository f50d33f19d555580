use Rattle.std.proofs.Common.{take, drop}
use Rattle.gated_log.proofs.Appending.{IsAppending}
use Rattle.gated_log.proofs.log.Log.append_all.Given as goal

abbrev pub invariant-loop-rec : goal.invariant-loop-rec
invariant-loop-rec l = IsAppending l.initial.self l.self (take l.rec-index l.records) (drop l.rec-index l.records)
