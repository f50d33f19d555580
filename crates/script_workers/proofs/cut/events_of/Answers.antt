use Rattle.std.proofs.Common.{sym, subst, take}
use Rattle.std.specs.List.{AllByRecursion}
use Rattle.script_workers.specs.Workers.{IsFor}
use Rattle.script_workers.proofs.CutLaws.{events_own}
use Rattle.script_workers.proofs.cut.events_of.Goals as goal

pub returns-clause-own : goal.returns-clause-own
returns-clause-own c = subst (AllByRecursion (IsFor c.args.number)) (sym c.loop-line.invariant) (events_own c.args.number (take c.loop-line.line-index c.args.lines.now))
