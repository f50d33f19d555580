use Rattle.std.proofs.Common.{◌≡◌, take}
use Rattle.script_workers.specs.Workers.{worker_events}
use Rattle.script_workers.proofs.cut.events_of.Given as goal

abbrev pub invariant-loop-line : goal.invariant-loop-line
invariant-loop-line l = l.events.items ≡ worker_events l.fn.number (take l.line-index l.lines)
