use Rattle.std.proofs.Common.{rules, length, ap}
use Rattle.log_machine.specs.Runs.{runs}
use Rattle.log_machine.proofs.RunLaws.{left_some, left_none}
use Rattle.log_machine.proofs.runs.RunsIterator.next.Goals as goal

pub returns-in_err-run-clause-steps : goal.returns-in_err-run-clause-steps
returns-in_err-run-clause-steps c =
    let none = left_none (runs c.args.self.now.rec.now) c.args.self.now.given c.in_err-run.ensures.run in
    search (rules, none)

pub returns-clause-steps : goal.returns-clause-steps
returns-clause-steps c = left_some (runs c.args.self.now.rec.now) c.args.self.now.given c.in_ok-run.run' c.in_ok-run.ensures.run

pub returns-clause-goes : goal.returns-clause-goes
returns-clause-goes c =
    let some = left_some (runs c.args.self.now.rec.now) c.args.self.now.given c.in_ok-run.run' c.in_ok-run.ensures.run in
    search (rules, ap length some)
