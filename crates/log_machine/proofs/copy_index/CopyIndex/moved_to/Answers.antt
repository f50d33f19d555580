use Rattle.std.proofs.Common.{sym}
use Rattle.log_machine.proofs.IndexLaws.{copy_inside}
use Rattle.log_machine.proofs.FlipLaws.{went, stayed}
use Rattle.log_machine.proofs.copy_index.CopyIndex.moved_to.Goals as goal

pub returns-in-Some-clause-to : goal.returns-in-Some-clause-to
returns-in-Some-clause-to c = sym (went c.args.self.now.copies.now c.args.from c.in-Some.copy.now (sym c.in-Some.ensures))

pub returns-in-Some-clause-inside : goal.returns-in-Some-clause-inside
returns-in-Some-clause-inside c small = copy_inside c.args.self.now.copies.now c.args.from c.in-Some.copy.now c.args.self.now.inside (sym c.in-Some.ensures)

pub returns-in-None-clause-to : goal.returns-in-None-clause-to
returns-in-None-clause-to c = sym (stayed c.args.self.now.copies.now c.args.from (sym c.in-None.ensures))
