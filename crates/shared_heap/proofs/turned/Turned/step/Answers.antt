use Rattle.shared_heap.proofs.FollowsLaws.{follows_on}
use Rattle.shared_heap.proofs.turned.Turned.step.Goals as goal

pub returns-then-is_err-clause-follows : goal.returns-then-is_err-clause-follows
returns-then-is_err-clause-follows g c = let e = c.step-answer.ensures in λ first f.
    follows_on first c.args.self.now.heap c.step-answer.new.self c.args.event c.requires c.step-answer.result e.disk e.recorded e.core e.kept e.untouched e.holds e.moments e.passes f

pub returns-else-is_err-clause-follows : goal.returns-else-is_err-clause-follows
returns-else-is_err-clause-follows g c = let e = c.step-answer.ensures in λ first f.
    follows_on first c.args.self.now.heap c.step-answer.new.self c.args.event c.requires c.step-answer.result e.disk e.recorded e.core e.kept e.untouched e.holds e.moments e.passes f
