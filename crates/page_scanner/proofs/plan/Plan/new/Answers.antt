-- An empty plan tells nothing.
use Rattle.std.proofs.Common.{refl}
use Rattle.page_scanner.proofs.Plans.{plan_none}
use Rattle.page_scanner.proofs.plan.Plan.new.Goals as goal

pub returns-clause-plan : goal.returns-clause-plan
returns-clause-plan c = plan_none _ c.new.ensures.items c.new-2.ensures.items refl c.new-4.ensures refl refl
