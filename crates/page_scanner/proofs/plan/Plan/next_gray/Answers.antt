-- An object is gray where one of the two numbers has a bit.
use Rattle.std.proofs.Common.{◌∙◌, arith}
use Rattle.page_scanner.proofs.Plans.{gray_by_bits}
use Rattle.page_scanner.proofs.plan.Plan.next_gray.Goals as goal

pub returns-in-Some-clause-gray : goal.returns-in-Some-clause-gray
returns-in-Some-clause-gray c k bits low = gray_by_bits c.args.self.now k c.args.gray c.requires.plan bits c.in-Some.found low ∙ c.in-Some.ensures.some

pub returns-in-Some-clause-passed : goal.returns-in-Some-clause-passed
returns-in-Some-clause-passed c k bits i from before =
    gray_by_bits c.args.self.now k c.args.gray c.requires.plan bits i (omega (arith, before, c.in-Some.ensures.low)) ∙ c.in-Some.ensures.first i from before

pub returns-in-None-clause-passed : goal.returns-in-None-clause-passed
returns-in-None-clause-passed c k bits i from before = gray_by_bits c.args.self.now k c.args.gray c.requires.plan bits i before ∙ c.in-None.ensures.none i from
