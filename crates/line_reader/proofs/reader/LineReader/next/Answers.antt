use Rattle.std.proofs.Common.{Bool, sym, subst, arith, take, drop, ◌+◌, ◌++◌, ◌∙◌}
use Rattle.std.specs.Prelude.{IfOk}
use Rattle.line_reader.specs.Taking.{HasLine, Holding, IsWithinLine, Takes}
use Rattle.line_reader.proofs.Cuts.{not_within, line_result}
use Rattle.line_reader.proofs.reader.LineReader.next.Goals as goal

pub returns-in_err-refill-clause-held : goal.returns-in_err-refill-clause-held
returns-in_err-refill-clause-held g c has =
    let same = (c.loop-self.invariant.held has).1 in
    absurd (not_within _ (subst (λ (h : Holding). HasLine h.held) (sym same) has) (c.needs_more.ensures.0 c.loop-self-test.true).1)

pub returns-then-not-branch-clause-held : goal.returns-then-not-branch-clause-held
returns-then-not-branch-clause-held g c has =
    let same = (c.loop-self.invariant.held has).1 in
    absurd (not_within _ (subst (λ (h : Holding). HasLine h.held) (sym same) has) (c.needs_more.ensures.0 c.loop-self-test.true).1)

-- the source is asked where no whole line is held
pub returns-in_err-refill-clause-waits : goal.returns-in_err-refill-clause-waits
returns-in_err-refill-clause-waits g c failed = subst IsWithinLine (sym c.in_err-refill.ensures.same) (c.needs_more.ensures.0 c.loop-self-test.true).1

pub returns-then-not-branch-clause-waits : goal.returns-then-not-branch-clause-waits
returns-then-not-branch-clause-waits g c failed = absurd (c.take_rest.ensures.cause failed)

pub returns-in-Some-clause-waits : goal.returns-in-Some-clause-waits
returns-in-Some-clause-waits g c failed = absurd (c.take_line.ensures.cause failed)

pub loop-self-preserved : goal.loop-self-preserved
loop-self-preserved g c = record {
  stream = λ tells. c.in_ok-refill.ensures.moved tells ∙ c.loop-self.invariant.stream tells;
  passing = c.in_ok-refill.ensures.passing ∙ c.loop-self.invariant.passing;
  held = λ has.
      let same = (c.loop-self.invariant.held has).1 in
      absurd (not_within _ (subst (λ (h : Holding). HasLine h.held) (sym same) has) (c.needs_more.ensures.0 c.loop-self-test.true).1);
  kept = omega (arith, c.loop-self.invariant.kept, c.in_ok-refill.ensures.kept);
}

pub returns-in-Some-clause-takes : goal.returns-in-Some-clause-takes
returns-in-Some-clause-takes g c tells =
    let i = c.loop-self.invariant in
    let found = c.in-Some.ensures.found in
    let e = c.take_line.ensures in
    let left = g.S.Source.left c.loop-self.source in
    let P : Bool → Type 0 = λ p. IfOk c.take_line.result (λ taken. Takes taken p (c.args.self.now.held ++ g.S.Source.left c.args.source.now) c.take_line.new.self.passing (c.take_line.new.self.held ++ left)) in
    subst P i.passing
    (line_result c.take_line.result (take c.in-Some.end c.loop-self.self.held) c.loop-self.self.held c.take_line.new.self.held left c.loop-self.self.passing c.take_line.new.self.passing found.1
    (drop (c.in-Some.end + 1) c.loop-self.self.held) found.2 e.taken e.rest e.done (c.args.self.now.held ++ g.S.Source.left c.args.source.now) (i.stream tells))
