use Rattle.std.proofs.Common.{◌≡◌, ℕ, ◌-◌, refl, sym, ap, ◌∙◌, arith}
use Rattle.core_laws.proofs.Run.Aborting.{aborting_until, until_last}
use Rattle.session_program.proofs.Idle.{none_more, some_there}
use Rattle.session_program.proofs.parts.has_transaction.Goals as goal

pub loop-s-init : goal.loop-s-init
loop-s-init g c = λ core is. refl

pub loop-s-preserved : goal.loop-s-preserved
loop-s-preserved g c = λ core is. none_more core c.loop-s.s (omega arith) c.active.result (c.active.ensures core is) c.if-active.false (c.loop-s.invariant core is)

pub returns-clause-none : goal.returns-clause-none
returns-clause-none g c core is done =
    let last : 32 ≡ c.loop-s.s - 1 = omega arith in
    sym (until_last core) ∙ ap (λ (n : ℕ). aborting_until n core) last ∙ c.loop-s.invariant core is

pub returns-then-active-clause-some : goal.returns-then-active-clause-some
returns-then-active-clause-some g c core is done = some_there core c.loop-s.s (omega arith) c.active.result (c.active.ensures core is) (omega arith) c.if-active.true
