use Rattle.std.proofs.Common.{not, ◌≡◌, Bool, true, false, refl}
use Rattle.std.specs.Prelude.{IsTrue, IsFalse}
use Rattle.session_program.proofs.Idle.{ending_none, ending_aborts, ending_forces}
use Rattle.session_program.proofs.parts.is_idle.Goals as goal

is_not : (b : Bool) → IsTrue (not b) → IsFalse b
is_not true so = cc
is_not false so = refl

is_so : (b : Bool) → IsFalse (not b) → IsTrue b
is_so true so = refl
is_so false so = cc

clash : (b : Bool) → IsFalse b → IsTrue b → ⊥
clash true so is = cc
clash false so is = cc

pub returns-then-pending-clause-busy : goal.returns-then-pending-clause-busy
returns-then-pending-clause-busy g c core is so = ending_forces core ((c.pending.ensures core is).0 c.if-pending.true)

pub returns-clause-idle : goal.returns-clause-idle
returns-clause-idle g c core is so =
    ending_none core (c.has_transaction.ensures.none core is (is_not c.has_transaction.result so)) (λ some. clash c.pending.result c.if-pending.false ((c.pending.ensures core is).1 some))

pub returns-clause-busy : goal.returns-clause-busy
returns-clause-busy g c core is so = ending_aborts core (c.has_transaction.ensures.some core is (is_so c.has_transaction.result so))
