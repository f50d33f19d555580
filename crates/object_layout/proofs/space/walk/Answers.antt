-- The objects break off where they were found to.
use Rattle.std.proofs.Common.{◌≡◌, ℕ, Result, Ok, Err, refl, ap}
use Rattle.std.specs.Prelude.{IsErrAnd}
use Rattle.object_layout.specs.declared.walk_error.WalkError.{WalkError}
use Rattle.object_layout.specs.declared.walk_error.WalkError.TheVariants.{Damaged}
use Rattle.object_layout.specs.Walk.{breaks}
use Rattle.object_layout.proofs.space.walk.Goals as goal

handed_on : (r : Result (Unit {0}) WalkError) (e : WalkError) (at : ℕ) → IsErrAnd r (λ y. y ≡ e) → r ≡ Err (Damaged at) → e ≡ Damaged at
handed_on (Ok done) e at is told = cc
handed_on (Err y) e at is told = cc

pub returns-in_err-starts-clause-fault : goal.returns-in_err-starts-clause-fault
returns-in_err-starts-clause-fault g c told at is =
    breaks (c.in_err-starts.ensures.fault told at c.args.used refl (ap Err (handed_on c.from_residual.result _ at c.from_residual.ensures.1 is)))
