use Rattle.std.proofs.Common.{ℕ, ◌<◌, sym, ap, ◌∙◌, subst}
use Rattle.std.specs.FinSet as set
use Rattle.object_locks.proofs.Released.{fewer, others_stay, all_gone}
use Rattle.object_locks.proofs.lock_table.LockTable.release.Goals as goal

pub loop-holding-smaller : goal.loop-holding-smaller
loop-holding-smaller c =
    let P : ℕ → Type 0 = λ n. n < set.len c.loop-holding.self in
    subst P (ap set.len (sym c.remove.ensures)) (fewer c.loop-holding.self c.in-Some.holding c.in-Some.ensures.1)

pub loop-holding-preserved : goal.loop-holding-preserved
loop-holding-preserved c = λ h other.
    ap (λ held. set.contains held h) c.remove.ensures
    ∙ others_stay c.loop-holding.self c.in-Some.holding h c.args.t c.in-Some.ensures.0 other
    ∙ c.loop-holding.invariant h other

pub returns : goal.returns
returns c = all_gone c.args.self.now c.loop-holding.self c.args.t c.in_default.ensures c.loop-holding.invariant
