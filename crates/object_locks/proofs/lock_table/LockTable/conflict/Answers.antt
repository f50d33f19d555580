use Rattle.std.proofs.Common.{ℕ, Option, MatchOption, sym, subst}
use Rattle.object_locks.specs.Holdings.{MayHold, IsLeastInConflict}
use Rattle.object_locks.proofs.Tables.{free, least}
use Rattle.object_locks.proofs.lock_table.LockTable.conflict.Goals as goal

pub returns-in_err-held : goal.returns-in_err-held
returns-in_err-held c =
    let P : Option ℕ → Type 0 = λ o. MatchOption o (MayHold c.args.self.now c.args.asked) (IsLeastInConflict c.args.self.now c.args.asked) in
    subst P (sym c.from_residual.ensures) (free _ _ c.args.self.now c.args.asked c.self.view_is c.self.invariant (sym c.in_err-held.ensures.found))

pub returns : goal.returns
returns c = least _ _ c.args.self.now c.args.asked c.in_ok-held.held c.self.view_is c.self.invariant c.in_ok-held.ensures.ordered (sym c.in_ok-held.ensures.found)
