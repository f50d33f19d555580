use Rattle.std.proofs.Common.{rules, sym, refl, subst, Option, MatchOption}
use Rattle.object_locks.specs.declared.holding.Holding.{Holding}
use Rattle.object_locks.specs.Table.{IsOf, HasNone}
use Rattle.object_locks.proofs.Tables.{from_derived, none_of, none_before, one_of_it}
use Rattle.object_locks.proofs.lock_table.LockTable.first_of.Goals as goal

pub returns-in_err-found : goal.returns-in_err-found
returns-in_err-found c =
    let range = from_derived c.self.inside.by_transaction c.args.t c.range.result (c.range.ensures.in_range (search rules)) in
    let P : Option Holding → Type 0 = λ o. MatchOption o (HasNone c.args.self.now c.args.t) (IsOf c.args.self.now c.args.t) in
    subst P (sym c.from_residual.ensures) (none_of _ _ c.args.self.now c.args.t c.range.result c.self.view_is c.self.invariant range c.in_err-found.ensures.steps.0)

pub returns-then-found-t : goal.returns-then-found-t
returns-then-found-t c =
    let range = from_derived c.self.inside.by_transaction c.args.t c.range.result (c.range.ensures.in_range (search rules)) in
    none_before _ _ c.args.self.now c.args.t c.range.result _ c.in_ok-found.found.now c.self.view_is c.self.invariant range c.in_ok-found.ensures.steps c.if-found-t.true

pub returns : goal.returns
returns c =
    let range = from_derived c.self.inside.by_transaction c.args.t c.range.result (c.range.ensures.in_range (search rules)) in (
      refl,
      one_of_it _ _ c.args.self.now c.args.t c.range.result _ c.in_ok-found.found.now c.self.view_is c.self.invariant range c.in_ok-found.ensures.steps c.if-found-t.false,
    )
