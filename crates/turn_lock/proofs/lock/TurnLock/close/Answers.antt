use Rattle.std.proofs.Common.{rules, ◌≡◌, sym, ap, ◌∙◌, subst, Some}
use mathlib.Core.Option.{some-injective}
use Rattle.turn_lock.proofs.Lists.{value_or}
use Rattle.turn_lock.proofs.Keeps.{ends, Ends}
use Rattle.turn_lock.proofs.lock.TurnLock.close.Goals as goal

pub unwrap-value-requires : goal.unwrap-value-requires
unwrap-value-requires g c =
    let e = ends _ _ _ _ _ _ _ _ _ _ _ c.requires.pass.1.stage c.requires.all c.close_with-closed.ensures.values.2 in
    let is : c.take.result ≡ Some e.0 = some-injective _ _ (sym c.take.ensures.value ∙ e.1) in search rules

pub returns : goal.returns
returns g c =
    let e = ends _ _ _ _ _ _ _ _ _ _ _ c.requires.pass.1.stage c.requires.all c.close_with-closed.ensures.values.2 in
    let is : Some e.0 ≡ Some c.unwrap-value.result = sym (some-injective _ _ (sym c.take.ensures.value ∙ e.1)) ∙ c.unwrap-value.ensures in
    let end = subst (Ends _ _ _ _ _ _ _ _) (ap (λ o. value_or o e.0) is) e.2 in
    record { same_value = (end.stood_is, end.follows_is); history = end.seen_in; parts = end.parts_in; stand = end.mine_in; once = end.once; turns = end.turns_are; front = end.front_in }
