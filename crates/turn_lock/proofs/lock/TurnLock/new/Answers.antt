use Rattle.std.proofs.Common.{rules, ◌≡◌, [], ◌∷◌, ap, ◌∙◌, arith, Some}
use Rattle.turn_lock.proofs.Keeps.{opens}
use Rattle.turn_lock.proofs.Deals.{new_of}
use Rattle.turn_lock.proofs.lock.TurnLock.new.Goals as goal

pub new-requires : goal.new-requires
new-requires g c = let is : c.push_reserved.new.self.items ≡ Some c.args.value ∷ [] = search rules in
    rw (c.of.ensures, is) (opens _ _ _ _ _ _ _ c.requires.starts c.requires.stood c.requires.empty (omega arith))

pub returns-in-Ok-new-clause-passes : goal.returns-in-Ok-new-clause-passes
returns-in-Ok-new-clause-passes g c = let first = ap (λ k. k.first.value) c.in-Ok-new.ensures.ok.5 ∙ c.of.ensures in
    λ i pass at. new_of g.T.Turns.entries _ _ first _ _ _ _ (c.deal-passes.ensures.passes i pass at)
