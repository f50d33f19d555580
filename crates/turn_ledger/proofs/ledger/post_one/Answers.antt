use Rattle.std.proofs.Common.{◌≡◌, ℕ, ◌≤◌, ◌++◌, [], ◌∷◌, length, List, sym, ap, ◌∙◌, subst, arith, length-append}
use Rattle.turn_lock.specs.Merging.{Rise}
use Rattle.turn_lock.specs.Passes.{first_of, seen_of, mine_of}
use Rattle.turn_lock.proofs.TurnLaws.{begins_length, rise_added}
use Rattle.turn_ledger.proofs.ledger.post_one.Goals as goal

pub returns-then-post-clause-rise : goal.returns-then-post-clause-rise
returns-then-post-clause-rise g c =
    let held = c.hold-held.ensures in let gave = c.give.ensures in let posted = c.if-post.ensures.posted in
    let low : ℕ = (first_of c.args.lock.now).before in let log : List ℕ = seen_of c.hold-held.new.pass in let log' : List ℕ = seen_of c.give.new.pass in
    let is : log' ≡ log ++ c.args.number ∷ [] = gave.history ∙ (posted.0 ∙ ap (λ l. l ++ c.args.number ∷ []) held.history.0) in
    let up : low ≤ length log = omega (arith, c.requires.rise.1, begins_length _ _ held.history.1) in (
      subst (Rise low) (sym gave.mine) (rise_added low log log' (mine_of c.hold-held.new.pass) c.args.number up (subst (Rise low) (sym held.mine.0) c.requires.rise.0) held.mine.1 is),
      omega (arith, ap length is, length-append log (c.args.number ∷ []), up),
    )
