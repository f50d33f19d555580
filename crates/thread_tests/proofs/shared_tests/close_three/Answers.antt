use Rattle.std.proofs.Common.{rules, ◌≡◌, ◌<◌, ℕ, [], ◌∷◌, sym, subst}
use Rattle.thread_tests.proofs.Three.{three_numbers}
use Rattle.turn_lock.specs.Passes.{pass_numbers}
use Rattle.turn_lock.specs.Turning.{times, total}
use Rattle.thread_tests.proofs.shared_tests.close_three.Goals as goal

pub close-requires-clause-all : goal.close-requires-clause-all
close-requires-clause-all c = λ number lt.
    let all : c.push_reserved-3.new.self.items ≡ c.args.one ∷ c.args.two ∷ c.args.three ∷ [] = search rules in
    subst (λ ps. 0 < total (λ p. times number (pass_numbers p)) ps) (sym all)
    (three_numbers number (pass_numbers c.args.one) (pass_numbers c.args.two) (pass_numbers c.args.three) c.requires.one.1 c.requires.two.1 c.requires.three.1 (subst (λ (n : ℕ). number < n) c.requires.passes lt))
