use Rattle.std.proofs.Common.{◌≡◌, ℕ, subst, arith}
use Rattle.library_tests.specs.Rounds.{Rounds, none, more}
use Rattle.library_tests.proofs.library_loop.rounds.Goals as goal

pub loop-i-init : goal.loop-i-init
loop-i-init g c tells only gr k stands = (only, gr, k, none, stands)

pub loop-i-preserved : goal.loop-i-preserved
loop-i-preserved g c tells only gr k stands =
    let so_far = c.loop-i.invariant tells only gr k stands in
    let round = c.in_ok-disk.ensures tells so_far.0 so_far.1 so_far.2 so_far.4 in
    (round.0, round.1, round.2, more _ round.1 round.2 so_far.3 round.3, round.4)

pub returns : goal.returns
returns g c tells only gr k stands =
    let so_far = c.loop-i.invariant tells only gr k stands in
    let all : c.loop-i._i ≡ c.args.count = omega arith in
    (so_far.0, so_far.1, so_far.2, subst (λ (n : ℕ). Rounds g.D.Disk c.args.events.now c.args.disk gr k n c.loop-i.disk so_far.1 so_far.2) all so_far.3, so_far.4)
