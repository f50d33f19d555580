use Rattle.std.proofs.Common.{◌≡◌, ℕ, ◌<◌, ◌≤◌, ◌++◌, [], ◌∷◌, length, take, drop, List, ap, ap₂, ◌∙◌, subst, sym, arith}
use Rattle.turn_lock.specs.Turning.{EachOnce, StandIn, times, places}
use Rattle.turn_lock.specs.Merging.{entries_of}
use Rattle.turn_lock.specs.TwinPasses.{first_of, pass_numbers, mine_of}
use Rattle.turn_lock.proofs.Lists.{length_longer}
use Rattle.turn_lock.proofs.TurnLaws.{begins_length}
use Rattle.turn_ledger.specs.Merged.{IsMerge}
use Rattle.turn_ledger.proofs.Merges.{two_make_all}
use Rattle.twin_ledger.proofs.Mirrors.{ready, risen, two_numbers}
use Rattle.twin_ledger.proofs.threads.post_two.Goals as goal

pub join-one-requires-after_bounds : goal.join-one-requires-after_bounds
join-one-requires-after_bounds g c κs within =
    let made = c.in_ok-lock.ensures in let one = made.passes 0 _ c.both-one.ensures.first in let two = made.passes 1 _ c.both-one.ensures.second in
    let before = ap (λ j. j.before) made.lock.0 in let all = c.requires.journal.0 in (
      ((ready one, one.number_is), (one.mine, risen one (omega (arith, before, all)))),
      ((ready two, two.number_is), (two.mine, risen two (omega (arith, before, all)))),
    )

pub close-journal-requires-clause-all : goal.close-journal-requires-clause-all
close-journal-requires-clause-all g c =
    let numbers : pass_numbers c.join.new.pass ≡ 0 ∷ 1 ∷ [] = ap (λ v. v.value.numbers) c.join.ensures.joined.1 ∙ ap₂ (λ x y. x ++ y) c.join-one.ensures.first.0.1 c.join-one.ensures.second.0.1 in
    λ n h. subst (λ l. 0 < times n l) (sym numbers) (two_numbers n (subst (λ k. n < k) c.in_ok-lock.ensures.lock.2 h))

pub returns-clause-posts : goal.returns-clause-posts
returns-clause-posts g c =
    let first = c.join-one.ensures.first in let second = c.join-one.ensures.second in let joined = c.join.ensures.joined.1 in let end = c.close-journal.ensures in
    let low : ℕ = (first_of c.in_ok-lock.lock).before in let log : List ℕ = c.close-journal.result.0.posts.items in
    let before : low ≡ c.args.journal.before = ap (λ j. j.before) c.in_ok-lock.ensures.lock.0 in
    let m = mine_of c.join-one.result.0.0 in let n = mine_of c.join-one.result.1.0 in let mine = ap (λ v. v.value.mine) joined in
    let long : low ≤ length log = omega (arith, length_longer low _ _ first.1.1.long second.1.1.long, ap (λ v. length v.value.seen) joined, begins_length _ _ end.history) in
    let all : IsMerge (entries_of m) (entries_of n) (drop low log) = two_make_all low log m n long first.1.1.rise second.1.1.rise (subst (StandIn log) mine end.stand)
    (subst (λ l. EachOnce (λ k. times k (places l)) low (length log)) mine end.once) in
    subst (λ x. IsMerge x (take c.join-one.result.1.1 c.args.numbers.now) (drop c.args.journal.before log)) first.1.0
    (subst (λ y. IsMerge (entries_of m) y (drop c.args.journal.before log)) second.1.0 (subst (λ (k : ℕ). IsMerge (entries_of m) (entries_of n) (drop k log)) before all))
