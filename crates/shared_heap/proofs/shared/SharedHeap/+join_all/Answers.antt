use Rattle.std.proofs.Common.{◌≡◌, ◌≤◌, ap, ◌∙◌, sym, subst, arith}
use Rattle.std.specs.List.{AllByRecursion}
use Rattle.turn_lock.specs.Passes.{pass_numbers, seen_of, parts_of, mine_of, front_of}
use Rattle.turn_lock.specs.Turning.{IsBeginning, StandIn, times, places, total}
use Rattle.turn_lock.proofs.TurnLaws.{times_append, places_append}
use Rattle.shared_heap.proofs.CloseLaws.{total_last, stand_parts}
use Rattle.shared_heap.proofs.Lists.{all_first, all_last}
use Rattle.shared_heap.proofs.shared.SharedHeap.+join_all.Goals as goal

pub returns-in-Some-clause-numbers : goal.returns-in-Some-clause-numbers
returns-in-Some-clause-numbers g t c = λ n.
    let all : total (λ p. times n (pass_numbers p)) c.args.passes.items ≡ _ = ap (total (λ p. times n (pass_numbers p))) c.in-Some.ensures.items ∙ total_last (λ p. times n (pass_numbers p)) c.pop.new.self.items c.in-Some.other in
    let one : times n (pass_numbers c.join.new.pass) ≡ _ = ap (times n) c.join.ensures.joined.numbers ∙ times_append n (pass_numbers c.args.pass) (pass_numbers c.in-Some.other) in
    omega (arith, all, one, c.join_all.ensures.numbers n)

pub returns-in-Some-clause-places : goal.returns-in-Some-clause-places
returns-in-Some-clause-places g t c = λ k.
    let all : total (λ p. times k (places (mine_of p))) c.args.passes.items ≡ _ = ap (total (λ p. times k (places (mine_of p)))) c.in-Some.ensures.items ∙ total_last (λ p. times k (places (mine_of p))) c.pop.new.self.items c.in-Some.other in
    let one : times k (places (mine_of c.join.new.pass)) ≡ _ = ap (λ l. times k (places l)) c.join.ensures.joined.mine ∙ places_append k (mine_of c.args.pass) (mine_of c.in-Some.other) in
    omega (arith, all, one, c.join_all.ensures.places k)

pub returns-in-Some-clause-stand : goal.returns-in-Some-clause-stand
returns-in-Some-clause-stand g t c = λ log h.
    let rest = c.join_all.ensures.stand log h in
    let own = stand_parts log (mine_of c.args.pass) (mine_of c.in-Some.other) (subst (StandIn log) c.join.ensures.joined.mine rest.0) in
    (own.0, subst (AllByRecursion (λ p. StandIn log (mine_of p))) (sym c.in-Some.ensures.items) (all_last (λ p. StandIn log (mine_of p)) c.pop.new.self.items c.in-Some.other rest.1 own.1))

pub returns-in-Some-clause-seen : goal.returns-in-Some-clause-seen
returns-in-Some-clause-seen g t c = λ log h.
    let rest = c.join_all.ensures.seen log h in
    let own = subst (AllByRecursion (λ seen. IsBeginning seen log)) c.join.ensures.joined.parts rest.0.1 in
    let parts = all_first (λ seen. IsBeginning seen log) (parts_of c.args.pass) (parts_of c.in-Some.other) own.1.1 in
    ((own.0, parts), subst (AllByRecursion (λ p. IsBeginning (seen_of p) log)) (sym c.in-Some.ensures.items) (all_last (λ p. IsBeginning (seen_of p) log) c.pop.new.self.items c.in-Some.other rest.1 own.1.0))

pub returns-in-Some-clause-front : goal.returns-in-Some-clause-front
returns-in-Some-clause-front g t c =
    let rest = c.join_all.ensures.front in
    let both = c.join.ensures.joined.front in
    let most = front_of c.join_all.result in (
      omega (arith, rest.0, both),
      subst (AllByRecursion (λ p. front_of p ≤ most)) (sym c.in-Some.ensures.items) (all_last (λ p. front_of p ≤ most) c.pop.new.self.items c.in-Some.other rest.1 (omega (arith, rest.0, both))),
    )
