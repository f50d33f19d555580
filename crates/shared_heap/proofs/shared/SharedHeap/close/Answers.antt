use Rattle.std.proofs.Common.{◌≡◌, ◌≤◌, ◌++◌, ◌∷◌, [], ℕ, length, ap, ◌∙◌, sym, subst, arith}
use Rattle.std.specs.List.{AllByRecursion}
use Rattle.std.specs.Option.{option_to_list}
use Rattle.graph_model.specs.History.{acknowledged}
use Rattle.heap_core.specs.HeapState.{history_of}
use Rattle.turn_lock.specs.Passes.{pass_numbers, seen_of, mine_of, front_of, first_of}
use Rattle.turn_lock.specs.Turning.{EachOnce, IsBeginning, StandIn, times, places, total}
use Rattle.turn_lock.proofs.Counts.{once_same}
use Rattle.shared_heap.proofs.CloseLaws.{total_last}
use Rattle.shared_heap.proofs.FollowsLaws.{follows_keeps}
use Rattle.shared_heap.proofs.FrontLaws.{front_within}
use Rattle.shared_heap.proofs.Lists.{all_last, all_weaker}
use Rattle.shared_heap.proofs.shared.SharedHeap.close.Goals as goal

pub close-heap-requires-clause-all : goal.close-heap-requires-clause-all
close-heap-requires-clause-all g c = λ number lt.
    let is : c.args.passes.items ≡ c.pop.new.self.items ++ c.unwrap-last.result ∷ [] = c.pop.ensures.items ∙ ap (λ o. c.pop.new.self.items ++ option_to_list o) c.unwrap-last.ensures in
    let all : total (λ p. times number (pass_numbers p)) c.args.passes.items ≡ _ = ap (total (λ p. times number (pass_numbers p))) is ∙ total_last (λ p. times number (pass_numbers p)) c.pop.new.self.items c.unwrap-last.result in
    omega (arith, all, c.requires.all number lt, c.join_all-pass.ensures.numbers number)

pub returns-clause-stand : goal.returns-clause-stand
returns-clause-stand g c =
    let is : c.args.passes.items ≡ c.pop.new.self.items ++ c.unwrap-last.result ∷ [] = c.pop.ensures.items ∙ ap (λ o. c.pop.new.self.items ++ option_to_list o) c.unwrap-last.ensures in
    let log = history_of c.close-heap.result.heap in
    let h = c.join_all-pass.ensures.stand log c.close-heap.ensures.stand in
    subst (AllByRecursion (λ p. StandIn log (mine_of p))) (sym is) (all_last (λ p. StandIn log (mine_of p)) c.pop.new.self.items c.unwrap-last.result h.1 h.0)

pub returns-clause-seen : goal.returns-clause-seen
returns-clause-seen g c =
    let is : c.args.passes.items ≡ c.pop.new.self.items ++ c.unwrap-last.result ∷ [] = c.pop.ensures.items ∙ ap (λ o. c.pop.new.self.items ++ option_to_list o) c.unwrap-last.ensures in
    let log = history_of c.close-heap.result.heap in
    let h = c.join_all-pass.ensures.seen log (c.close-heap.ensures.history, c.close-heap.ensures.parts) in
    subst (AllByRecursion (λ p. IsBeginning (seen_of p) log)) (sym is) (all_last (λ p. IsBeginning (seen_of p) log) c.pop.new.self.items c.unwrap-last.result h.1 h.0.0)

pub returns-clause-once : goal.returns-clause-once
returns-clause-once g c =
    let is : c.args.passes.items ≡ c.pop.new.self.items ++ c.unwrap-last.result ∷ [] = c.pop.ensures.items ∙ ap (λ o. c.pop.new.self.items ++ option_to_list o) c.unwrap-last.ensures in
    let log = history_of c.close-heap.result.heap in
    subst (λ (n : ℕ). EachOnce (λ k. total (λ p. times k (places (mine_of p))) c.args.passes.items) n (length log)) c.args.self.began
    (once_same (λ k. times k (places (mine_of c.join_all-pass.result))) (λ k. total (λ p. times k (places (mine_of p))) c.args.passes.items) _ (length log) c.close-heap.ensures.once
    (λ k. let all : total (λ p. times k (places (mine_of p))) c.args.passes.items ≡ _ = ap (total (λ p. times k (places (mine_of p)))) is ∙ total_last (λ p. times k (places (mine_of p))) c.pop.new.self.items c.unwrap-last.result in
    omega (arith, all, c.join_all-pass.ensures.places k)))

-- the front that any pass knows is acknowledged
fronts : (g : _) (c : goal.After-close-heap g) → AllByRecursion (λ p. front_of p ≤ acknowledged (history_of c.close-heap.result.heap)) c.args.passes.items
fronts g c =
    let is : c.args.passes.items ≡ c.pop.new.self.items ++ c.unwrap-last.result ∷ [] = c.pop.ensures.items ∙ ap (λ o. c.pop.new.self.items ++ option_to_list o) c.unwrap-last.ensures in
    let all = acknowledged (history_of c.close-heap.result.heap) in
    let most = front_of c.join_all-pass.result in
    let joined = c.join_all-pass.ensures.front in
    let told = c.close-heap.ensures.front in
    let within = front_within (first_of c.args.self.lock).before (history_of c.close-heap.result.heap) in
    subst (AllByRecursion (λ p. front_of p ≤ all)) (sym is)
    (all_last (λ p. front_of p ≤ all) c.pop.new.self.items c.unwrap-last.result
    (all_weaker (λ p. front_of p ≤ most) (λ p. front_of p ≤ all) (λ p le. omega (arith, le, told, within)) c.pop.new.self.items joined.1)
    (omega (arith, joined.0, told, within)))

pub returns-clause-front : goal.returns-clause-front
returns-clause-front g c = fronts g c

pub returns-clause-crash : goal.returns-clause-crash
returns-clause-crash g c = λ tells s core is reached.
    let now = c.close-heap.result.heap in
    let k = follows_keeps _ now c.close-heap.ensures.same_value.1 tells s core is reached in (
      k.0,
      k.1,
      k.2,
      λ image may_leave.
          let first = k.3 image may_leave in
          let told = ap acknowledged k.1.core.history in
          (first.0, first.1, all_weaker (λ p. front_of p ≤ acknowledged (history_of now)) (λ p. front_of p ≤ first.0) (λ p le. omega (arith, le, told, first.1.kept)) c.args.passes.items (fronts g c)),
    )
