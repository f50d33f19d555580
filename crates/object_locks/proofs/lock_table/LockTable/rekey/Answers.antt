use Rattle.std.proofs.Common.{◌≡◌, ◌∷◌, [], map, sym, ap, ◌∙◌}
use Rattle.std.specs.FinSet as set
use Rattle.std.specs.Map.Iter.{deref}
use Rattle.std.proofs.lemmas.List.{map-append}
use Rattle.std.proofs.lemmas.Map.Iter.{iter_end}
use Rattle.object_locks.specs.Holdings.{moved_with}
use Rattle.object_locks.proofs.Moved.{moved_more, moved_all}
use Rattle.object_locks.proofs.lock_table.LockTable.rekey.Goals as goal

pub loop-holding-preserved : goal.loop-holding-preserved
loop-holding-preserved c =
    let pairs = c.args.pairs.now in
    let h = c.in-Some.holding.now in
    let to = c.moved_to-address.ensures in
    c.in_ok-add.ensures.ok
    ∙ moved_more pairs (map deref c.loop-holding.yielded) h _ c.loop-holding.table c.loop-holding.invariant (λ i. record h { key = record { address = to i } })
    ∙ ap (λ hs. set.from_list (map (moved_with pairs) hs)) (sym (map-append deref c.loop-holding.yielded (c.in-Some.holding ∷ [])))

pub returns-clause-ok : goal.returns-clause-ok
returns-clause-ok c =
    let pairs = c.args.pairs.now in
    let all = iter_end deref c.self.inside.by_object.keys c.loop-holding.yielded _ _ c.next.new.self c.next.result c.into_iter-holding-iterator.ensures.into_iter_gives.0 c.loop-holding.yielded_by c.in-None.is c.next.ensures.steps in
    c.table-2.view_is
    ∙ c.loop-holding.invariant
    ∙ ap (λ hs. set.from_list (map (moved_with pairs) hs)) all.0
    ∙ moved_all pairs c.self.inside.by_object.keys c.args.self.now c.self.view_is
