-- The addresses of all holdings were visited in order, so without repeats each is there once.
use Rattle.std.proofs.Common.{◌≡◌, eqb, map, sym, ap, ◌∙◌, subst}
use Rattle.std.specs.List.{dedup}
use Rattle.std.specs.BTreeSet.{IsOrdered}
use Rattle.std.specs.Map.Iter.{deref}
use Rattle.std.specs.declared.cmp.Ordering.{Ordering}
use Rattle.std.proofs.lemmas.List.Filters.{dedup_is}
use Rattle.std.proofs.lemmas.Map.Iter.{iter_end}
use Rattle.object_locks.specs.declared.holding.Holding.{Holding}
use Rattle.object_locks.specs.Holdings.{holding_cmp, AreLocked}
use Rattle.object_locks.proofs.Orders.{by_object_is}
use Rattle.object_locks.proofs.Addresses.{address_of, are_locked}
use Rattle.object_locks.proofs.lock_table.LockTable.addresses.Goals as goal

pub returns : goal.returns
returns c =
    let tree = c.self.inside.by_object in
    let gives = c.into_iter-holding-iterator.ensures.into_iter_gives in
    let all = iter_end deref tree.keys c.loop-holding.yielded _ _ c.next.new.self c.next.result gives.0 c.loop-holding.yielded_by c.in-None.is c.next.ensures.steps in
    let ordered : IsOrdered holding_cmp tree = subst (λ (cmp : Holding → Holding → Ordering). IsOrdered cmp tree) by_object_is gives.4 in
    let items : c.dedup.new.self.items ≡ dedup eqb (map address_of tree.keys) =
    dedup_is eqb c.loop-holding.addresses.items c.dedup.new.self.items c.dedup.ensures.filtered ∙ ap (dedup eqb) (c.loop-holding.invariant ∙ ap (map address_of) all.0) in
    subst (AreLocked c.args.self.now) (sym items) (are_locked tree.keys c.args.self.now c.self.view_is ordered)
