use Rattle.std.proofs.Common.{rules, tests, ◌≡◌, ap, ◌∙◌, subst}
use Rattle.std.specs.BTreeSet.{keys_between, IsOrdered}
use Rattle.std.specs.Range.{range_inclusive_start, range_inclusive_end}
use Rattle.std.specs.declared.ops.Bound.TheVariants.{Included}
use Rattle.std.specs.declared.cmp.Ordering.{Ordering}
use Rattle.std.proofs.lemmas.Iterator.Consumers.{YieldsList-from_rest}
use Rattle.std.proofs.lemmas.Iterator.Search.{find_from_yields_List}
use Rattle.object_locks.specs.declared.holding.Mode.TheVariants.{Shared}
use Rattle.object_locks.specs.declared.holding.Holding.{Holding}
use Rattle.object_locks.specs.Conflict.{conflicts}
use Rattle.object_locks.specs.Holdings.{holding_cmp}
use Rattle.object_locks.specs.Table.{on_object}
use Rattle.object_locks.proofs.Orders.{by_object_is}
use Rattle.object_locks.proofs.lock_table.find_conflict.Goals as goal

pub returns-clause-found : goal.returns-clause-found
returns-clause-found c =
    let held = c.args.held.now in
    let list : c.range.result ≡ on_object held c.args.asked.key =
    c.range.ensures.between (search rules)
    ∙ ap (λ (cmp : Holding → Holding → Ordering). keys_between cmp (Included (range_inclusive_start c.new.result)) (Included (range_inclusive_end c.new.result)) held) by_object_is
    ∙ ap (λ (lo : Holding). keys_between holding_cmp (Included lo) (Included (range_inclusive_end c.new.result)) held) c.new.ensures.start
    ∙ ap (λ (hi : Holding). keys_between holding_cmp (Included (record { key = c.args.asked.key; transaction = 0; mode = Shared })) (Included hi) held) c.new.ensures.end in
    c.copied.ensures
    ∙ find_from_yields_List (λ h. conflicts h c.args.asked) _ _ _ c.find.ensures.ran (YieldsList-from_rest _ list) (λ x b q k. search (rules, tests))

pub returns-clause-ordered : goal.returns-clause-ordered
returns-clause-ordered c = subst (λ (cmp : Holding → Holding → Ordering). IsOrdered cmp c.args.held.now) by_object_is c.range.ensures.ordered
