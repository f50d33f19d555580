-- Each number is below 2^32.
use Rattle.std.proofs.Common.{◌≡◌, slice_get, rules, arith}
use Rattle.std.proofs.lemmas.Option.{gets}
use Rattle.std.proofs.lemmas.Grind.{common_steps}
use Rattle.std.specs.Ordering.{nat_cmp}
use Rattle.std.specs.BTreeMap as tree
use Rattle.graph_print.proofs.Numbers.{few_some}
use Rattle.graph_print.proofs.order.Order.get.Goals as goal

pub returns-clause-few : goal.returns-clause-few
returns-clause-few c =
    let is : c.copied.result ≡ slice_get c.self.inside.places.items c.args.number = first_of (search (rules, gets), grind (arith, common_steps)) in
    few_some c.self.inside.places.items (tree.get nat_cmp c.self.inside.numbers) c.args.number c.copied.result c.self.invariant is
