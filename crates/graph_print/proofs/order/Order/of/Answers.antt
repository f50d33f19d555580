-- One place, and its number.
use Rattle.std.proofs.Common.{◌≡◌, ℕ, List, None, Some, cond, [], ◌∷◌, ◌++◌, ◌∙◌, ap, sym, subst, rules}
use Rattle.std.specs.Ordering.{nat_cmp, eq_by_cmp}
use Rattle.std.specs.BTreeMap as tree
use Rattle.graph_print.specs.Numbering.{IsNumbering}
use Rattle.graph_print.proofs.Numbers.{numbering_first}
use Rattle.graph_print.proofs.order.Order.of.Goals as goal

pub invariant_of-result : goal.invariant_of-result
invariant_of-result c =
    let at = c.args.first in
    let numbers = tree.get nat_cmp c.insert.new.self in
    let is : c.push.new.self.items ≡ at ∷ [] = c.in_ok-push.ensures.items ∙ ap (λ (xs : List ℕ). xs ++ at ∷ []) c.new-places.ensures.items in
    let none : (q : ℕ) → tree.get nat_cmp c.new-numbers.result q ≡ None = λ q. search rules in
    let Numbers : List ℕ → Type 0 = λ xs. IsNumbering xs numbers in
    subst Numbers (sym is) (numbering_first at numbers c.ranges.first.fits (λ q. c.in_ok-insert.ensures.updates.0 q ∙ ap (cond (eq_by_cmp nat_cmp at q) (Some 0)) (none q)))
