-- A place keeps its number, or gets the next.
use Rattle.std.proofs.Common.{◌≡◌, ℕ, List, None, Some, cond, [], ◌∷◌, ◌++◌, length, ◌∙◌, ap, sym, subst}
use Rattle.std.specs.Ordering.{nat_cmp, eq_by_cmp}
use Rattle.std.specs.BTreeMap as tree
use Rattle.graph_print.specs.Numbering.{IsNumbering}
use Rattle.graph_print.specs.Order.{with_place, place_number}
use Rattle.graph_print.proofs.Numbers.{numbering_push, place_stays, place_added}
use Rattle.graph_print.proofs.order.Order.number.Goals as goal

pub returns-in-Some-clause-placed : goal.returns-in-Some-clause-placed
returns-in-Some-clause-placed c =
    let told = sym (c.self.invariant.told c.args.at) ∙ sym c.in-Some.ensures.value in
    let Stays : List ℕ → Type 0 = λ xs. xs ≡ with_place xs (Some c.args.at) in
    subst Stays c.self.view_is (place_stays c.self.inside.places.items c.args.at _ told).0

pub invariant_of-self-2 : goal.invariant_of-self-2
invariant_of-self-2 c =
    let at = c.args.at in
    let places = c.self.inside.places.items in
    let old = tree.get nat_cmp c.self.inside.numbers in
    let new = tree.get nat_cmp c.insert.new.self in
    let is : c.push_reserved.new.self.items ≡ places ++ at ∷ [] = c.push_reserved.ensures.items ∙ ap (λ (xs : List ℕ). xs ++ at ∷ []) c.in_ok-reserve.ensures.items in
    let none : old at ≡ None = sym c.in_default.ensures.value in
    let next : c.len-number.result ≡ length places = c.len-number.ensures ∙ c.self.inside.places.ok.0 in
    let Numbers : List ℕ → Type 0 = λ xs. IsNumbering xs new in
    subst Numbers (sym is) (numbering_push places old new at c.self.invariant c.ranges.at.fits none
    (λ q. c.in_ok-insert.ensures.updates.0 q ∙ ap (λ n. cond (eq_by_cmp nat_cmp at q) (Some n) (old q)) next))

pub returns-clause-placed : goal.returns-clause-placed
returns-clause-placed c =
    let at = c.args.at in
    let places = c.self.inside.places.items in
    let is : c.push_reserved.new.self.items ≡ places ++ at ∷ [] = c.push_reserved.ensures.items ∙ ap (λ (xs : List ℕ). xs ++ at ∷ []) c.in_ok-reserve.ensures.items in
    let none = sym (c.self.invariant.told at) ∙ sym c.in_default.ensures.value in
    let Added : List ℕ → Type 0 = λ xs. c.push_reserved.new.self.items ≡ with_place xs (Some at) in
    subst Added c.self.view_is (is ∙ (place_added places at none).0)

pub returns-clause-number : goal.returns-clause-number
returns-clause-number c =
    let at = c.args.at in
    let places = c.self.inside.places.items in
    let is : c.push_reserved.new.self.items ≡ places ++ at ∷ [] = c.push_reserved.ensures.items ∙ ap (λ (xs : List ℕ). xs ++ at ∷ []) c.in_ok-reserve.ensures.items in
    let none = sym (c.self.invariant.told at) ∙ sym c.in_default.ensures.value in
    let next : c.len-number.result ≡ length places = c.len-number.ensures ∙ c.self.inside.places.ok.0 in
    next ∙ (place_added places at none).1 ∙ ap (λ ps. place_number ps at) (sym is)
