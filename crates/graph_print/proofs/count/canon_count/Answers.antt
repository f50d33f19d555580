-- The objects from where the root object stands.
use Rattle.std.proofs.Common.{◌≡◌, ℕ, List, length, Some, None, ◌∙◌, ap, sym, subst}
use Rattle.std.specs.Prelude.{IfOk}
use Rattle.graph_model.specs.declared.id.Id.{Id}
use Rattle.graph_model.specs.Graph.{Graph}
use Rattle.graph_model.specs.Canon.{canon}
use Rattle.object_layout.specs.Layout.{stand, IsSeenAs}
use Rattle.graph_print.specs.Order.{IsDamage, no_root}
use Rattle.graph_print.proofs.count.canon_count.Goals as goal

pub returns-in-Some-clause-count : goal.returns-in-Some-clause-count
returns-in-Some-clause-count g c told =
    let words = g.W.Words.content c.args.words.now in
    let same = c.in_ok-first.ensures.read.same_words told in
    let is : stand words c.args.root ≡ Some c.in-Some.first = sym (c.in_ok-first.ensures.stand told) ∙ c.in-Some.is in
    let Counted : List ℕ → Type 0 = λ ws. IfOk c.count_from.result (λ (count : ℕ). (name : ℕ → Id) (graph : Graph) → IsSeenAs name ws c.args.root graph → count ≡ length (canon graph)) in
    subst Counted same (c.count_from.ensures.count told c.args.root (ap (λ ws. stand ws c.args.root) same ∙ is))

pub returns-in-None-clause-damage : goal.returns-in-None-clause-damage
returns-in-None-clause-damage g c told at failed =
    let words = g.W.Words.content c.args.words.now in
    let none : stand words c.args.root ≡ None = sym (c.in_ok-first.ensures.stand told) ∙ c.in-None.is in
    let named : c.args.root ≡ at = cc in
    subst (IsDamage words c.args.root) named (no_root none)
