-- What is printed from where the object stands.
use Rattle.std.proofs.Common.{◌≡◌, ℕ, List, Some, None, Vec, Global, ◌∙◌, ap, sym, subst}
use Rattle.std.specs.Prelude.{IfOk}
use Rattle.graph_model.specs.declared.id.Id.{Id}
use Rattle.graph_model.specs.Graph.{Graph}
use Rattle.graph_model.specs.Canon.{canon}
use Rattle.graph_model.specs.Text.{canon_text}
use Rattle.object_layout.specs.Layout.{stand, IsSeenAs}
use Rattle.graph_print.specs.Order.{IsDamage, no_root}
use Rattle.graph_print.proofs.print.canon_text.Goals as goal

pub returns-in-Some-clause-text : goal.returns-in-Some-clause-text
returns-in-Some-clause-text g c told =
    let words = g.W.Words.content c.args.words.now in
    let same = c.in_ok-first.ensures.read.same_words told in
    let is : stand words c.args.root ≡ Some c.in-Some.first = sym (c.in_ok-first.ensures.stand told) ∙ c.in-Some.is in
    let Printed : List ℕ → Type 0 = λ ws. IfOk c.print_from.result (λ (text : Vec ℕ Global). (name : ℕ → Id) (graph : Graph) → IsSeenAs name ws c.args.root graph → text.items ≡ canon_text (canon graph)) in
    subst Printed same (c.print_from.ensures.text told c.args.root (ap (λ ws. stand ws c.args.root) same ∙ is))

pub returns-in-None-clause-damage : goal.returns-in-None-clause-damage
returns-in-None-clause-damage g c told at failed =
    let words = g.W.Words.content c.args.words.now in
    let none : stand words c.args.root ≡ None = sym (c.in_ok-first.ensures.stand told) ∙ c.in-None.is in
    let named : c.args.root ≡ at = cc in
    subst (IsDamage words c.args.root) named (no_root none)
