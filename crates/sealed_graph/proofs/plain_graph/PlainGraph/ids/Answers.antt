use Rattle.std.proofs.Common.{◌≡◌, Result, Ok, Err, IfOk, rules, sym, ap, ◌∙◌}
use Rattle.std.specs.FinMap.{keys}
use Rattle.std.specs.Global.{Vec}
use Rattle.std.specs.Map.{keys_of}
use Rattle.graph_model.specs.declared.id.Id.{Id}
use Rattle.sealed_graph.proofs.GraphLaws.{keys-graph_of}
use Rattle.sealed_graph.proofs.plain_graph.PlainGraph.ids.Goals as goal

if_ok : {T E : Type 0} (r : Result T E) (P Q : T → Type 0) → ((x : T) → P x → Q x) → IfOk r P → IfOk r Q
if_ok (Ok x) P Q f h = f x h
if_ok (Err e) P Q f h = tt

pub returns : goal.returns
returns c =
    let collected : IfOk c.collect.result (λ (ids : Vec Id). ids.items ≡ keys_of c.self.inside.objects.entries) = search rules in
    let same = sym (keys-graph_of c.self.inside.objects.entries c.keys.ensures.ordered) ∙ ap keys c.self.view_is in
    if_ok c.collect.result _ _ (λ ids is. is ∙ same) collected
