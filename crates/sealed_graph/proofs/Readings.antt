-- What is read of a seal.
use Rattle.std.proofs.Common.{◌≡◌, ℕ, ◌++◌, Option, Some, None, sym, ap, ◌∙◌}
use Rattle.std.specs.Option.{option_to_list}
use Rattle.std.specs.BTreeMap as tree
use Rattle.std.specs.BTreeMap.{BTreeMap}
use Rattle.std.specs.Ordering.{nat_cmp}
use Rattle.std.proofs.lemmas.Grind.{common_steps}
use Rattle.std.proofs.Common.{arith}
use Rattle.graph_model.specs.Transaction.{Transaction, run, serial}
use Rattle.graph_model.specs.History.{seals, with_active}
use Rattle.graph_model.proofs.Runs.History.{serial-append}
use Rattle.sealed_graph.specs.declared.reading.Reading.{Reading}
use Rattle.sealed_graph.specs.Told.{KeepsReading}

-- where the map changes at one session, so does what each session has
updated : (active after : BTreeMap ℕ Transaction) (f : ℕ → Option Transaction) (s : ℕ) (w : Option Transaction) → ((q : ℕ) → tree.get nat_cmp active q ≡ f q) → tree.Updates nat_cmp active after s w
    → (q : ℕ) → tree.get nat_cmp after q ≡ with_active f s w q
updated active after f s w own updates q = grind (arith, common_steps, own q, updates.0 q)

-- the transaction of session s was run, and is gone
pub seal_keeps : (old new : Reading) (s : ℕ) (t : Transaction) → Some t ≡ tree.get nat_cmp old.active s → tree.Updates nat_cmp old.active new.active s None → new.graph ≡ (run old.graph t).graph
    → KeepsReading (λ a. seals a s) old new
seal_keeps old new s t found updates sees first a told =
    let is : a.active s ≡ Some t = sym (told.active s) ∙ sym found in
    record {
      active = updated old.active new.active a.active s None told.active updates;
      graph =
          sees
          ∙ ap (λ g. (run g t).graph) told.graph
          ∙ sym (serial-append first a.sealed t)
          ∙ ap (λ o. serial first (a.sealed ++ option_to_list o)) (sym is);
    }
