use Rattle.std.proofs.Common.{sym, ap, ◌∙◌}
use Rattle.std.specs.Prelude.{slice_get}
use Rattle.slow_heap.proofs.Texts.{visited-none, visited-next}
use Rattle.slow_heap.proofs.graph_text.numbered.Goals as goal

pub returns-in_default : goal.returns-in_default
returns-in_default c =
    sym (visited-none _ _ _ _ (ap (λ ids. slice_get ids c.loop-number.number) (sym c.deref.ensures.value) ∙ sym c.id_at.ensures ∙ c.in_default.is)) ∙ c.loop-number.invariant

pub loop-number-preserved : goal.loop-number-preserved
loop-number-preserved c =
    visited-next _ _ _ c.in-Some.id _ _ _ c.loop-number-test.true (ap (λ ids. slice_get ids c.loop-number.number) (sym c.deref.ensures.value) ∙ sym c.id_at.ensures ∙ c.in-Some.is) c.fields.ensures c.in_ok-push_targets.ensures
    ∙ c.loop-number.invariant
