use Rattle.std.proofs.Common.{◌≡◌, drop}
use Rattle.graph_model.specs.Canon.{with_targets}
use Rattle.slow_heap.proofs.graph_text.push_targets.Given as goal

-- the fields that are left lead to the same ids
abbrev pub invariant-loop-field : goal.invariant-loop-field
invariant-loop-field l = with_targets l.ids.items (drop l.field-index l.fields) ≡ with_targets l.initial.ids.items l.fields
