use Rattle.std.proofs.Common.{◌≡◌, ◌++◌, map, drop}
use Rattle.std.specs.String.{string_bytes}
use Rattle.graph_model.specs.Canon.{shown}
use Rattle.graph_model.specs.Text.{fields_text}
use Rattle.slow_heap.proofs.graph_text.push_fields.Given as goal

-- the text so far and that of the fields that are left are the whole
abbrev pub invariant-loop-field : goal.invariant-loop-field
invariant-loop-field l =
    string_bytes l.text ++ fields_text (map (shown l.ids) (drop l.field-index l.fields)) ≡ string_bytes l.initial.text ++ fields_text (map (shown l.ids) l.fields)
