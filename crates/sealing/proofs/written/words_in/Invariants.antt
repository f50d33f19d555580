use Rattle.std.proofs.Common.{◌≡◌, ◌++◌}
use Rattle.graph_words.specs.Promotion.{words_in_fields}
use Rattle.sealing.proofs.written.words_in.Given as goal

abbrev pub invariant-loop-object : goal.invariant-loop-object
invariant-loop-object l = l.found.items ++ words_in_fields l.words l.object-iterator ≡ words_in_fields l.words l.fields.keys
