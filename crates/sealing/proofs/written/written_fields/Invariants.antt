use Rattle.std.proofs.Common.{◌≡◌, reverse, take}
use Rattle.graph_words.specs.Promotion.{written_fields as written}
use Rattle.sealing.proofs.written.written_fields.Given as goal

abbrev pub invariant-loop-entry : goal.invariant-loop-entry
invariant-loop-entry l = l.fields.keys ≡ written (reverse (take l.entry-index l.undo))
