use Rattle.std.proofs.Common.{take}
use Rattle.std.specs.Prelude.{IsTrue, None}
use Rattle.object_layout.specs.Read.{IsRead}
use Rattle.graph_print.specs.Numbered.{AreFieldsNumbered}
use Rattle.graph_print.proofs.count.number_fields.Given as goal

abbrev pub invariant-loop-word : goal.invariant-loop-word
invariant-loop-word g l = record {
  read : IsRead g.W.Words.tells g.W.Words.extent g.W.Words.content g.W.Words.keeps g.W.Words.faults g.W.Words.stops l.initial.words l.words None;
  numbered : IsTrue g.W.Words.tells → AreFieldsNumbered (g.W.Words.content l.initial.words) l.initial.order l.order (take l.word-index l.fields);
}
