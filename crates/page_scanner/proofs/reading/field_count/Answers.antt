-- No object has more fields than are read.
use Rattle.std.proofs.Common.{sym, ◌∙◌, arith}
use Rattle.page_scanner.proofs.Fields.{fields_over}
use Rattle.page_scanner.proofs.reading.field_count.Goals as goal

pub returns-then-n-gt-MOST_FIELDS-clause-fields : goal.returns-then-n-gt-MOST_FIELDS-clause-fields
returns-then-n-gt-MOST_FIELDS-clause-fields g c told =
    fields_over (g.W.Words.content c.args.words.now) c.args.at c.in-Some.n (sym c.in-Some.is ∙ c.in_ok-n.ensures.object told) (omega arith)
