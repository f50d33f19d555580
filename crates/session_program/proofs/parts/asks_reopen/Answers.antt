use Rattle.std.proofs.Common.{◌≡◌, rules, arith}
use Rattle.std.specs.Prelude.{codes}
use Rattle.std.proofs.lemmas.Slice.Eq.{text_from_reads}
use Rattle.session_program.proofs.parts.asks_reopen.Goals as goal

pub returns-in-reopen : goal.returns-in-reopen
returns-in-reopen c =
    let is : c.args.text.now ≡ codes "reopen" = text_from_reads c.args.text.now (codes "reopen") (omega arith) (search rules) in rw is
