use Rattle.std.proofs.Common.{◌≡◌, rules, arith}
use Rattle.std.specs.Prelude.{codes}
use Rattle.std.proofs.lemmas.Slice.Eq.{text_from_reads}
use Rattle.script_text.proofs.line.bare_call_of.Goals as goal

pub returns-in-commit : goal.returns-in-commit
returns-in-commit c =
    let is : c.args.verb.now ≡ codes "commit" = text_from_reads c.args.verb.now (codes "commit") (omega arith) (search rules) in rw is
