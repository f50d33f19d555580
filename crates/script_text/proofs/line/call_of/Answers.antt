use Rattle.std.proofs.Common.{sym, arith}
use Rattle.script_text.proofs.Calls.{no_call}
use Rattle.script_text.proofs.line.call_of.Goals as goal

pub returns-in_default : goal.returns-in_default
returns-in_default c = sym (no_call c.args.s c.args.verb.now (λ word. word.now) c.args.words.now (omega arith))
