use Rattle.std.proofs.Common.{◌∙◌, sym, rules, tests}
use Rattle.script_text.proofs.Calls.{call_of-words}
use Rattle.script_text.proofs.line.line_of.Goals as goal

pub returns-in_ok-read_session-in-len2-up : goal.returns-in_ok-read_session-in-len2-up
returns-in_ok-read_session-in-len2-up c =
    let own = sym c.read_session.ensures ∙ c.in_ok-read_session-in-len2-up.was in
    c.call_of.ensures ∙ call_of-words (λ word. word.now) c.args.words.now _ c.in_ok-read_session-in-len2-up.field-0 (search (rules, tests)) own
