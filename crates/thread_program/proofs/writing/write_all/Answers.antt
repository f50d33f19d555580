use Rattle.std.proofs.Common.{◌++◌, List, sym, ap, ◌∙◌, subst}
use Rattle.graph_model.specs.declared.reply.Entry.{Entry}
use Rattle.heap_program.specs.declared.status.Status.{Status}
use Rattle.heap_program.specs.Play.{lines_text, WroteFront}
use Rattle.thread_program.specs.Written.{WritesAll}
use Rattle.thread_program.proofs.EndedLaws.{told_none}
use Rattle.thread_program.proofs.WrittenLaws.{wrote_whole, writes_part, writes_lines, writes_graph}
use Rattle.thread_program.proofs.writing.write_all.Goals as goal

pub returns-in-Err-clause-wrote : goal.returns-in-Err-clause-wrote
returns-in-Err-clause-wrote g c tells core is reached =
    let before = g.K.Sink.written c.args.sink.now in
    let after = g.K.Sink.written c.write_lines.new.sink in
    let lines : WroteFront before (lines_text core.history) after = subst (λ (h : List Entry). WroteFront before (lines_text h) after) (c.history.ensures.entries core is) (c.in-Err.ensures.wrote tells) in
    subst (λ (s : Status). WritesAll core s before after) (sym c.from.ensures) (writes_part core before c.in-Err.e after lines)

pub returns-then-is_some-clause-wrote : goal.returns-then-is_some-clause-wrote
returns-then-is_some-clause-wrote g c tells core is reached =
    let before = g.K.Sink.written c.args.sink.now in
    let after = g.K.Sink.written c.write_lines.new.sink in
    let own = wrote_whole c.write_lines.result before (lines_text c.history.result.now.entries) after c.in_default.not-Err (c.write_lines.ensures.wrote tells) in
    writes_lines core before after (own ∙ ap (λ (h : List Entry). before ++ lines_text h) (c.history.ensures.entries core is))

pub returns-clause-wrote : goal.returns-clause-wrote
returns-clause-wrote g c tells core is reached =
    let before = g.K.Sink.written c.args.sink.now in
    let between = g.K.Sink.written c.write_lines.new.sink in
    let after = g.K.Sink.written c.write_graph.new.sink in
    let own = wrote_whole c.write_lines.result before (lines_text c.history.result.now.entries) between c.in_default.not-Err (c.write_lines.ensures.wrote tells) in
    let unfailed = sym (c.failed.ensures.exact core is) ∙ told_none c.failed.result (sym c.is_some.ensures ∙ c.if-is_some.false) in
    subst (λ (s : Status). WritesAll core s before after) (sym c.status_after.ensures)
    (writes_graph core before c.write_graph.result between after (own ∙ ap (λ (h : List Entry). before ++ lines_text h) (c.history.ensures.entries core is)) unfailed (c.write_graph.ensures.wrote tells core is reached))
