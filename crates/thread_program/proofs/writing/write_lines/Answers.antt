use Rattle.std.proofs.Common.{◌≡◌, ◌++◌, ◌∷◌, ℕ, List, sym, ap, ◌∙◌, subst}
use Rattle.std.proofs.lemmas.Grind.{flat_map-append}
use Rattle.graph_model.specs.declared.reply.Entry.{Entry}
use Rattle.graph_model.specs.Text.{line}
use Rattle.heap_program.specs.Output.{WroteText}
use Rattle.heap_program.specs.Play.{lines_text}
use Rattle.heap_program.proofs.Written.{wrote_less, wrote_then}
use Rattle.thread_program.proofs.Front.{front_wrote}
use Rattle.thread_program.proofs.writing.write_lines.Goals as goal

pub returns-in_err-write_line-clause-wrote : goal.returns-in_err-write_line-clause-wrote
returns-in_err-write_line-clause-wrote g c = λ tells.
    let so_far = c.loop-entry.invariant in
    let before = g.K.Sink.written c.args.sink.now in
    let between = g.K.Sink.written c.loop-entry.sink in
    let after = g.K.Sink.written c.write_line.new.sink in
    let yielded : List Entry = c.loop-entry.yielded in
    let rest : List Entry = c.next.new.self in
    let entry : Entry = c.in-Some.entry in
    let result = c.from_residual.result in
    let failed = c.from_residual.ensures.0 in
    let text : lines_text c.args.history.now.entries ≡ lines_text yielded ++ (line entry ++ lines_text rest) =
    ap lines_text (so_far.left ∙ ap (λ (l : List Entry). yielded ++ l) c.in-Some.ensures.steps) ∙ flat_map-append line yielded (entry ∷ rest) in
    subst (λ (t : List ℕ). WroteText result before t after) (sym text)
    (wrote_then result before (lines_text yielded) between (line entry ++ lines_text rest) after (so_far.wrote tells)
    (wrote_less result between (line entry) (lines_text rest) after failed (front_wrote result between (line entry) after failed (c.in_err-write_line.ensures.wrote tells))))
