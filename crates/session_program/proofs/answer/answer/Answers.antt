use Rattle.std.proofs.Common.{◌≡◌, ℕ, ◌<◌, List, [], length, Some, None, Ok, Err, refl, rules, sym, ◌∙◌, subst}
use Rattle.std.proofs.lemmas.Bool.{eqb-true}
use Rattle.heap_program.specs.declared.play.Halt.TheVariants as halt
use Rattle.heap_program.specs.StatusOf.{write_halt}
use Rattle.script_text.specs.Line.{read_text}
use Rattle.script_text.proofs.ScriptLaws.{text_sessions}
use Rattle.session_program.specs.Lines.{said_against}
use Rattle.session_program.specs.Session.{Answers, AnswersOn}
use Rattle.session_program.proofs.OneLine.{empty_text, some_text, names, faults, line_played, line_nothing, line_empty, line_refused, line_part}
use Rattle.session_program.proofs.OnDisk.{played_on, nothing_on, empty_on, refused_on, part_on}
use Rattle.session_program.proofs.answer.answer.Goals as goal

pub returns-then-is_empty-clause-core : goal.returns-then-is_empty-clause-core
returns-then-is_empty-clause-core g c core is running =
    let k = g.K.Sink in
    let w = k.written c.args.sink.now in
    let none : c.args.text.now ≡ [] = empty_text c.args.text.now (eqb-true _ _ (sym c.if-is_empty.ensures)) in
    let P : List ℕ → Type 0 = λ t. Answers core c.args.number (Some t) c.args.heap.now k.tells w w (Ok tt) in
    subst P (sym none) (line_empty core c.args.number (Some []) c.args.heap.now k.tells w w is refl refl)

pub returns-in_err-line-clause-core : goal.returns-in_err-line-clause-core
returns-in_err-line-clause-core g c core is running =
    let k = g.K.Sink in
    let w = k.written c.args.sink.now in
    let err : c.from_residual.result ≡ Err halt.NoMemory = search rules in
    rw err (line_nothing core c.args.number (Some c.args.text.now) c.args.heap.now k.tells w w is)

pub play_line-requires : goal.play_line-requires
play_line-requires g c = text_sessions c.args.text.now c.in-Some.line (sym c.in_ok-line.ensures ∙ c.in-Some.is)

pub returns-in_err-object-in-None-clause-core : goal.returns-in_err-object-in-None-clause-core
returns-in_err-object-in-None-clause-core g c core is running =
    let k = g.K.Sink in
    let text = c.args.text.now in
    let found : read_text text ≡ None = sym c.in_ok-line.ensures ∙ c.in-None.is in
    let some : 0 < length text = some_text text (sym c.if-is_empty.ensures) in
    let e = c.in_err-object-in-None.field-0.0 in
    let err : c.from_residual-in_err-object-in-None.result ≡ Err (write_halt e) = search rules in
    rw err (line_part core c.args.number (Some text) c.args.heap.now k.tells (k.written c.args.sink.now) (k.written c.object.new.sink) is (names text None some found) (said_against c.args.number text) (faults c.args.number text None some found) e c.in_err-object-in-None.ensures.wrote)

pub returns-in_ok-object-in-None-clause-core : goal.returns-in_ok-object-in-None-clause-core
returns-in_ok-object-in-None-clause-core g c core is running =
    let k = g.K.Sink in
    let text = c.args.text.now in
    let found : read_text text ≡ None = sym c.in_ok-line.ensures ∙ c.in-None.is in
    let some : 0 < length text = some_text text (sym c.if-is_empty.ensures) in
    line_refused core c.args.number (Some text) c.args.heap.now k.tells (k.written c.args.sink.now) (k.written c.object.new.sink) is (names text None some found) (said_against c.args.number text) (faults c.args.number text None some found) c.in_ok-object-in-None.ensures.wrote

pub returns-in-Some-clause-core : goal.returns-in-Some-clause-core
returns-in-Some-clause-core g c core is running =
    let k = g.K.Sink in
    let text = c.args.text.now in
    let line = c.in-Some.line in
    let found : read_text text ≡ Some line = sym c.in_ok-line.ensures ∙ c.in-Some.is in
    let some : 0 < length text = some_text text (sym c.if-is_empty.ensures) in
    line_played core c.args.number (Some text) c.play_line.new.heap k.tells (k.written c.args.sink.now) (k.written c.play_line.new.sink) line c.play_line.result (names text (Some line) some found) (faults c.args.number text (Some line) some found)
    (c.play_line.ensures.core core is running)

-- likewise on a modelled disk
pub returns-then-is_empty-clause-plays : goal.returns-then-is_empty-clause-plays
returns-then-is_empty-clause-plays g c tells s core is running =
    let k = g.K.Sink in
    let heap = c.args.heap.now in
    let w = k.written c.args.sink.now in
    let none : c.args.text.now ≡ [] = empty_text c.args.text.now (eqb-true _ _ (sym c.if-is_empty.ensures)) in
    let P : List ℕ → Type 0 = λ t. AnswersOn s core c.args.number (Some t) heap heap k.tells w w (Ok tt) in
    subst P (sym none) (empty_on s core c.args.number (Some []) heap heap k.tells w w is refl refl)

pub returns-in_err-line-clause-plays : goal.returns-in_err-line-clause-plays
returns-in_err-line-clause-plays g c tells s core is running =
    let k = g.K.Sink in
    let heap = c.args.heap.now in
    let w = k.written c.args.sink.now in
    let err : c.from_residual.result ≡ Err halt.NoMemory = search rules in
    rw err (nothing_on s core c.args.number (Some c.args.text.now) heap heap k.tells w w is)

pub returns-in_err-object-in-None-clause-plays : goal.returns-in_err-object-in-None-clause-plays
returns-in_err-object-in-None-clause-plays g c tells s core is running =
    let k = g.K.Sink in
    let heap = c.args.heap.now in
    let text = c.args.text.now in
    let found : read_text text ≡ None = sym c.in_ok-line.ensures ∙ c.in-None.is in
    let some : 0 < length text = some_text text (sym c.if-is_empty.ensures) in
    let e = c.in_err-object-in-None.field-0.0 in
    let err : c.from_residual-in_err-object-in-None.result ≡ Err (write_halt e) = search rules in
    rw err (part_on s core c.args.number (Some text) heap heap k.tells (k.written c.args.sink.now) (k.written c.object.new.sink) is (names text None some found) (said_against c.args.number text) (faults c.args.number text None some found) e c.in_err-object-in-None.ensures.wrote)

pub returns-in_ok-object-in-None-clause-plays : goal.returns-in_ok-object-in-None-clause-plays
returns-in_ok-object-in-None-clause-plays g c tells s core is running =
    let k = g.K.Sink in
    let heap = c.args.heap.now in
    let text = c.args.text.now in
    let found : read_text text ≡ None = sym c.in_ok-line.ensures ∙ c.in-None.is in
    let some : 0 < length text = some_text text (sym c.if-is_empty.ensures) in
    refused_on s core c.args.number (Some text) heap heap k.tells (k.written c.args.sink.now) (k.written c.object.new.sink) is (names text None some found) (said_against c.args.number text) (faults c.args.number text None some found) c.in_ok-object-in-None.ensures.wrote

pub returns-in-Some-clause-plays : goal.returns-in-Some-clause-plays
returns-in-Some-clause-plays g c tells s core is running =
    let k = g.K.Sink in
    let text = c.args.text.now in
    let line = c.in-Some.line in
    let found : read_text text ≡ Some line = sym c.in_ok-line.ensures ∙ c.in-Some.is in
    let some : 0 < length text = some_text text (sym c.if-is_empty.ensures) in
    played_on s core c.args.number (Some text) c.args.heap.now c.play_line.new.heap k.tells (k.written c.args.sink.now) (k.written c.play_line.new.sink) line c.play_line.result (names text (Some line) some found) (faults c.args.number text (Some line) some found)
    (c.play_line.ensures.plays tells s core is running)
