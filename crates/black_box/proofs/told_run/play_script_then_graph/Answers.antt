use Rattle.std.proofs.Common.{◌≡◌, inl, inr, ⊎_elim, ◌++◌, List, Ok, refl, sym, ap, ◌∙◌, subst, arith, Err}
use Rattle.std.specs.Result.{result_ok}
use Rattle.std.proofs.lemmas.Option.{same_Some}
use Rattle.graph_model.specs.Graph.{Graph, new_graph}
use Rattle.script_text.specs.declared.line.Line.{Line}
use Rattle.script_text.specs.Line.{events}
use Rattle.script_text.specs.Script.{script}
use Rattle.black_box.specs.Told.{TellsRun, MakesNone, text_of}
use Rattle.black_box.specs.Tale.{Tells}
use Rattle.script_text.specs.declared.script.ScriptError.TheVariants.{Fault}
use Rattle.black_box.proofs.Ends.{ends_read}
use Rattle.black_box.proofs.Shorter.{tells}
use Rattle.black_box.proofs.told_run.play_script_then_graph.Goals as goal

pub returns-clause-one_tale : goal.returns-clause-one_tale
returns-clause-one_tale g c = λ told only sink done.
    let runs = c.play_then_graph-played in
    let asked = c.in-Ok.ensures.asked in
    let played = runs.result.0 in
    let before = g.K.Sink.written c.args.lines.now in
    let after = g.K.Sink.written runs.new.lines in
    let text = g.K.Sink.written runs.new.text in
    ⊎_elim
    (λ (none : MakesNone played × (after ≡ before)). inl none)
    (λ (one : (read : List Line) × (script c.in-Ok.read.1 ≡ Ok read) × (kept : Graph) × TellsRun new_graph read played before after kept × (text ≡ g.K.Sink.written c.args.text.now ++ text_of kept)).
    let short = tells new_graph one.2 one.0 played before after one.3 in
    let same : one.0 ≡ c.in-Ok.read.0.items = same_Some _ _ (ap result_ok (sym one.1 ∙ ap script c.in-Ok.ensures.source ∙ c.in-Ok.ensures.reads)) in
    inr (
      short.0,
      text_of one.2,
      short.1,
      one.4,
      subst (λ (lines : List Line). Tells new_graph (events lines) played short.0 (text_of one.2)) same short.2,
    ))
    (runs.ensures.one_history told only refl sink asked.0.0 asked.0.1 asked.1 done)

pub returns-clause-same_disk : goal.returns-clause-same_disk
returns-clause-same_disk g c =
    let asked = c.in-Ok.ensures.asked in
    c.play_then_graph-played.ensures.same_disk asked.0.0 asked.0.1 asked.1

pub returns-clause-leaves : goal.returns-clause-leaves
returns-clause-leaves g c = λ told only sink done.
    let asked = c.in-Ok.ensures.asked in
    c.play_then_graph-played.ensures.leaves told only sink asked.0.0 asked.0.1 asked.1 done

pub returns-clause-keeps : goal.returns-clause-keeps
returns-clause-keeps g c = λ told only sink was done.
    let asked = c.in-Ok.ensures.asked in
    c.play_then_graph-played.ensures.keeps told only sink was asked.0.0 asked.0.1 asked.1 done

pub returns-clause-ends : goal.returns-clause-ends
returns-clause-ends g c = λ told only pages play.
    let read = c.in-Ok.ensures in
    ends_read _ pages _ _ _ _ c.play_then_graph-played.result.0
    (λ line bad. let never : Ok c.in-Ok.read.0.items ≡ Err (Fault line) = sym read.reads ∙ ap script (sym read.source) ∙ bad in cc)
    (λ rose. omega (arith, rose))
    (c.play_then_graph-played.ensures.ends told only refl pages play)
