use Rattle.std.proofs.Common.{sym, subst}
use Rattle.std.specs.List.{AllByRecursion}
use Rattle.graph_model.specs.History.{IsOfSession}
use Rattle.script_text.specs.Line.{events}
use Rattle.script_text.proofs.ScriptLaws.{script_sessions}
use Rattle.worker_tests.proofs.thread_play_tests.play.Goals as goal

pub play_together-end-requires-clause-sessions : goal.play_together-end-requires-clause-sessions
play_together-end-requires-clause-sessions g c κs within =
    subst (λ lines. AllByRecursion IsOfSession (events lines)) (sym c.as_slice.ensures.value) (script_sessions c.as_bytes.result.now c.in-Ok.lines.items c.in-Ok.ensures)
