use Rattle.sealed_graph.proofs.Readings.{seal_keeps}
use Rattle.sealed_graph.proofs.reading.Reading.seal.Goals as goal

pub returns-in_ok-run : goal.returns-in_ok-run
returns-in_ok-run c = seal_keeps c.args.self.now _ c.args.s c.in-Some.transaction c.in-Some.ensures.value c.remove.ensures.updates c.in_ok-run.ensures
