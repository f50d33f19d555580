use Rattle.heap_history.proofs.ReadEntries.{begun_keeps, call_keeps}
use Rattle.heap_history.proofs.reading.Reading.read.Goals as goal

pub returns-in-Begun : goal.returns-in-Begun
returns-in-Begun c = begun_keeps c.begin.result c.args.entry.now c.session-s.result c.in-Begun.n c.args.self.now c.begin.new.self c.in-Begun.is c.session-s.ensures c.begin.ensures

pub returns-in_default : goal.returns-in_default
returns-in_default c =
    call_keeps c.call.result c.args.entry.now c.session-s.result c.args.self.now c.call.new.self
    c.in_default.not-Begun c.in_default.not-Sealed c.in_default.not-Aborted c.in_default.not-Durable c.in_default.not-Flipped c.in_default.not-Collecting c.in_default.not-Scanned c.in_default.not-Collected c.in_default.not-Idle c.in_default.not-Flushed c.in_default.not-Clean c.in_default.not-Refused c.session-s.ensures c.call.ensures
