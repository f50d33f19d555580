use Rattle.std.proofs.Common.{◌≡◌, ℕ, ◌≤◌, []}
use Rattle.std.specs.Prelude.{IsTrue, IsFalse}
use Rattle.heap_program.specs.Causes.{RunsDisk, CountsStay}
use Rattle.session_program.specs.Parts.{Parts}
use Rattle.session_program.proofs.serving.serve.Given as goal

-- the parts so far, and what they keep of the disk and the streams
abbrev pub invariant-loop-part : goal.invariant-loop-part
invariant-loop-part g l =
    let s = g.S.Source in
    let k = g.K.Sink in
    let d = g.D.Disk in
    record {
      fresh : IsTrue s.tells → IsFalse l.reader.passing;
      source : s.faults l.fn.source ≤ s.faults l.source;
      sink : k.faults l.fn.sink ≤ k.faults l.sink;
      disk : RunsDisk d l.fn.disk l.disk ⊥;
      counts : CountsStay d l.fn.disk l.disk;
      restarts : IsTrue d.tells → d.restarts l.disk ≡ d.restarts l.fn.disk;
      parts : (count : ℕ) × Parts d s k count (record { disk = l.fn.disk; held = []; source = l.fn.source; sink = l.fn.sink }) (record { disk = l.disk; held = l.reader.held; source = l.source; sink = l.sink });
    }
