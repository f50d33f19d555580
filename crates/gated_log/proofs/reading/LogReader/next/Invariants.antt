use Rattle.std.proofs.Common.{◌≡◌, ◌-◌, ◌≤◌, ℕ, List, Ok}
use Rattle.std.specs.Prelude.{IsTrue}
use Rattle.disk_model.specs.Disk.{part}
use Rattle.disk_model.specs.Keeps.{OnlyReads}
use Rattle.log_records.specs.declared.Record.{Record}
use Rattle.gated_log.specs.Reader.{HasRead}
use Rattle.gated_log.proofs.Reader.{HasPassed}
use Rattle.gated_log.proofs.reading.LogReader.next.Given as goal

abbrev pub invariant-loop-self : goal.invariant-loop-self
invariant-loop-self g l = record {
  place : l.self.at ≡ l.fn.self.at;
  same_room : l.self.room ≡ l.fn.self.room;
  lsn : l.self.given ≡ l.fn.self.given;
  rest : l.self.room - l.self.next ≤ l.fn.self.room - l.fn.self.next;
  read : (log : List ℕ) (batches : List (List Record)) (begun : List Record) → (IsTrue g.D.Disk.tells → log ≡ part (g.D.Disk.bytes l.fn.disk) l.fn.self.at l.fn.self.room) → HasRead g.D.Disk.tells log l.fn.self batches begun → HasPassed g.D.Disk.tells log l.self batches begun;
  disk : OnlyReads {T = Unit {0}} g.D.Disk l.fn.disk l.disk (Ok tt);
}

abbrev pub decreases-loop-self : goal.decreases-loop-self
decreases-loop-self g l = l.self.room - l.self.next
