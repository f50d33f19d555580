use Rattle.std.proofs.Common.{reverse}
use Rattle.log_machine.specs.Machine.{abort_records}
use Rattle.logged_pages.proofs.Putting.{IsPutting}
use Rattle.logged_pages.proofs.taken_back.TakenBackRecords.carry.Given as goal

-- the records of the entries that are left, and the End, are put yet
abbrev pub invariant-loop-entry : goal.invariant-loop-entry
invariant-loop-entry g l = IsPutting g.D.Disk l.fn.pages l.pages l.fn.disk l.disk l.first (abort_records l.self.t (reverse l.self.undo.now)) l.lsn (abort_records l.self.t (reverse l.entry-iterator.iter.rest.now))
