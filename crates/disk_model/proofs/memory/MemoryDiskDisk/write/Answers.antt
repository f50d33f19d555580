use Rattle.std.proofs.Common.{length}
use Rattle.disk_model.specs.Memory.{write_fails}
use Rattle.disk_model.proofs.Calls.{WriteIsKept, kept_by_write}
use Rattle.disk_model.proofs.memory.MemoryDiskDisk.write.Goals as goal

kept : (c : goal.After-write_at) → WriteIsKept c.args.self.now c.write_at.new.self c.args.at c.args.piece.now c.write_at.result
kept c = kept_by_write (write_fails c.args.self.now (length c.args.piece.now)) c.args.self.now _ c.args.at c.args.piece.now _ c.requires c.write_at.ensures.exact c.write_at.ensures.result

pub returns-clause-written : goal.returns-clause-written
returns-clause-written c = (kept c).written

pub returns-clause-crash : goal.returns-clause-crash
returns-clause-crash c = (kept c).crash

pub returns-clause-time : goal.returns-clause-time
returns-clause-time c = (kept c).time

pub returns-clause-extent : goal.returns-clause-extent
returns-clause-extent c = (kept c).extent
