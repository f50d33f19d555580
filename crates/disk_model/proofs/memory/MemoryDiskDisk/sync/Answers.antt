use Rattle.disk_model.specs.Memory.{sync_fails}
use Rattle.disk_model.proofs.Calls.{SyncIsKept, kept_by_sync}
use Rattle.disk_model.proofs.memory.MemoryDiskDisk.sync.Goals as goal

kept : (c : goal.After-sync_all) → SyncIsKept c.args.self.now c.sync_all.new.self c.sync_all.result
kept c = kept_by_sync (sync_fails c.args.self.now) c.args.self.now _ _ c.sync_all.ensures.exact c.sync_all.ensures.result

pub returns-clause-durable : goal.returns-clause-durable
returns-clause-durable c = (kept c).durable

pub returns-clause-bytes : goal.returns-clause-bytes
returns-clause-bytes c = (kept c).bytes

pub returns-clause-crash : goal.returns-clause-crash
returns-clause-crash c = (kept c).crash

pub returns-clause-time : goal.returns-clause-time
returns-clause-time c = (kept c).time
