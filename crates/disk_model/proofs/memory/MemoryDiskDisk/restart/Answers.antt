use Rattle.std.proofs.Common.{rules, ◌≡◌}
use Rattle.disk_model.specs.Memory.{after_restart}
use Rattle.disk_model.proofs.Calls.{RestartIsKept, kept_by_restart}
use Rattle.disk_model.proofs.memory.MemoryDiskDisk.restart.Goals as goal

kept : (c : goal.After-settle_restart) → RestartIsKept c.args.self.now c.settle_restart.new.self
kept c = let exact : c.settle_restart.new.self ≡ after_restart c.args.self.now = search rules in kept_by_restart c.args.self.now _ exact

pub returns-clause-left : goal.returns-clause-left
returns-clause-left c = (kept c).left

pub returns-clause-durable : goal.returns-clause-durable
returns-clause-durable c = (kept c).durable

pub returns-clause-time : goal.returns-clause-time
returns-clause-time c = (kept c).time

pub returns-clause-picked : goal.returns-clause-picked
returns-clause-picked c = (kept c).picked

pub returns-clause-extent : goal.returns-clause-extent
returns-clause-extent c = (kept c).left.size
