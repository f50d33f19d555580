use Rattle.disk_model.proofs.Kept.{blended_left}
use Rattle.disk_model.proofs.memory.settle_picked.Goals as goal

pub returns-clause-synced : goal.returns-clause-synced
returns-clause-synced c = blended_left c.args.pick c.args.newest.now c.args.synced.now _ _ _ c.requires.size c.requires.tied c.leave_picked.ensures c.copy_ranges.ensures
