use Rattle.std.proofs.Common.{rules}
use Rattle.turn_lock.proofs.twin_lock.out_of_slots.Goals as goal

pub parted-requires-clause-device : goal.parted-requires-clause-device
parted-requires-clause-device g c = (c.requires.1, search rules)
