use Rattle.turn_lock.specs.TwinSteps.{gave_device}
use Rattle.turn_lock.specs.TwinPasses.{me_of}
use Rattle.std.proofs.Common.{[]}
use Rattle.turn_lock.proofs.twin_lock.TwinLock.put_device.Given as goal

abbrev pub ghosts-pass_device : goal.ghosts-pass_device
ghosts-pass_device g a = record { log = []; empty = a.counted.turns; more = gave_device (me_of a.pass.now).0.more a.counted a._owes }
