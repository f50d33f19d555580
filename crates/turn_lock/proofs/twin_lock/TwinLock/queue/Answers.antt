use Rattle.std.proofs.Common.{rules}
use Rattle.turn_lock.specs.TwinPasses.{first_of, first_device_of, passes_of}
use Rattle.turn_lock.proofs.TwinLaws.{queues}
use Rattle.turn_lock.proofs.twin_lock.TwinLock.queue.Goals as goal

pub fetch_add-requires : goal.fetch_add-requires
fetch_add-requires g c = let t = g.T.Turns in let w = g.T.Twins in
    (c.requires.pass.lock_is, search rules, rw c.args.self.now.sized.1 (queues t.entries t.stood t.front t.empty_turns t.follows w.beside w.later w.owed (first_of c.args.self.now) (first_device_of c.args.self.now) (passes_of c.args.self.now) _ _ c.requires.at_rest.value c.requires.pass.number))
