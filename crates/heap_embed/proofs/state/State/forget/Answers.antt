use Rattle.std.proofs.Common.{rules}
use Rattle.disk_model.specs.contracts.memory.MemoryDiskDisk.TheImpl.{ghosts}
use Rattle.heap_embed.proofs.Answering.{closed_forgets, open_forgets}
use Rattle.heap_embed.proofs.state.State.forget.Goals.{in-Closed, in-Open}
use Rattle.heap_embed.proofs.state.State.forget.Goals as goal

pub returns-then-forgotten-clause-forgets : goal.returns-then-forgotten-clause-forgets
returns-then-forgotten-clause-forgets c done disk there =
    elim c.match-self.branch [
      | in-Closed w ↦ closed_forgets ghosts c.args.self.now c.match-self.self w.in-Closed.disk w.forget-forgotten.new.self disk w.in-Closed.is w.self-is there (search rules) (search rules)
      | in-Open w ↦ open_forgets ghosts c.args.self.now c.match-self.self w.in-Open.heap w.forget-forgotten-in-Open.new.self disk w.in-Open.is w.self-is there (search rules) (search rules) w.forget-forgotten-in-Open.ensures.core w.forget-forgotten-in-Open.ensures.heap
    ]
