use Rattle.std.proofs.Common.{sym, subst}
use Rattle.disk_model.specs.contracts.memory.MemoryDiskDisk.TheImpl.{ghosts}
use Rattle.heap_embed.specs.declared.ask.Ask.{Ask}
use Rattle.heap_embed.specs.Embedding.{Answers}
use Rattle.heap_embed.proofs.state.State.answer.Goals as goal

pub returns-in-Event : goal.returns-in-Event
returns-in-Event c =
    subst (λ (asked : Ask). Answers ghosts c.args.self.now asked c.step.result c.step.new.self) (sym c.in-Event.is)
    (c.step.ensures.made, c.step.ensures.stranger, c.step.ensures.closed)

pub returns-in-Format : goal.returns-in-Format
returns-in-Format c =
    subst (λ (asked : Ask). Answers ghosts c.args.self.now asked c.format.result c.format.new.self) (sym c.in-Format.is)
    (c.format.ensures.limits, c.format.ensures.made)
