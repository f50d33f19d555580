use Rattle.std.proofs.Common.{sym, ap}
use Rattle.disk_model.specs.contracts.memory.MemoryDiskDisk.TheImpl.{ghosts}
use Rattle.heap_embed.specs.Embedding.{event_answer}
use Rattle.heap_embed.proofs.Answering.{makes_event}
use Rattle.heap_embed.proofs.state.State.step.Goals as goal

pub returns-in-Ok-clause-made : goal.returns-in-Ok-clause-made
returns-in-Ok-clause-made c heap is of = makes_event ghosts c.args.event c.args.self.now c.in-Open.heap heap c.step.new.self c.step.result _ c.in-Open.is is (sym (ap event_answer c.in-Ok.is)) c.step.ensures

pub returns-in-Err-clause-made : goal.returns-in-Err-clause-made
returns-in-Err-clause-made c heap is of = makes_event ghosts c.args.event c.args.self.now c.in-Open.heap heap c.step.new.self c.step.result _ c.in-Open.is is (sym (ap event_answer c.in-Err.is)) c.step.ensures
