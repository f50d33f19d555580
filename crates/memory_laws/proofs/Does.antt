-- What the law of each event comes to.
use Rattle.std.specs.Prelude.{◌≡◌}
use Rattle.graph_model.specs.declared.event.Event.{Event}
use Rattle.graph_model.specs.declared.reply.Reply.{Reply}
use Rattle.graph_model.specs.History.{account}
use Rattle.heap_memory.specs.Memory.{Memory}
use Rattle.heap_model.specs.Core.{Core, answer, after}
use Rattle.memory_laws.specs.CoreMemory.{IsMemory}

-- An event was answered as the core answers it, and left in memory what the core is then.
pub record Does (c : Core) (event : Event) (reply : Reply) (new : Memory) : Type 0 where
  pub replied : reply ≡ answer c event
  pub memory : IsMemory new (account (after c event).history) (after c event)
