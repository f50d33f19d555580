use Rattle.std.proofs.Common.{rules, sym, subst}
use Rattle.disk_model.specs.Memory.{Memory}
use Rattle.disk_model.specs.contracts.memory.MemoryDiskDisk.TheImpl.{ghosts}
use Rattle.heap_core.specs.declared.in_memory.HeapCore.{HeapCore}
use Rattle.heap_embed.specs.OpenHeaps.{WasOpened}
use Rattle.heap_embed.proofs.open_heap.OpenHeap.open.Goals as goal

pub returns-in-Ok-clause-opened : goal.returns-in-Ok-clause-opened
returns-in-Ok-clause-opened c =
    let made : WasOpened ghosts c.args.disk.disk c.in-Ok.heap.core c.in-Ok.heap.disk = record {
      image = c.in-Ok.ensures.image;
      unfailed = c.in-Ok.ensures.unfailed;
      sound = c.in-Ok.ensures.sound (search rules);
      found = c.in-Ok.ensures.found (search rules);
      holds = c.in-Ok.ensures.holds (search rules);
    } in
    subst (λ (parts : HeapCore × Memory). WasOpened ghosts c.args.disk.disk parts.0 parts.1) (sym c.into_parts-core.ensures.parts) made
