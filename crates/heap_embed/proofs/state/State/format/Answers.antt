use Rattle.std.proofs.Common.{refl, inr, subst}
use Rattle.disk_model.specs.contracts.memory.MemoryDiskDisk.TheImpl.{ghosts}
use Rattle.heap_embed.specs.Formats.{WasFormatted}
use Rattle.image_plan.specs.declared.superblock.Super.{Super}
use Rattle.heap_embed.proofs.state.State.format.Goals as goal

pub returns-in-Ok-clause-made : goal.returns-in-Ok-clause-made
returns-in-Ok-clause-made c within =
    let made = c.format-answer in
    inr (record {
      disk = c.in-Ok.disk.disk;
      handed = c.in-Ok.ensures.hands;
      closed = made.result.1;
      now_closed = refl;
      made = subst (λ (of : Super). WasFormatted ghosts of c.in-Ok.disk.disk made.result.0 made.result.1.disk) c.in-Some.ensures.within.0 made.ensures;
    })
