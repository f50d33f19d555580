use Rattle.disk_model.specs.contracts.memory.MemoryDiskDisk.TheImpl.{ghosts}
use Rattle.heap_embed.proofs.Forgotten.{core_stays, heap_stays, asked_leaves}
use Rattle.heap_embed.proofs.open_heap.OpenHeap.forget.Goals as goal

pub returns-clause-heap : goal.returns-clause-heap
returns-clause-heap c =
    let narrows = asked_leaves c.forget.result c.args.self.now.disk c.forget.new.self c.forget.ensures.anew c.forget.ensures.kept in
    record {
      core = core_stays ghosts c.args.self.now.core c.args.self.now.disk c.forget.new.self c.forget.ensures.same narrows;
      holds = heap_stays ghosts c.args.self.now.core c.args.self.now.disk c.forget.new.self c.forget.ensures.same narrows;
    }
