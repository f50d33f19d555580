use Rattle.heap_engine.proofs.TakenBack.{all_back}
use Rattle.heap_engine.proofs.barrier.take_back_copies.Goals as goal

pub returns-in-Some : goal.returns-in-Some
returns-in-Some c before fresh kept =
    all_back before c.args.collection.now c.in-Some.running c.take_back.new.self c.args.copies.now fresh c.in-Some.is kept
    (record { used = c.take_back.ensures.used; copied = c.take_back.ensures.copied; moved = c.take_back.ensures.moved; gray = c.take_back.ensures.gray })
