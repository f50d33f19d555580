use Rattle.std.proofs.Common.{◌≡◌, ◌≤◌, ◌++◌, length, take, drop, sym, ap, arith}
use Rattle.std.proofs.lemmas.Grind.{common_steps}
use Rattle.heap_io.proofs.Streams.{taken_front}
use Rattle.heap_io.proofs.memory_source.MemorySourceSource.take.Goals as goal

pub returns-clause-taken : goal.returns-clause-taken
returns-clause-taken c =
    let n = c.copy_front-count.result in
    let left = c.args.self.now.left in
    let filled : c.copy_front-count.new.into ≡ take n left ++ drop n c.args.into.now = grind (arith, common_steps) in
    let within : n ≤ length left = grind (arith, common_steps) in
    taken_front c.self.inside.at n c.self.inside.bytes.items left c.args.into.now _ (ap (λ s. s.left) (sym c.self.view_is)) within filled
