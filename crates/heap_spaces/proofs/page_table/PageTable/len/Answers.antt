use Rattle.std.proofs.Common.{arith}
use Rattle.heap_spaces.proofs.GroupLaws.{pages-length}
use Rattle.heap_spaces.proofs.page_table.PageTable.len.Goals as goal

pub returns : goal.returns
returns c = omega (arith, c.len.ensures, pages-length c.self.inside.groups.items c.args.self.now c.self.view_is c.self.invariant.each)
