use Rattle.std.proofs.Common.{◌*◌, inl, inr, arith}
use Rattle.std.proofs.lemmas.Bool.{cases_lt}
use Rattle.std.proofs.lemmas.List.{get_or_past}
use Rattle.heap_spaces.proofs.GroupLaws.{pages-length}
use Rattle.heap_spaces.proofs.page_table.PageTable.next_from.Goals as goal

pub returns-clause-none : goal.returns-clause-none
returns-clause-none c p from =
    let table = c.args.self.now in
    elim (cases_lt p (64 * c.loop-g.g)) [
      | inl before ↦ c.loop-g.invariant p from before
      | inr ge ↦
          get_or_past table.numbers p 0 (omega (arith, ge, c.loop-g-test.false, c.len-g-end.ensures, pages-length c.self.inside.groups.items table c.self.view_is c.self.invariant.each))
    ]
