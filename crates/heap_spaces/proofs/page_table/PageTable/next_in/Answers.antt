use Rattle.std.proofs.Common.{◌≡◌, ◌*◌, ◌+◌, ◌-◌, get_or, ap, ◌∙◌, inl, inr, arith}
use Rattle.std.proofs.lemmas.Bool.{cases_lt}
use Rattle.std.proofs.lemmas.List.{get_or_past}
use Rattle.heap_spaces.proofs.page_table.PageTable.next_in.Goals as goal

pub returns-clause-none : goal.returns-clause-none
returns-clause-none c p from to =
    let g = c.args.group in
    let numbers = c.group_at-numbers.result.now in
    elim (cases_lt p (64 * g + c.loop-i.i)) [
      | inl before ↦ c.loop-i.invariant p from before
      | inr ge ↦
          let at : p ≡ 64 * g + (p - 64 * g) = omega (arith, from) in
          ap (λ n. get_or c.args.self.now.numbers n 0) at
          ∙ c.group_at-numbers.ensures.numbers (p - 64 * g) (omega (arith, to, from))
          ∙ get_or_past numbers (p - 64 * g) 0 (omega (arith, ge, c.loop-i-test.false, c.loop-i.auto.i-end))
    ]
