use Rattle.std.proofs.Common.{◌≡◌, ℕ, ◌*◌, ◌<◌, ◌≤◌, get_or}
use Rattle.heap_spaces.proofs.page_table.PageTable.next_from.Given as goal

-- the pages so far have no number
abbrev pub invariant-loop-g : goal.invariant-loop-g
invariant-loop-g l = (p : ℕ) → l.page ≤ p → p < 64 * l.g → get_or l.self.numbers p 0 ≡ 0
