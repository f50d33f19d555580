use Rattle.std.proofs.Common.{◌≡◌, ℕ, ◌+◌, ◌*◌, ◌<◌, ◌≤◌, get_or}
use Rattle.heap_spaces.proofs.page_table.PageTable.next_in.Given as goal

-- the pages so far have no number
abbrev pub invariant-loop-i : goal.invariant-loop-i
invariant-loop-i l = (p : ℕ) → 64 * l.group + l.place ≤ p → p < 64 * l.group + l.i → get_or l.self.numbers p 0 ≡ 0
