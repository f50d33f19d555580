use Rattle.std.proofs.Common.{◌≡◌, ℕ, length, map, get_or}
use Rattle.heap_spaces.specs.PageTable.{AreGroups, numbers_in, rooms_of}
use Rattle.heap_spaces.proofs.GroupLaws.{items}
use Rattle.heap_spaces.proofs.page_table.PageTable.grow_to.Given as goal

-- there are as many groups as have been passed, and the new ones have no memory
abbrev pub invariant-loop-g : goal.invariant-loop-g
invariant-loop-g l = record {
  sound : AreGroups (map items l.self-inside.groups.items);
  room : (k : ℕ) → get_or (rooms_of (map items l.self-inside.groups.items)) k 0 ≡ get_or l.fn.self.room k 0;
  same : (p : ℕ) → get_or (numbers_in (map items l.self-inside.groups.items)) p 0 ≡ get_or l.fn.self.numbers p 0;
  passed : l.g ≡ length l.self-inside.groups.items;
}
