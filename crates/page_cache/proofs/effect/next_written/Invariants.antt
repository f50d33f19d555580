use Rattle.std.proofs.Common.{take}
use Rattle.page_cache.specs.ByPage.{IsNextOf}
use Rattle.page_cache.specs.Writing.{pages_of}
use Rattle.page_cache.proofs.effect.next_written.Given as goal

-- the next page of the writes so far is found
abbrev pub invariant-loop-address : goal.invariant-loop-address
invariant-loop-address l = IsNextOf (pages_of (take l.address-index l.writes)) l.from l.next
