use Rattle.std.proofs.Common.{◌+◌, drop}
use Rattle.logged_pages.proofs.Putting.{IsPutting}
use Rattle.logged_pages.proofs.records.ListedRecords.carry.Given as goal

-- those from the index on are left
abbrev pub invariant-loop-i : goal.invariant-loop-i
invariant-loop-i g l = IsPutting g.D.Disk l.fn.pages l.pages l.fn.disk l.disk l.first l.rec-items (l.first + l.i) (drop l.i l.rec-items)
