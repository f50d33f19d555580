use Rattle.std.proofs.Common.{◌∷◌, ◌++◌, []}
use Rattle.std.specs.Prelude.{map}
use Rattle.log_records.specs.Record.{copy_record}
use Rattle.log_records.specs.declared.Record.TheVariants.{Scan}
use Rattle.logged_pages.proofs.Putting.{IsPutting}
use Rattle.page_scanner.specs.PageCopies.{copies_left}
use Rattle.page_scanner.specs.PageScan.{records_in}
use Rattle.heap_engine.proofs.planned.carry_scan.Given as goal

-- the copies that are left, and the scan after them, are put yet
abbrev pub invariant-loop-copy : goal.invariant-loop-copy
invariant-loop-copy g l = record {
  can_next : (goal.iterator-loop-copy g).can_next l.copy-iterator;
  is_finite : (goal.iterator-loop-copy g).is_finite l.copy-iterator;
  putting : IsPutting g.D.Disk l.fn.pages l.pages l.fn.disk l.disk l.first (records_in l.scan) l.lsn (map copy_record (copies_left l.copy-iterator) ++ Scan l.scan.page l.scan.writes ∷ []);
}
