use Rattle.std.proofs.Common.{◌≡◌, Ok, sym, subst}
use Rattle.std.specs.Prelude.{Option}
use Rattle.page_scanner.specs.PageScan.{ScanState}
use Rattle.logged_pages.proofs.PutSteps.{puts_none}
use Rattle.logged_pages.specs.Advancing.{PutsAll}
use Rattle.heap_engine.specs.Barrier.{planned_records}
use Rattle.heap_engine.proofs.planned.PagePlanRecords.carry.Goals as goal

pub returns-in-None : goal.returns-in-None
returns-in-None g c =
    let Puts : Option ScanState → Type 0 = λ scan. PutsAll g.D.Disk c.args.pages.now c.args.pages.now c.args.disk.now c.args.disk.now (Ok tt) c.args.first (planned_records scan) in
    record { puts = subst Puts (sym (c.scan.ensures.none c.in-None.is)) (puts_none g.D.Disk c.args.pages.now c.args.disk.now c.args.first c.requires.works (λ told. g.met.D.Disk.only_now told c.args.disk.now)) }
