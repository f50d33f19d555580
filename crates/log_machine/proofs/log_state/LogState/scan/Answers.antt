use Rattle.std.proofs.Common.{sym}
use Rattle.log_machine.proofs.CopyRows.{consistent_page, scan_follows}
use Rattle.log_machine.proofs.log_state.LogState.scan.Goals as goal

pub invariant_of-self : goal.invariant_of-self
invariant_of-self c = consistent_page _ c.scan_page.new.collection c.args.page c.self.invariant c.scan_page.ensures

pub returns-clause-ok : goal.returns-clause-ok
returns-clause-ok c =
    scan_follows _ c.args.self.now c.args.page c.args.writes.now c.scan_page.new.collection c.self.view_is (sym c.if-not-is_collecting.ensures) (sym c.if-not-can_scan.ensures) c.scan_page.ensures
