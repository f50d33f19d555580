use Rattle.std.proofs.Common.{sym, ◌∙◌}
use Rattle.page_scanner.proofs.Copies.{copied-copies}
use Rattle.page_scanner.proofs.page_scan.PageScan.copies.Goals as goal

pub returns : goal.returns
returns c = rw (← c.self.view_is) (c.deref.ensures.value ∙ sym (copied-copies c.self.inside.copies.items c.self.inside.words.items c.self.invariant.filled))
