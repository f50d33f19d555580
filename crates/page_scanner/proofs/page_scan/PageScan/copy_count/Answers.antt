use Rattle.std.proofs.Common.{◌≡◌, length, sym, ◌∙◌, arith}
use Rattle.page_scanner.proofs.Copies.{length-copies_of}
use Rattle.page_scanner.proofs.page_scan.PageScan.copy_count.Goals as goal

pub returns : goal.returns
returns c =
    let copies = c.self.inside.copies.items in
    let count : c.len.result ≡ length copies = omega (arith, c.len.ensures, c.self.inside.copies.ok) in
    rw (← c.self.view_is) (count ∙ sym (length-copies_of copies c.self.inside.words.items))
