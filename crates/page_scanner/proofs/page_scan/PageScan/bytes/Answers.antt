-- The bytes of the copies are counted, and their number fits.
use Rattle.std.proofs.Common.{◌≡◌, ℕ, List, length, sym, ap, arith}
use Rattle.page_scanner.proofs.Copies.{length-copies, few-copies, length-records}
use Rattle.page_scanner.proofs.page_scan.PageScan.bytes.Goals as goal

pub overflow_add-result : goal.overflow_add-result
overflow_add-result c =
    let all = c.self.inside in
    let is = c.self.invariant in
    omega (arith, few-copies all.copies.items all.words.items is.filled, length-copies all.copies.items all.words.items is.filled, is.small, ap (λ (l : List ℕ). length l) is.spelled, c.len.ensures, all.spelled.ok)

pub returns : goal.returns
returns c =
    let all = c.self.inside in
    let count : c.len.result ≡ length all.spelled.items = omega (arith, c.len.ensures, all.spelled.ok) in
    rw (← c.self.view_is) (rw (count, c.length.ensures.value) (sym (length-records all.copies.items all.words.items all.spelled.items all.page all.scan c.self.invariant)))
