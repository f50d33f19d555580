use Rattle.std.proofs.Common.{◌≡◌, List, length, sym, ap, ◌∙◌, arith}
use Rattle.std.specs.Prelude.{sum_by}
use Rattle.heap_spaces.specs.declared.collection.CopiedObject.{CopiedObject}
use Rattle.page_scanner.proofs.Copies.{copied-copies, words-all}
use Rattle.page_scanner.proofs.page_scan.PageScan.copied_words.Goals as goal

pub returns : goal.returns
returns c =
    let copies = c.self.inside.copies.items in
    let words = c.self.inside.words.items in
    let all : c.len.result ≡ length words = omega (arith, c.len.ensures, c.self.inside.words.ok) in
    rw (← c.self.view_is) (all ∙ sym (words-all copies words c.self.invariant.filled)
    ∙ ap (λ (l : List CopiedObject). sum_by (λ (k : CopiedObject). k.words) l) (sym (copied-copies copies words c.self.invariant.filled)))
