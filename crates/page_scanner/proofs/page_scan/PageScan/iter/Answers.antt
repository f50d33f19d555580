use Rattle.std.proofs.Common.{List, length, sym, ap, ◌∙◌}
use Rattle.std.specs.Prelude.{sum_by}
use Rattle.heap_spaces.specs.declared.collection.CopiedObject.{CopiedObject}
use Rattle.page_scanner.proofs.Copies.{words-all}
use Rattle.page_scanner.proofs.page_scan.PageScan.iter.Goals as goal

pub invariant_of-result : goal.invariant_of-result
invariant_of-result c = record {
  filled =
      ap (λ (l : List CopiedObject). sum_by (λ (k : CopiedObject). k.words) l) c.deref.ensures.value
      ∙ words-all c.self.inside.copies.items c.self.inside.words.items c.self.invariant.filled
      ∙ ap (λ l. length l) (sym c.deref-2.ensures.value);
}
