use Rattle.std.proofs.Common.{List, length, sym, ap, ◌∙◌}
use Rattle.std.specs.Prelude.{sum_by}
use Rattle.heap_spaces.specs.declared.collection.CopiedObject.{CopiedObject}
use Rattle.page_scanner.proofs.Copies.{words-all}
use Rattle.page_scanner.proofs.page_scan.PageScan.of.Goals as goal

pub invariant_of-copies : goal.invariant_of-copies
invariant_of-copies c = record {
  filled =
      ap (λ (l : List CopiedObject). sum_by (λ (k : CopiedObject). k.words) l) c.deref.ensures.value
      ∙ words-all c.args.plan.copies.items c.args.plan.words.items c.requires.plan.filled
      ∙ ap (λ l. length l) (sym c.deref-2.ensures.value);
}
