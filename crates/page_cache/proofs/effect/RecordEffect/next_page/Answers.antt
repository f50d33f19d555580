use Rattle.std.proofs.Common.{ℕ, List, [], ap, sym, subst, ◌∙◌}
use Rattle.log_machine.specs.Machine.{effect}
use Rattle.page_cache.specs.ByPage.{IsNextOf}
use Rattle.page_cache.specs.Writing.{pages_of}
use Rattle.page_cache.proofs.ByPageLaws.{next_touched}
use Rattle.page_cache.proofs.effect.RecordEffect.next_page.Goals as goal

pub returns-in-Scan : goal.returns-in-Scan
returns-in-Scan c =
    let are = c.as_slice.ensures.writes ∙ ap (effect []) (sym c.in-Scan.is) in
    next_touched [] c.args.self.now c.args.from c.next_written.result (subst (λ (l : List (ℕ × ℕ)). IsNextOf (pages_of l) c.args.from c.next_written.result) are c.next_written.ensures)
