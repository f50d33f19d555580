use Rattle.std.proofs.Common.{[], ◌∷◌, fold, sym, ap, ◌∙◌}
use Rattle.std.specs.Prelude.{map}
use Rattle.std.proofs.lemmas.List.Sums.{fold-append}
use Rattle.log_records.specs.declared.Record.TheVariants.{Scan}
use Rattle.log_records.specs.Record.{copy_record}
use Rattle.page_scanner.specs.PageCopies.{copies_left}
use Rattle.heap_engine.specs.Barrier.{word_with, write_at}
use Rattle.heap_engine.proofs.PlannedScan.{records_more, taken_more, records_end}
use Rattle.heap_engine.proofs.barrier.scanned_word.Goals as goal

pub loop-copy-preserved : goal.loop-copy-preserved
loop-copy-preserved c =
    let l = c.loop-copy in
    let copy = c.in-Some.copy in
    record {
      can_next = tt;
      is_finite = tt;
      left = taken_more c.args.scan.now l.yielded (copies_left l.copy-iterator) (copies_left c.next.new.self) copy l.invariant.left c.in-Some.ensures.steps;
      so_far =
          c.word_with-behind.ensures
          ∙ ap (λ w. word_with c.args.at w (copy_record copy)) l.invariant.so_far
          ∙ sym (fold-append (word_with c.args.at) c.args.word (map copy_record l.yielded) (copy_record copy ∷ []))
          ∙ ap (fold (word_with c.args.at) c.args.word) (sym (records_more l.yielded copy));
    }

pub returns : goal.returns
returns c =
    let l = c.loop-copy in
    let scan = c.args.scan.now in
    c.written_word.ensures
    ∙ (λ i. fold (write_at c.args.at) (l.invariant.so_far i) (c.writes.ensures i))
    ∙ sym (fold-append (word_with c.args.at) c.args.word (map copy_record l.yielded) (Scan scan.page scan.writes ∷ []))
    ∙ ap (fold (word_with c.args.at) c.args.word) (sym (records_end scan l.yielded (copies_left l.copy-iterator) l.invariant.left c.in-None.ensures.steps.0))
