use Rattle.std.proofs.Common.{◌≡◌, ◌++◌, fold}
use Rattle.std.specs.Prelude.{map}
use Rattle.log_records.specs.Record.{copy_record}
use Rattle.page_scanner.specs.PageCopies.{copies_left}
use Rattle.heap_engine.specs.Barrier.{word_with}
use Rattle.heap_engine.proofs.barrier.scanned_word.Given as goal

-- the copies so far have been looked at, and the others are still to come
abbrev pub invariant-loop-copy : goal.invariant-loop-copy
invariant-loop-copy l = record {
  can_next : (goal.iterator-loop-copy).can_next l.copy-iterator;
  is_finite : (goal.iterator-loop-copy).is_finite l.copy-iterator;
  left : l.scan.copies ≡ l.yielded ++ copies_left l.copy-iterator;
  so_far : l.behind ≡ fold (word_with l.at) l.word (map copy_record l.yielded);
}
