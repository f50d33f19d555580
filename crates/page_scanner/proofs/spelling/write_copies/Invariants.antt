use Rattle.std.proofs.Common.{◌≡◌, ◌++◌, take, length, map}
use Rattle.log_records.specs.Record.{copy_record, spellings}
use Rattle.page_scanner.specs.PageCopies.{copies_left}
use Rattle.page_scanner.proofs.spelling.write_copies.Given as goal

-- the copies so far are spelled, and there is a place for the others
abbrev pub invariant-loop-copy : goal.invariant-loop-copy
invariant-loop-copy l = record {
  can_next : (goal.iterator-loop-copy).can_next l.copy-iterator;
  is_finite : (goal.iterator-loop-copy).is_finite l.copy-iterator;
  left : copies_left l.fn.copies ≡ l.yielded ++ copies_left l.copy-iterator;
  size : length l.into ≡ length (spellings (map copy_record (copies_left l.fn.copies)));
  place : l.at ≡ length (spellings (map copy_record l.yielded));
  front : take l.at l.into ≡ spellings (map copy_record l.yielded);
}
