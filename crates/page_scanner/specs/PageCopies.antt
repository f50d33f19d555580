-- The copies that an iterator has still to give.
use Rattle.std.specs.Prelude.{List}
use Rattle.log_records.specs.declared.copies.ObjectCopy.{ObjectCopy}
use Rattle.page_scanner.specs.declared.page_scan.PageCopies.{PageCopies}
use Rattle.page_scanner.specs.PageScan.{copies_of}

abbrev pub copies_left : PageCopies → List ObjectCopy
copies_left it = copies_of it.copies.now it.words.now
