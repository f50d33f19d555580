use Rattle.std.proofs.Common.{sym}
use Rattle.page_scanner.proofs.Copies.{length-copies}
use Rattle.page_scanner.proofs.spelling.bytes_of.Goals as goal

pub returns : goal.returns
returns c = sym (length-copies c.args.copies.now c.args.words.now c.requires.filled)
