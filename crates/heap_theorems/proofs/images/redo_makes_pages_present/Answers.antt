use Rattle.page_redo.proofs.PrefixLaws.{redone-words}
use Rattle.heap_theorems.proofs.images.redo_makes_pages_present.Goals as goal

pub returns : goal.returns
returns c = redone-words
