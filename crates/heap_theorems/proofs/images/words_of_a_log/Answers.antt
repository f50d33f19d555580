use Rattle.page_redo.proofs.RedoLaws.{words_from-new}
use Rattle.heap_theorems.proofs.images.words_of_a_log.Goals as goal

pub returns : goal.returns
returns c = words_from-new
