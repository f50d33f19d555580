use Rattle.page_redo.proofs.RedoLaws.{heap_words}
use Rattle.heap_theorems.proofs.images.words_of_a_new_log.Goals as goal

pub returns : goal.returns
returns c = heap_words
