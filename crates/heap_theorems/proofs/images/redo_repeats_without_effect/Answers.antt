use Rattle.page_redo.proofs.PrefixLaws.{redone-redone}
use Rattle.heap_theorems.proofs.images.redo_repeats_without_effect.Goals as goal

pub returns : goal.returns
returns c = redone-redone
