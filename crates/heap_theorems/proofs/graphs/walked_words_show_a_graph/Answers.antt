use Rattle.object_layout.proofs.WalkedLaws.{walked_seen}
use Rattle.heap_theorems.proofs.graphs.walked_words_show_a_graph.Goals as goal

pub returns : goal.returns
returns c = walked_seen
