use Rattle.collection_words.proofs.Relocated.Stands.{relocated_stands}
use Rattle.collection_words.proofs.completing.relocated_graphs_stand.Goals as goal

pub returns : goal.returns
returns c t made places others g words moved base used new_base new_used stands placed is = relocated_stands others moved new_base new_used stands placed is
