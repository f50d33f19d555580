use Rattle.seen_laws.proofs.States.{viewed_object}
use Rattle.seen_laws.proofs.transactions.transactions_find_lengths.Goals as goal

pub returns : goal.returns
returns c s places remaining words t made g id at heap backed stands there = viewed_object s places remaining words heap backed stands id at there
