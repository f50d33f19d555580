use Rattle.seen_laws.proofs.States.{viewed_field}
use Rattle.seen_laws.proofs.transactions.transactions_find_fields.Goals as goal

pub returns : goal.returns
returns c s places remaining words t made g id at i heap backed stands there within black unwritten = viewed_field s places remaining words heap backed stands id at i there within black unwritten
