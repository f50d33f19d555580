use Rattle.seen_laws.proofs.Writes.{transaction_writes}
use Rattle.seen_laws.proofs.records.records_of_transactions_write_in_place.Goals as goal

pub returns : goal.returns
returns c s n rec is follows = transaction_writes s n rec is follows
