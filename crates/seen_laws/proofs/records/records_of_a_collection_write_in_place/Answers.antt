use Rattle.seen_laws.proofs.Writes.{collection_writes}
use Rattle.seen_laws.proofs.records.records_of_a_collection_write_in_place.Goals as goal

pub returns : goal.returns
returns c s n rec is follows = collection_writes s n rec is follows
