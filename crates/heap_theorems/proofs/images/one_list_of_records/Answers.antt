use Rattle.log_records.proofs.RecordLaws.{one_list}
use Rattle.heap_theorems.proofs.images.one_list_of_records.Goals as goal

pub returns : goal.returns
returns c = one_list
