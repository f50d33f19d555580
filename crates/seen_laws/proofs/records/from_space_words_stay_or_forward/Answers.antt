use Rattle.std.proofs.Common.{inl, inr}
use Rattle.seen_laws.proofs.Still.{collection_still, transaction_still}
use Rattle.seen_laws.proofs.records.from_space_words_stay_or_forward.Goals as goal

pub returns : goal.returns
returns c s n rec words at is (inl follows) other = transaction_still s n rec words at is follows other
returns c s n rec words at is (inr follows) other = collection_still s n rec words at is follows other
