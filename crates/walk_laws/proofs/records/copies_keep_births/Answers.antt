use Rattle.collection_words.proofs.Copy.Words.{IsCopying}
use Rattle.collection_words.proofs.Laid.Underway.{underway}
use Rattle.walk_laws.proofs.Birth.Copied.{copy_births}
use Rattle.walk_laws.proofs.records.copies_keep_births.Goals as goal

pub returns : goal.returns
returns c s k places remaining words id from is own left tells =
    let copying : IsCopying s k places remaining words id from = record { is = underway is; own = own; left = left } in copy_births copying is.small tells
