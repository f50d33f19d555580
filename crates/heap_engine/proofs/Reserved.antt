-- What holds of a log still holds after more memory was allocated for it.
use Rattle.std.proofs.Common.{◌≡◌, ◌+◌, ◌≤◌, List, [], append-nil, sym, ◌∙◌, subst}
use Rattle.gated_log.specs.declared.log.Log.{Log}
use Rattle.gated_log.specs.LogRoom.{used_bytes}
use Rattle.gated_log.specs.LogState.{log_used, IsSameLog, Keeps}
use Rattle.heap_memory.specs.Leaves.{Adds}
use Rattle.log_records.specs.declared.Record.{Record}
use Rattle.memory_laws.proofs.Kept.Log.{keeps_same}

module _ (old mid : Log) (same : IsSameLog old mid) where
  -- the records that are added to it are added to the log as it was
  pub adds_to : (new : Log) (records : List Record) → Adds mid new records → Adds old new records
  adds_to new records adds = record {
    place = record { at = adds.place.at ∙ same.place.at; room = adds.place.room ∙ same.place.room; tail = adds.place.tail ∙ same.place.tail; forced = adds.place.forced ∙ same.place.forced };
    kept = λ batches pending keeps. adds.kept batches pending (keeps_same old mid batches pending same keeps);
  }

  -- or none are
  pub adds_none : Adds old mid []
  adds_none = record {
    place = same.place;
    kept = λ batches pending keeps. subst (Keeps mid batches) (sym (append-nil pending)) (keeps_same old mid batches pending same keeps);
  }

  -- as many of its bytes are used
  pub used_same : log_used mid ≡ log_used old
  used_same = λ i. used_bytes (same.place.tail i) (same.size i)
