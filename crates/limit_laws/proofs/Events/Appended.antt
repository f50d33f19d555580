-- What an event adds to the records of a core: those that it appends, whether they are pending or forced.
use Rattle.std.proofs.Common.{◌≡◌, List, [], ◌∷◌, ◌++◌, refl, sym, ap, ◌∙◌, append_assoc}
use Rattle.std.proofs.lemmas.List.{append-nil}
use Rattle.graph_model.specs.declared.event.Event.{Event}
use Rattle.graph_model.specs.declared.event.Event.TheVariants.{Force, Flip, Scan, Flush}
use Rattle.log_records.specs.declared.Record.{Record}
use Rattle.gated_log.specs.Log.{records_of}
use Rattle.heap_model.specs.Core.{Core, Transfer, Lands, Stores, all_records, barrier_records, batch_of, done, event_records, every_record, landed, made, moved, noted, own_records, transfers}
use Rattle.heap_model.proofs.Step.Moved.{moved_is, moved_keeps}
use Rattle.heap_model.proofs.Step.Transfers.{all_made, records_made}

all_moved : (c : Core) (rs : List Record) → all_records (moved c rs) ≡ all_records c ++ rs
all_moved c rs = ap all_records (moved_is c rs) ∙ sym (append_assoc (records_of c.batches) c.pending rs)

more_moved : (c : Core) (rs own : List Record) → records_of (moved c rs).batches ++ ((moved c rs).pending ++ own) ≡ all_records c ++ (rs ++ own)
more_moved c rs own =
    ap (λ (d : Core). records_of d.batches ++ (d.pending ++ own)) (moved_is c rs)
    ∙ sym (append_assoc (records_of c.batches) (c.pending ++ rs) own)
    ∙ ap (λ (l : List Record). l ++ own) (sym (append_assoc (records_of c.batches) c.pending rs))
    ∙ append_assoc (all_records c) rs own

all_noted : (c : Core) (event : Event) → all_records (noted c event) ≡ all_records c ++ event_records c event
all_noted c Force = sym (append-nil (all_records c))
all_noted c (Flush p) = sym (append-nil (all_records c))
all_noted c Flip = all_moved c (own_records c Flip)
all_noted c Scan = all_moved c (own_records c Scan)
all_noted c event = more_moved c (barrier_records c event) (own_records c event)

-- an event that is granted leaves the records that it appends after the others
pub all_done : (c : Core) (event : Event) → all_records (done c event) ≡ all_records c ++ event_records c event
all_done c event = records_made (noted c event) (transfers c event) ∙ all_noted c event

-- No event truncates the log.

truncated_landed : (c : Core) (waits : List (List Record)) → (landed c waits).truncated ≡ c.truncated
truncated_landed c [] = refl
truncated_landed c (next ∷ waits) = refl

truncated_made : (c : Core) (t : Transfer) → (made c t).truncated ≡ c.truncated
truncated_made c Lands = truncated_landed c (batch_of c.pending)
truncated_made c (Stores p lsn) = refl

truncated_noted : (c : Core) (event : Event) → (noted c event).truncated ≡ c.truncated
truncated_noted c Force = refl
truncated_noted c (Flush p) = refl
truncated_noted c Flip = moved_keeps (λ (d : Core). d.truncated ≡ c.truncated) c (own_records c Flip) refl
truncated_noted c Scan = moved_keeps (λ (d : Core). d.truncated ≡ c.truncated) c (own_records c Scan) refl
truncated_noted c event = moved_keeps (λ (d : Core). d.truncated ≡ c.truncated) c (barrier_records c event) refl

truncated_done : (c : Core) (event : Event) → (done c event).truncated ≡ c.truncated
truncated_done c event = all_made (λ (d : Core). d.truncated ≡ c.truncated) (λ d t same. truncated_made d t ∙ same) (noted c event) (transfers c event) (truncated_noted c event)

-- so one that is granted leaves its records after every other
pub every_done : (c : Core) (event : Event) → every_record (done c event) ≡ every_record c ++ event_records c event
every_done c event =
    ap (λ (rs : List Record). rs ++ all_records (done c event)) (truncated_done c event)
    ∙ ap (λ (rs : List Record). c.truncated ++ rs) (all_done c event)
    ∙ sym (append_assoc c.truncated (all_records c) (event_records c event))
