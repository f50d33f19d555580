-- An event with a barrier is made on the core after the barrier, and leaves the memory of the core after both.
use Rattle.std.proofs.Common.{◌≡◌, ℕ, List, ◌++◌, sym, ap, ◌∙◌, subst, append_assoc}
use Rattle.std.specs.Prelude.{fold}
use Rattle.std.proofs.lemmas.List.Sums.{fold-append}
use Rattle.graph_model.specs.declared.event.Event.{Event}
use Rattle.graph_model.specs.declared.reply.Entry.{Entry}
use Rattle.graph_model.specs.declared.reply.Reply.{Reply}
use Rattle.graph_model.specs.History.{account, account_after}
use Rattle.graph_model.specs.Transaction.{IsCall}
use Rattle.log_records.specs.declared.Record.{Record}
use Rattle.log_machine.specs.Machine.{put_record}
use Rattle.object_locks.specs.Holdings.{Holdings}
use Rattle.txn_table.specs.Table.{TableState}
use Rattle.heap_model.specs.Core.{Core, barrier_records, done, event_places, ground, records_for}
use Rattle.heap_model.proofs.Step.Moved.{moved_is}
use Rattle.core_laws.proofs.Step.Forms.{call_plain, done_records, granted_plain}
use Rattle.heap_memory.specs.Memory.{Memory}
use Rattle.heap_memory.specs.Leaves.{Leaves}
use Rattle.heap_memory.specs.Collecting.{collection_behind, collection_with, spaces_behind, spaces_with}
use Rattle.memory_laws.specs.CoreMemory.{IsMemory}
use Rattle.memory_laws.proofs.Behind.Sessions.{core_behind, memory_behind}
use Rattle.memory_laws.proofs.Kept.Parts.{HasDisk, Turns, disk_left, whole_of}
use Rattle.memory_laws.proofs.Step.Answered.{Goes}
use Rattle.memory_laws.proofs.Step.Appended.{Passes, Tells, own_at, own_done, told_after}

-- a core with an event's own records after the pending ones, where its history is another's
abbrev with_event : Core → Event → Core → Core
with_event c event b = record b { pending = b.pending ++ records_for (ground b) c.g0 (account c.history) event; places = b.places ++ event_places b event }

-- What a call leaves after its barrier it leaves of the core.
pub goes_behind : (n : Memory) (c : Core) (event : Event) → IsCall event → Passes n (core_behind c (barrier_records c event)) event → Goes n c event
goes_behind n c event is passes =
    let d = core_behind c (barrier_records c event) in
    let left : done c event ≡ own_done d event = done_records c event is ∙ ap (with_event c event) (moved_is c (barrier_records c event)) in
    subst (λ (reply : Reply). let entry : Entry = record { event = event; reply = reply } in IsMemory n (account_after (account c.history) entry) (done c event)) (sym (granted_plain c event (call_plain event is)))
    (subst (λ (e : Core). IsMemory n (told_after d event) e) (sym left) passes)

module _ (m n : Memory) (c : Core) (is : IsMemory m (account c.history) c) (records own all : List Record) (parts : all ≡ records ++ own)
    {table : TableState} {locks : Holdings} {count : ℕ} (left : Leaves m n all table locks (spaces_behind m.spaces all) (collection_behind m.collection all) count) where
  -- what memory has of the disk when these records were carried out, and those of the event after them
  disk_behind : (event : Event) → own_at (core_behind c records) event ≡ own → HasDisk n (own_done (core_behind c records) event)
  disk_behind event same =
      let d = core_behind c records in
      let places = d.places ++ event_places d event in
      let whole : HasDisk n (record c { pending = c.pending ++ all; places = places; remaining = d.remaining }) = disk_left m n (account c.history) c all places d.remaining is left in
      let list : c.pending ++ all ≡ (c.pending ++ records) ++ own_at d event =
      ap (λ (rs : List Record). c.pending ++ rs) parts ∙ sym (append_assoc c.pending records own) ∙ ap (λ (rs : List Record). (c.pending ++ records) ++ rs) (sym same) in
      subst (λ (rs : List Record). HasDisk n (record c { pending = rs; places = places; remaining = d.remaining })) list whole

  -- and what it works with, by the event's own records
  pub turns_behind : Turns (memory_behind m records) n own table locks (spaces_behind (memory_behind m records).spaces own) (collection_behind (memory_behind m records).collection own) count
  turns_behind = record {
    words = left.words ∙ ap (λ (rs : List Record). fold put_record m.words rs) parts ∙ fold-append put_record m.words records own;
    table = left.table;
    locks = left.locks;
    spaces = left.spaces ∙ ap (λ (rs : List Record). spaces_behind m.spaces rs) parts ∙ fold-append spaces_with m.spaces records own;
    collection = left.collection ∙ ap (λ (rs : List Record). collection_behind m.collection rs) parts ∙ fold-append collection_with m.collection records own;
    sealed = left.sealed;
  }

  -- so where the sessions in memory are the core's, all that is kept there is
  pub passes_behind : (event : Event) → own_at (core_behind c records) event ≡ own → Tells n (core_behind c records) event → Passes n (core_behind c records) event
  passes_behind event same tells =
      let d = core_behind c records in
      whole_of n (told_after d event) (own_done d event) (disk_behind event same) tells
