use Rattle.std.proofs.Common.{◌≡◌, ◌+◌, List, ◌++◌, length, reverse}
use Rattle.gated_log.specs.LogState.{buffer_size, log_count, IsPlaced, Keeps, KeepsMemory}
use Rattle.log_records.specs.declared.Record.{Record}
use Rattle.log_records.specs.Record.{spellings}
use Rattle.log_machine.specs.Machine.{abort_records}
use Rattle.logged_pages.proofs.taken_back.TakenBackRecords.append.Given as goal

-- the records so far are appended, and the others are still to come
abbrev pub invariant-loop-entry : goal.invariant-loop-entry
invariant-loop-entry l =
    let rest = abort_records l.self.t (reverse l.entry-iterator.iter.rest.now) in
    let all = abort_records l.self.t (reverse l.self.undo.now) in
    record {
      place : IsPlaced l.fn.log l.log;
      kept : (batches : List (List Record)) (pending : List Record) → Keeps l.fn.log batches pending → (so_far : List Record) × Keeps l.log batches (pending ++ so_far) × (so_far ++ rest ≡ all);
      size : buffer_size l.log + length (spellings rest) ≡ buffer_size l.fn.log + length (spellings all);
      count : log_count l.log + length rest ≡ log_count l.fn.log + length all;
      memory : KeepsMemory l.fn.log l.log;
    }
