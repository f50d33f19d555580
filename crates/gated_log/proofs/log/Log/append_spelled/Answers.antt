-- Spelled records are no more than their bytes.
use Rattle.std.proofs.Common.{◌≡◌, ◌+◌, ◌≤◌, ℕ, List, length, ap, arith}
use Rattle.log_records.specs.Record.{spellings}
use Rattle.log_records.proofs.RecordLaws.{few_spelled}
use Rattle.gated_log.proofs.LogForce.{few_records, few_bytes}
use Rattle.gated_log.specs.LogState.{buffer_size, log_tail, log_room}
use Rattle.gated_log.proofs.log.Log.append_spelled.Goals as goal

pub overflow_add-self : goal.overflow_add-self
overflow_add-self c =
    let log = c.args.self.now in
    let told = c.requires.spelled in
    let more = length c.args.spelled.now in
    let bytes : more ≡ length (spellings told.0) = ap (λ (l : List ℕ). length l) told.1 in
    let few : c.args.count ≤ more = omega (arith, few_spelled told.0, bytes, told.2) in
    omega (arith, few, few_records log, few_bytes (log_tail log) (buffer_size log + more) (log_room log) c.requires.room log.small)

pub invariant_of-self-2-clause-few_waiting : goal.invariant_of-self-2-clause-few_waiting
invariant_of-self-2-clause-few_waiting c =
    let told = c.requires.spelled in
    let more = length c.args.spelled.now in
    let bytes : more ≡ length (spellings told.0) = ap (λ (l : List ℕ). length l) told.1 in
    let few : c.args.count ≤ more = omega (arith, few_spelled told.0, bytes, told.2) in
    omega (arith, few, c.args.self.now.few_waiting, c.in_ok-reserve.ensures, c.in_ok-extend_from_slice.ensures)
