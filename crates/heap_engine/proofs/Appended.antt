-- A log to which records are appended, one after another.
use Rattle.std.proofs.Common.{◌≡◌, ℕ, ◌+◌, ◌<◌, ◌≤◌, ◌^◌, List, [], ◌∷◌, ◌++◌, length, sym, ap, ◌∙◌, subst, arith, append_assoc, length-append}
use Rattle.std.proofs.lemmas.Bool.Decides.{nat_tests}
use Rattle.std.proofs.lemmas.List.Concat.{flat_map-append}
use Rattle.gated_log.specs.declared.log.Log.{Log}
use Rattle.gated_log.specs.LogRoom.{used_bytes, need_bytes}
use Rattle.gated_log.specs.LogState.{log_room, log_tail, log_used, log_used_with, log_need, log_count, buffer_size, HasSpare, KeepsMemory, IsPlaced, Keeps}
use Rattle.log_records.specs.declared.Record.{Record}
use Rattle.log_records.specs.Record.{spelling, spellings}
use Rattle.log_records.proofs.RecordLaws.{some_spelling}
use Rattle.logged_pages.specs.Appended.{IsAppended}
use Rattle.logged_pages.proofs.Spare.{size_after}

-- the bytes of records and more of them
pub spelled_more : (records more : List Record) → length (spellings (records ++ more)) ≡ length (spellings records) + length (spellings more)
spelled_more records more = ap length (flat_map-append spelling records more) ∙ length-append (spellings records) (spellings more)

-- and of one and more
pub spelled_first : (rec : Record) (rest : List Record) → length (spellings (rec ∷ rest)) ≡ length (spelling rec) + length (spellings rest)
spelled_first rec rest = length-append (spelling rec) (spellings rest)

-- one more record is
pub appended_more : (old mid new : Log) (records : List Record) (rec : Record) → IsAppended old mid records → IsPlaced mid new
    → ((batches : List (List Record)) (pending : List Record) → Keeps mid batches pending → Keeps new batches (pending ++ rec ∷ []))
    → log_used new ≡ log_used mid + log_need mid (length (spelling rec)) → log_count new ≡ log_count mid + 1 → KeepsMemory mid new → IsAppended old new (records ++ rec ∷ [])
appended_more old mid new records rec before place added used count memory =
    let size = size_after mid new (length (spelling rec)) (some_spelling rec) place.tail used in
    record {
      place = record { at = place.at ∙ before.place.at; room = place.room ∙ before.place.room; tail = place.tail ∙ before.place.tail; forced = place.forced ∙ before.place.forced };
      kept = λ batches pending keeps.
          subst (λ (rs : List Record). Keeps new batches rs) (append_assoc pending records (rec ∷ [])) (added batches (pending ++ records) (before.kept batches pending keeps));
      size = omega (arith, size, before.size, spelled_more records (rec ∷ []), spelled_first rec []);
      count = omega (arith, count, before.count, length-append records (rec ∷ []));
      memory = omega (arith, memory, before.memory);
    }

used_next : (tail size own rest : ℕ) → 4 ≤ size → 0 < own → used_bytes tail size + need_bytes size own ≤ used_bytes tail (size + (own + rest))
used_next tail size own rest head some = grind (arith, nat_tests)

-- there is room for the next record of those for which there was room
pub room_next : (old mid : Log) (records : List Record) (rec : Record) (rest : List Record) → IsAppended old mid records → log_used_with old (length (spellings (records ++ rec ∷ rest))) ≤ log_room old
    → log_used mid + log_need mid (length (spelling rec)) ≤ log_room mid
room_next old mid records rec rest is room =
    let all : length (spellings (records ++ rec ∷ rest)) ≡ length (spellings records) + (length (spelling rec) + length (spellings rest)) = omega (arith, spelled_more records (rec ∷ rest), spelled_first rec rest) in
    let fits : buffer_size old + length (spellings (records ++ rec ∷ rest)) ≡ buffer_size mid + (length (spelling rec) + length (spellings rest)) = omega (arith, all, is.size) in
    let used : log_used_with old (length (spellings (records ++ rec ∷ rest))) ≡ used_bytes (log_tail mid) (buffer_size mid + (length (spelling rec) + length (spellings rest))) = λ i. used_bytes (sym is.place.tail i) (fits i) in
    omega (arith, used_next (log_tail mid) (buffer_size mid) (length (spelling rec)) (length (spellings rest)) mid.has_head (some_spelling rec), used, room, is.place.room)

-- and memory
pub spare_next : (old mid : Log) (records : List Record) (rec : Record) (rest : List Record) → IsAppended old mid records → HasSpare old (length (spellings (records ++ rec ∷ rest))) → HasSpare mid (length (spelling rec))
spare_next old mid records rec rest is spare = omega (arith, spelled_more records (rec ∷ rest), spelled_first rec rest, is.size, is.memory, spare)

used_less : (tail size less more : ℕ) → less ≤ more → used_bytes tail (size + less) ≤ used_bytes tail (size + more)
used_less tail size less more is = grind (arith, nat_tests)

-- there is room for the bytes of the first of records for which there was room
pub room_front : (log : Log) (records more : List Record) (bytes : List ℕ) → bytes ≡ spellings records → log_used_with log (length (spellings (records ++ more))) ≤ log_room log
    → log_used_with log (length bytes) ≤ log_room log
room_front log records more bytes spelled room =
    let less : length bytes ≤ length (spellings (records ++ more)) = omega (arith, spelled_more records more, ap (λ (l : List ℕ). length l) spelled) in
    omega (arith, used_less (log_tail log) (buffer_size log) (length bytes) (length (spellings (records ++ more))) less, room)

-- and memory
pub spare_front : (log : Log) (records more : List Record) (bytes : List ℕ) → bytes ≡ spellings records → HasSpare log (length (spellings (records ++ more))) → HasSpare log (length bytes)
spare_front log records more bytes spelled spare = omega (arith, spelled_more records more, ap (λ (l : List ℕ). length l) spelled, spare)

-- records are appended as their bytes
pub appended_bytes : (old new : Log) (records : List Record) (bytes : List ℕ) (count : ℕ) → bytes ≡ spellings records → length records ≡ count → IsPlaced old new
    → ((batches : List (List Record)) (pending all : List Record) → bytes ≡ spellings all → length all ≡ count → Keeps old batches pending → Keeps new batches (pending ++ all))
    → buffer_size new ≡ buffer_size old + length bytes → log_count new ≡ log_count old + count → KeepsMemory old new → IsAppended old new records
appended_bytes old new records bytes count spelled counted place added size more memory = record {
  place = place;
  kept = λ batches pending keeps. added batches pending records spelled counted keeps;
  size = omega (arith, size, ap (λ (l : List ℕ). length l) spelled);
  count = omega (arith, more, counted);
  memory = memory;
}
