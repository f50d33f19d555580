-- Why an event of a session is refused, by what is kept in memory.
use Rattle.std.specs.Prelude.{ℕ, ◌+◌, ◌-◌, ◌==◌, nat_lt, nat_le, List, [], ◌∷◌, length, Option, None, Some, Result, Ok, Err, is_some, if◌then◌else◌}
use Rattle.gated_log.specs.declared.log.Log.{Log}
use Rattle.gated_log.specs.LogState.{log_room, log_used, log_need}
use Rattle.graph_model.specs.declared.reply.Refusal.{Refusal}
use Rattle.graph_model.specs.declared.reply.Refusal.TheVariants.{AlreadyActive, NotActive, NumbersSpent, BadHandle, Range, BadField, VolatileFull, Exhausted}
use Rattle.graph_model.specs.Plain.{no_number, no_int, most_fields, busy_with, first_of_two}
use Rattle.log_records.specs.declared.Record.{Record}
use Rattle.log_records.specs.Record.{spellings}
use Rattle.log_machine.specs.Machine.{end_bytes}
use Rattle.heap_spaces.specs.Spaces.{SpacesState, free_words, open_words}
use Rattle.txn_table.specs.declared.place.Place.{Place}
use Rattle.txn_table.specs.declared.place.Place.TheVariants.{Stable, Volatile}
use Rattle.txn_table.specs.Table.{TransactionState, TableState}
use Rattle.object_locks.specs.declared.holding.Holding.{Holding}
use Rattle.object_locks.specs.declared.holding.Mode.{Mode}
use Rattle.object_locks.specs.declared.holding.Mode.TheVariants.{Shared, Exclusive}
use Rattle.object_locks.specs.Holdings.{Holdings}
pub use Rattle.object_locks.specs.Holder.{holder_of}
use Rattle.graph_words.specs.Promotion.{promoted_need, seal_records}
use Rattle.heap_model.specs.Core.{full_log}
use Rattle.heap_memory.specs.Memory.{Memory, own, reserved, fields_at, held_place}
use Rattle.heap_memory.specs.Collecting.{barrier_records, place_barrier, flip_records, scan_event_records}
use Rattle.heap_words.specs.declared.TheConstants.{VOLATILE_WORDS}
use Rattle.log_records.specs.declared.TheConstants.{UPDATE_BYTES, PUT_BYTES}

-- why the log has no room, by what an event needs and what is kept after it
abbrev pub no_room : Log → ℕ → ℕ → Option Refusal
no_room log need reserved = full_log (log_room log) (log_used log) need reserved

abbrev pub begin_refusal : Memory → ℕ → Option Refusal
begin_refusal m s =
    if is_some (own m s) then Some AlreadyActive
    else if m.table.next == no_number then Some NumbersSpent
    else no_room m.log 0 (reserved m.table + end_bytes 0)

-- why a handle can't be named
abbrev pub handle_refusal : Option TransactionState → ℕ → Option Refusal
handle_refusal None h = Some NotActive
handle_refusal (Some t) h = if nat_lt 63 h then Some BadHandle else None

-- why there is no place, or what comes of it
abbrev pub and_then : Result Place Refusal → (Place → Option Refusal) → Option Refusal
and_then (Err why) next = Some why
and_then (Ok p) next = next p

-- why a field of an object with that many can't be named
abbrev pub field_refusal : ℕ → ℕ → Option Refusal
field_refusal count i = if nat_le count i then Some BadField else None

-- why a number can't be written
abbrev pub range_refusal : ℕ → Option Refusal
range_refusal v = if nat_le no_int v then Some Range else None

-- a lock of the object at an address that transaction t asks for
abbrev pub asked : ℕ → Mode → ℕ → Holding
asked t mode at = record { key = record { address = at }; transaction = t; mode = mode }

-- why the object at a place can't be used in a mode: others hold it. No other transaction holds objects of its own area.
abbrev pub lock_refusal : Holdings → TransactionState → Mode → Place → Option Refusal
lock_refusal locks t mode (Stable at) = busy_with (holder_of locks (asked t.number mode at))
lock_refusal locks t mode (Volatile at) = None

-- why the log has no room for these records, if there are any, where what is kept stays
abbrev pub records_room : Memory → List Record → Option Refusal
records_room m [] = None
records_room m (r ∷ rs) = no_room m.log (log_need m.log (length (spellings (r ∷ rs)))) (reserved m.table)

-- why the log has no room for a write into field i of the object at a place, with the scan before it: one into a transaction's area needs none
abbrev pub write_room : Memory → Place → ℕ → Option Refusal
write_room m (Stable at) i = no_room m.log (log_need m.log (length (spellings (barrier_records m at i)) + UPDATE_BYTES)) (reserved m.table + PUT_BYTES)
write_room m (Volatile at) i = None

abbrev pub write_refusal_of : Memory → Option TransactionState → Place → ℕ → Option Refusal
write_refusal_of m None p i = Some NotActive
write_refusal_of m (Some t) p i =
    first_of_two (field_refusal (length (fields_at m.words t.area p)) i) (first_of_two (lock_refusal m.locks t Exclusive p) (write_room m p i))

-- why a word can't be put into a field of the object at a place
abbrev pub write_refusal : Memory → ℕ → Place → ℕ → Option Refusal
write_refusal m s p i = write_refusal_of m (own m s) p i

abbrev pub put_refusal : Memory → ℕ → ℕ → ℕ → ℕ → Option Refusal
put_refusal m s h i v = and_then (held_place (own m s) h) (λ p. first_of_two (range_refusal v) (write_refusal m s p i))

abbrev pub clear_refusal : Memory → ℕ → ℕ → ℕ → Option Refusal
clear_refusal m s h i = and_then (held_place (own m s) h) (λ p. write_refusal m s p i)

abbrev pub link_refusal : Memory → ℕ → ℕ → ℕ → ℕ → Option Refusal
link_refusal m s h i h2 = and_then (held_place (own m s) h) (λ p. and_then (held_place (own m s) h2) (λ q. write_refusal m s p i))

abbrev pub read_refusal_of : Memory → Option TransactionState → Place → ℕ → Option Refusal
read_refusal_of m None p i = Some NotActive
read_refusal_of m (Some t) p i =
    first_of_two (field_refusal (length (fields_at m.words t.area p)) i) (first_of_two (lock_refusal m.locks t Shared p) (records_room m (place_barrier m p i)))

abbrev pub get_refusal : Memory → ℕ → ℕ → ℕ → ℕ → Option Refusal
get_refusal m s h i h2 = first_of_two (handle_refusal (own m s) h2) (and_then (held_place (own m s) h) (λ p. read_refusal_of m (own m s) p i))

abbrev pub same_refusal : Memory → ℕ → ℕ → ℕ → Option Refusal
same_refusal m s h h2 = and_then (held_place (own m s) h) (λ p. and_then (held_place (own m s) h2) (λ q. None))

abbrev pub len_refusal : Memory → ℕ → ℕ → Option Refusal
len_refusal m s h = and_then (held_place (own m s) h) (λ p. None)

-- why a transaction's area has no room for an object of that many fields
abbrev pub area_refusal : Option TransactionState → ℕ → Option Refusal
area_refusal None len = Some NotActive
area_refusal (Some t) len = if nat_lt VOLATILE_WORDS (length t.area.words + 2 + len) then Some (VolatileFull (length t.area.words)) else None

abbrev pub new_refusal : Option TransactionState → ℕ → ℕ → Option Refusal
new_refusal t h len = first_of_two (handle_refusal t h) (first_of_two (if nat_lt most_fields len then Some Range else None) (area_refusal t len))

-- why a transaction can't end
abbrev pub end_refusal : Option TransactionState → Option Refusal
end_refusal None = Some NotActive
end_refusal (Some t) = None

-- the records of the seal of a transaction
abbrev pub sealing_records : Memory → TransactionState → List Record
sealing_records m t = seal_records t.area m.words t.undo (m.spaces.base + m.spaces.used)

-- how many words it takes
abbrev pub sealing_need : Memory → TransactionState → ℕ
sealing_need m t = promoted_need t.area m.words t.undo

-- why the current space has no room for that many words
abbrev pub space_refusal : SpacesState → ℕ → Option Refusal
space_refusal spaces need = if nat_lt (open_words spaces) need then Some (Exhausted need (free_words spaces) spaces.owed) else None

-- the bytes that are kept for all transactions but one, when it ends
abbrev pub reserved_without : TableState → TransactionState → ℕ
reserved_without table t = reserved table - end_bytes (length t.undo)

abbrev pub seal_refusal_of : Memory → Option TransactionState → Option Refusal
seal_refusal_of m None = Some NotActive
seal_refusal_of m (Some t) =
    first_of_two (space_refusal m.spaces (sealing_need m t)) (no_room m.log (log_need m.log (length (spellings (sealing_records m t)))) (reserved_without m.table t))

abbrev pub seal_refusal : Memory → ℕ → Option Refusal
seal_refusal m s = seal_refusal_of m (own m s)

-- why no collection with these roots can begin
abbrev pub flip_refusal : Memory → List ℕ → Option Refusal
flip_refusal m roots = if is_some m.collection then None else records_room m (flip_records m roots)

-- why there can be no scan whose next page is this
abbrev pub scan_refusal : Memory → Option ℕ → Option Refusal
scan_refusal m next = records_room m (scan_event_records m m.collection next)
