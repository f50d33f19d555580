-- What an event is answered is no failure of the disk.
use Rattle.std.proofs.Common.{◌≡◌, ◌+◌, length, ℕ, Bool, true, false, List, [], ◌∷◌, Option, Some, None, Ok, is_some, refl}
use Rattle.std.specs.Prelude.{nat_lt, if◌then◌else◌}
use Rattle.graph_model.specs.declared.reply.Refusal.{Refusal}
use Rattle.graph_model.specs.declared.reply.Refusal.TheVariants.{BadHandle, BadField, Exhausted, LogFull, Range}
use Rattle.graph_model.specs.declared.reply.Reply.{Reply}
use Rattle.graph_model.specs.declared.reply.Reply.TheVariants.{Aborted, Collecting, Done, Flipped, Sealed}
use Rattle.graph_model.specs.Plain.{busy_with, first_of_two, reply_of}
use Rattle.heap_words.specs.declared.Word.{Word}
use Rattle.heap_words.specs.declared.Word.TheVariants as word
use Rattle.log_records.specs.declared.Record.{Record}
use Rattle.object_locks.specs.Holdings.{Holdings}
use Rattle.object_locks.specs.declared.holding.Mode.{Mode}
use Rattle.txn_table.specs.declared.place.Place.{Place}
use Rattle.txn_table.specs.declared.place.Place.TheVariants.{Stable, Volatile}
use Rattle.txn_table.specs.Table.{TransactionState}
use Rattle.gated_log.specs.LogState.{log_need, log_room, log_used}
use Rattle.heap_spaces.specs.Collection.{Collection}
use Rattle.heap_spaces.specs.Spaces.{free_words, open_words}
use Rattle.log_records.specs.Record.{spellings}
use Rattle.heap_memory.specs.Collecting.{flip_records, scan_event_records}
use Rattle.heap_memory.specs.Memory.{Memory, held_in, held_or, held_place, own}
use Rattle.heap_memory.specs.Refusals.{and_then, clear_refusal, end_refusal, flip_refusal, get_refusal, handle_refusal, link_refusal, lock_refusal, no_room, put_refusal, range_refusal, read_refusal_of, records_room, reserved_without, scan_refusal, seal_refusal, seal_refusal_of, sealing_need, sealing_records, space_refusal, write_refusal, write_refusal_of, write_room}
use Rattle.heap_memory.specs.Replies.{flip_reply, get_reply, meant_behind, scan_reply, scan_reply_of, word_reply}
use Rattle.heap_engine.specs.StepResult.{reply_device}

-- a refusal that is not the disk's
abbrev IsOurs : Option Refusal → Type 0
IsOurs o = (x : Reply) → reply_device x ≡ Ok tt → reply_device (reply_of o x) ≡ Ok tt

first_ours : (o p : Option Refusal) → IsOurs o → IsOurs p → IsOurs (first_of_two o p)
first_ours None p first second = second
first_ours (Some why) p first second = first

busy_ours : (o : Option ℕ) → IsOurs (busy_with o)
busy_ours None x is = is
busy_ours (Some t) x is = refl

lock_ours : (locks : Holdings) (t : TransactionState) (mode : Mode) (p : Place) → IsOurs (lock_refusal locks t mode p)
lock_ours locks t mode (Stable at) = busy_ours _
lock_ours locks t mode (Volatile at) = λ x is. is

full_ours : (full : Bool) (used need reserved : ℕ) → IsOurs (if full then Some (LogFull used need reserved) else None)
full_ours true used need reserved x is = refl
full_ours false used need reserved x is = is

room_ours : (m : Memory) (records : List Record) → IsOurs (records_room m records)
room_ours m [] = λ x is. is
room_ours m (r ∷ rs) = full_ours _ _ _ _

field_ours : (past : Bool) → IsOurs (if past then Some BadField else None)
field_ours true x is = refl
field_ours false x is = is

handle_ours : (past : Bool) → IsOurs (if past then Some BadHandle else None)
handle_ours true x is = refl
handle_ours false x is = is

read_ours : (m : Memory) (o : Option TransactionState) (p : Place) (i : ℕ) → IsOurs (read_refusal_of m o p i)
read_ours m None p i = λ x is. refl
read_ours m (Some t) p i = first_ours _ _ (field_ours _) (first_ours _ _ (lock_ours _ t _ p) (room_ours m _))

-- a handle leads to a place, or to why there is none
held_ours : (o : Option Place) (next : Place → Option Refusal) → ((p : Place) → IsOurs (next p)) → IsOurs (and_then (held_or o) next)
held_ours None next ours = λ x is. refl
held_ours (Some p) next ours = ours p

asked_ours : (m : Memory) (o : Option TransactionState) (h i h2 : ℕ) → IsOurs (first_of_two (handle_refusal o h2) (and_then (held_place o h) (λ p. read_refusal_of m o p i)))
asked_ours m None h i h2 = λ x is. refl
asked_ours m (Some t) h i h2 =
    let next : Place → Option Refusal = λ p. read_refusal_of m (Some t) p i in
    first_ours (handle_refusal (Some t) h2) (and_then (held_or (held_in t h)) next) (handle_ours (nat_lt 63 h2)) (held_ours (held_in t h) next (λ p. read_ours m (Some t) p i))

word_ours : (w : Option Word) → reply_device (word_reply w) ≡ Ok tt
word_ours None = refl
word_ours (Some word.Null) = refl
word_ours (Some (word.Int n)) = refl
word_ours (Some (word.Stable at)) = refl
word_ours (Some (word.Volatile at)) = refl

pub read_answered : (m : Memory) (s h i h2 : ℕ) → reply_device (reply_of (get_refusal m s h i h2) (get_reply m s h i)) ≡ Ok tt
read_answered m s h i h2 = asked_ours m (own m s) h i h2 (get_reply m s h i) (word_ours (meant_behind m s h i))

-- So are writes,
place_ours : (o : Option TransactionState) (h : ℕ) (next : Place → Option Refusal) → ((p : Place) → IsOurs (next p)) → IsOurs (and_then (held_place o h) next)
place_ours None h next ours = λ x is. refl
place_ours (Some t) h next ours = held_ours (held_in t h) next ours

range_ours : (past : Bool) → IsOurs (if past then Some Range else None)
range_ours true x is = refl
range_ours false x is = is

write_room_ours : (m : Memory) (p : Place) (i : ℕ) → IsOurs (write_room m p i)
write_room_ours m (Stable at) i = full_ours _ _ _ _
write_room_ours m (Volatile at) i = λ x is. is

write_ours : (m : Memory) (o : Option TransactionState) (p : Place) (i : ℕ) → IsOurs (write_refusal_of m o p i)
write_ours m None p i = λ x is. refl
write_ours m (Some t) p i = first_ours _ _ (field_ours _) (first_ours _ _ (lock_ours _ t _ p) (write_room_ours m p i))

pub put_answered : (m : Memory) (s h i v : ℕ) → reply_device (reply_of (put_refusal m s h i v) Done) ≡ Ok tt
put_answered m s h i v =
    place_ours (own m s) h (λ p. first_of_two (range_refusal v) (write_refusal m s p i)) (λ p. first_ours (range_refusal v) (write_refusal m s p i) (range_ours _) (write_ours m (own m s) p i)) Done refl

pub clear_answered : (m : Memory) (s h i : ℕ) → reply_device (reply_of (clear_refusal m s h i) Done) ≡ Ok tt
clear_answered m s h i = place_ours (own m s) h (λ p. write_refusal m s p i) (λ p. write_ours m (own m s) p i) Done refl

pub link_answered : (m : Memory) (s h i h2 : ℕ) → reply_device (reply_of (link_refusal m s h i h2) Done) ≡ Ok tt
link_answered m s h i h2 =
    place_ours (own m s) h (λ p. and_then (held_place (own m s) h2) (λ q. write_refusal m s p i)) (λ p. place_ours (own m s) h2 (λ q. write_refusal m s p i) (λ q. write_ours m (own m s) p i)) Done refl

-- the ends of transactions,
space_ours : (past : Bool) (need free owed : ℕ) → IsOurs (if past then Some (Exhausted need free owed) else None)
space_ours true need free owed x is = refl
space_ours false need free owed x is = is

seal_ours : (m : Memory) (o : Option TransactionState) → IsOurs (seal_refusal_of m o)
seal_ours m None = λ x is. refl
seal_ours m (Some t) =
    let need = log_need m.log (length (spellings (sealing_records m t))) in
    first_ours (space_refusal m.spaces (sealing_need m t)) (no_room m.log need (reserved_without m.table t))
    (space_ours (nat_lt (open_words m.spaces) (sealing_need m t)) (sealing_need m t) (free_words m.spaces) m.spaces.owed)
    (full_ours (nat_lt (log_room m.log) (log_used m.log + need + reserved_without m.table t)) (log_used m.log) need (reserved_without m.table t))

pub seal_answered : (m : Memory) (s n : ℕ) → reply_device (reply_of (seal_refusal m s) (Sealed n)) ≡ Ok tt
seal_answered m s n = seal_ours m (own m s) (Sealed n) refl

pub end_answered : (o : Option TransactionState) → reply_device (reply_of (end_refusal o) Aborted) ≡ Ok tt
end_answered None = refl
end_answered (Some t) = refl

-- and the events of a collection.
unless_ours : (b : Bool) (o : Option Refusal) → IsOurs o → IsOurs (if b then None else o)
unless_ours true o ours = λ x is. is
unless_ours false o ours = ours

flip_device : (b : Bool) (objects words : ℕ) → reply_device (if b then Collecting else Flipped objects words) ≡ Ok tt
flip_device true objects words = refl
flip_device false objects words = refl

pub flip_answered : (m : Memory) (roots : List ℕ) → reply_device (reply_of (flip_refusal m roots) (flip_reply m roots)) ≡ Ok tt
flip_answered m roots = unless_ours (is_some m.collection) (records_room m (flip_records m roots)) (room_ours m (flip_records m roots)) (flip_reply m roots) (flip_device (is_some m.collection) _ _)

scan_device : (m : Memory) (runs : Option Collection) (next : Option ℕ) → reply_device (scan_reply_of m runs next) ≡ Ok tt
scan_device m None next = refl
scan_device m (Some k) None = refl
scan_device m (Some k) (Some page) = refl

pub scan_answered : (m : Memory) (next : Option ℕ) → reply_device (reply_of (scan_refusal m next) (scan_reply m next)) ≡ Ok tt
scan_answered m next = room_ours m (scan_event_records m m.collection next) (scan_reply m next) (scan_device m m.collection next)
