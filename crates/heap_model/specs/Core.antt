-- The core: what each event is answered, and the state that it leaves.
use Rattle.std.specs.Prelude.{◌≡◌, ◌⊎◌, ℕ, ◌+◌, ◌-◌, ◌<◌, ◌==◌, ◌&&◌, not, nat_lt, min, max, Bool, List, [], ◌∷◌, ◌++◌, length, fold, Option, None, Some, slice_index_or, sum_by, if◌then◌else◌}
use Rattle.graph_model.specs.declared.id.Id.{Id}
use Rattle.graph_model.specs.declared.val.Val.{Val}
use Rattle.graph_model.specs.declared.val.Val.TheVariants.{Null, Int}
use Rattle.graph_model.specs.declared.event.Event.{Event}
use Rattle.graph_model.specs.declared.event.Event.TheVariants.{New, Put, Clear, Link, Seal, Abort, Force, Flip, Scan, Flush}
use Rattle.graph_model.specs.declared.reply.Refusal.{Refusal}
use Rattle.graph_model.specs.declared.reply.Refusal.TheVariants.{NoSuchPage, VolatileFull, Exhausted, LogFull, DiskFault, Stopped}
use Rattle.graph_model.specs.declared.reply.Reply.{Reply}
use Rattle.graph_model.specs.declared.reply.Reply.TheVariants.{Flushed, Clean, Refused}
use Rattle.graph_model.specs.declared.reply.Entry.{Entry}
use Rattle.graph_model.specs.Graph.{Graph, fields}
use Rattle.graph_model.specs.Kinds.{Kind, Calls, Ends, kind_of, used_field}
use Rattle.graph_model.specs.Transaction.{View, Transaction, held, reference_to}
use Rattle.graph_model.specs.History.{Account, account, account_after, session_of, sessions}
use Rattle.graph_model.specs.Plain.{view, model_refusal, first_of_two, refusal_of, granted, reply_of}
use Rattle.log_records.specs.declared.Record.{Record}
use Rattle.log_records.specs.declared.Record.TheVariants.{Update}
use Rattle.log_records.specs.Record.{spellings}
use Rattle.log_machine.specs.declared.UndoEntry.{UndoEntry}
use Rattle.log_machine.specs.Machine.{State, space_words, owed, put_record, undo_of, undo_bytes, abort_records}
use Rattle.page_redo.specs.Origin.{Origin, heap_origin, next_lsn, state_from, commits_in}
use Rattle.page_redo.specs.Pages.{pages_in}
use Rattle.page_redo.specs.Redo.{last_lsn}
use Rattle.gated_log.specs.Log.{records_of, batches_bytes, pending_batch}
use Rattle.heap_words.specs.declared.Word.{Word}
use Rattle.heap_words.specs.declared.Word.TheVariants.{Stable}
use Rattle.volatile_area.specs.Area.{AreaState}
use Rattle.graph_words.specs.Places.{Places, address_of, area_used, place_of, bits_of}
use Rattle.graph_words.specs.Area.{area_of}
use Rattle.graph_words.specs.Promotion.{Move, moves_of, promoted_need, seal_records, promoted_places}
use Rattle.collection_words.specs.Placing.{Placing, placing_of, moved_by_all}
use Rattle.heap_model.specs.Collecting.{roots_of, barrier_at, flip_records, scan_event_records, flip_reply, scan_reply}
use Rattle.heap_words.specs.declared.TheConstants.{VOLATILE_WORDS}
use Rattle.log_records.specs.declared.TheConstants.{BATCH_BYTES}

-- The state of a heap since it was opened.
pub record Core : Type 0 where
  pub pages : ℕ  -- how many pages each of the two spaces has
  pub room : ℕ  -- the bytes of the log
  pub first_number : ℕ  -- the number of the heap's first transaction
  pub first : ℕ  -- the next transaction's number at the opening
  pub g0 : Graph  -- the graph at the opening
  pub born : Bool  -- whether its objects are named by their births
  pub before : ℕ  -- how many transactions were committed at the opening
  pub history : List Entry  -- the events since then and their replies
  pub truncated : List Record  -- the records that the log has had since then in front of where it begins
  pub batches : List (List Record)  -- the log's batches on the disk
  pub words : List ℕ  -- the words of both spaces after these
  pub pending : List Record  -- the pending records after them
  pub stored_lsns : ℕ → ℕ  -- the LSN with which each page is stored, or 0
  pub gates : ℕ → ℕ  -- how many gates of each page's two frames are open
  pub places : Places  -- the objects that stand in the current space after all of these, with their addresses
  pub remaining : Places  -- those that a collection has not copied yet, with their addresses in the from-space

-- the next transaction's number
abbrev pub next_number : Core → ℕ
next_number c = c.first + (account c.history).begun

-- the records on the disk and the pending ones
abbrev pub all_records : Core → List Record
all_records c = records_of c.batches ++ c.pending

-- these, and before them those that were in the log since the opening and are truncated
abbrev pub every_record : Core → List Record
every_record c = c.truncated ++ all_records c

-- the words after all of them
abbrev pub all_words : Core → List ℕ
all_words c = fold put_record c.words c.pending

-- where the log begins
abbrev pub log_origin : Core → Origin
log_origin c = heap_origin c.pages c.first_number

-- the LSN of a page as it is now: that of the last record that touches it, or that with which it is stored
abbrev pub present_lsn : Core → ℕ → ℕ
present_lsn c p = max (c.stored_lsns p) (last_lsn p (log_origin c).lsn (all_records c))

-- whether there is a page of that number, which has changed since it was stored
abbrev pub is_dirty : Core → ℕ → Bool
is_dirty c p = nat_lt p (pages_in c.pages) && not (present_lsn c p == c.stored_lsns p)

-- the state with which the log begins
abbrev pub log_start : Core → State
log_start c = (log_origin c).state

-- what records say of a core's heap, if they follow one another
abbrev pub state_behind : Core → List Record → Option State
state_behind c records = state_from (log_origin c) records

-- how many transactions are committed in what the disk holds
abbrev pub commits_on_disk : Core → ℕ
commits_on_disk c = commits_in (state_behind c (records_of c.batches))

abbrev pub undo_with : Option State → ℕ → List UndoEntry
undo_with None t = []
undo_with (Some s) t = undo_of s t

-- the writes of each transaction that may be taken back after records, the newest first
abbrev pub undo_behind : Core → List Record → ℕ → List UndoEntry
undo_behind c records t = undo_with (state_behind c records) t

-- the address of the next free word
abbrev pub next_word : Option State → ℕ
next_word None = 0
next_word (Some s) = s.base + s.used

-- Where an event finds the heap: the places of objects, the words, and what the records say.
pub record Ground : Type 0 where
  pub places : Places
  pub remaining : Places
  pub words : List ℕ
  pub state : Option State

abbrev pub ground : Core → Ground
ground c = record { places = c.places; remaining = c.remaining; words = all_words c; state = state_behind c (all_records c) }

-- the area of a transaction that sees this
abbrev pub area_in : Places → View → ℕ → AreaState
area_in places view t = area_of (place_of places view.graph) view.graph t view.made

-- The record of a write of a value into field i of an object with these fields: one that stands in the current space. A write into a
-- transaction's area has none.
abbrev pub update : (Id → Word) → ℕ → Word → List Val → ℕ → Val → List Record
update place t (Stable at) vs i v = Update t at i (bits_of place (slice_index_or vs i Null)) (bits_of place v) ∷ []
update place t at vs i v = []

-- the record of a write into the object that a handle holds
abbrev pub write_records : (Id → Word) → ℕ → Graph → Option Id → ℕ → Val → List Record
write_records place t g None i v = []
write_records place t g (Some id) i v = update place t (place id) (fields g id) i v

-- the same, where the transaction sees this
abbrev pub view_records : Places → ℕ → View → ℕ → ℕ → Val → List Record
view_records places t view h i v = write_records (place_of places view.graph) t view.graph (held view.registers h) i v

-- the objects moved by the seal of a transaction that sees this
abbrev pub seal_moves : Ground → ℕ → View → List Move
seal_moves ground t view = moves_of (area_in ground.places view t) ground.words (undo_with ground.state t) (next_word ground.state)

-- the records of its seal
abbrev pub seal_of : Ground → ℕ → View → List Record
seal_of ground t view = seal_records (area_in ground.places view t) ground.words (undo_with ground.state t) (next_word ground.state)

-- the records of a call of a session, or of its transaction's end: what writes a field has some, and what ends a transaction; no other has any
abbrev pub call_records : Ground → Graph → Account → Option Transaction → Event → List Record
call_records ground g0 a None event = []
call_records ground g0 a (Some t) (Put s h i v) = view_records ground.places t.number (view g0 a t) h i (Int v)
call_records ground g0 a (Some t) (Clear s h i) = view_records ground.places t.number (view g0 a t) h i Null
call_records ground g0 a (Some t) (Link s h i h2) =
    view_records ground.places t.number (view g0 a t) h i (reference_to (held (view g0 a t).registers h2))
call_records ground g0 a (Some t) (Seal s) = seal_of ground t.number (view g0 a t)
call_records ground g0 a (Some t) (Abort s) = abort_records t.number (undo_with ground.state t.number)
call_records ground g0 a (Some t) event = []

-- the roots of a flip: the current objects that active transactions name
abbrev pub roots : Ground → Graph → Account → List ℕ
roots ground g0 a = roots_of ground.places (undo_with ground.state) g0 a

-- the records of an event of this kind, where its session has this transaction: a call and an end may have some, a begin and what saves have none
abbrev pub kind_records : Ground → Graph → Account → Option Transaction → Event → Kind → List Record
kind_records ground g0 a t event Calls = call_records ground g0 a t event
kind_records ground g0 a t event Ends = call_records ground g0 a t event
kind_records ground g0 a t event kind = []

-- an event's own records, those of a scan that comes before it left out
abbrev pub records_for : Ground → Graph → Account → Event → List Record
records_for ground g0 a Flip = flip_records ground.state ground.words (roots ground g0 a)
records_for ground g0 a Scan = scan_event_records ground.state ground.words
records_for ground g0 a event = kind_records ground g0 a (a.active (session_of event)) event (kind_of event)

-- The barrier: before a field is read or written, the page in which its object starts is scanned if a gray object starts there.

abbrev pub held_barrier : Ground → Option Id → ℕ → List Record
held_barrier ground None i = []
held_barrier ground (Some id) i = barrier_at ground.state ground.words (address_of ground.places id) i

-- the records of the barrier before field i of what a handle of a session's transaction holds, if it has one
abbrev pub call_barrier : Ground → Graph → Account → Option Transaction → ℕ → ℕ → List Record
call_barrier ground g0 a None h i = []
call_barrier ground g0 a (Some t) h i = held_barrier ground (held (view g0 a t).registers h) i

-- the same for an event that uses this field, with its handle, or none
abbrev pub field_barrier : Ground → Graph → Account → Option Transaction → Option (ℕ × ℕ) → List Record
field_barrier ground g0 a t None = []
field_barrier ground g0 a t (Some (h, i)) = call_barrier ground g0 a t h i

abbrev pub barrier_for : Ground → Graph → Account → Event → List Record
barrier_for ground g0 a event = field_barrier ground g0 a (a.active (session_of event)) (used_field event)

abbrev pub barrier_records : Core → Event → List Record
barrier_records c event = barrier_for (ground c) c.g0 (account c.history) event

abbrev pub placing : Core → Placing
placing c = placing_of c.places c.remaining

-- the core with these records of a collection after all pending ones, and its objects where they move them
abbrev pub moved : Core → List Record → Core
moved c [] = c
moved c (r ∷ rs) =
    let there = moved_by_all (placing c) (r ∷ rs) in
    record c { pending = c.pending ++ (r ∷ rs); places = there.places; remaining = there.remaining }

-- the core on which an event is made: after the barrier's scan, and the core itself where there is none
abbrev pub behind_barrier : Core → Event → Core
behind_barrier c event = moved c (barrier_records c event)

abbrev pub own_records : Core → Event → List Record
own_records c event = records_for (ground (behind_barrier c event)) c.g0 (account c.history) event

-- the records that an event appends
abbrev pub event_records : Core → Event → List Record
event_records c event = barrier_records c event ++ own_records c event

abbrev pub sealed_places : Ground → Graph → Account → Option Transaction → Places
sealed_places ground g0 a None = []
sealed_places ground g0 a (Some t) =
    promoted_places (area_in ground.places (view g0 a t) t.number) (seal_moves ground t.number (view g0 a t))

-- the places that an event adds: a seal's promotion does
abbrev pub places_for : Ground → Graph → Account → Event → Places
places_for ground g0 a (Seal s) = sealed_places ground g0 a (a.active s)
places_for ground g0 a event = []

abbrev pub event_places : Core → Event → Places
event_places c event = places_for (ground c) c.g0 (account c.history) event

-- the log's bytes that are used: the forced batches, a gate, and the pending batch
abbrev pub used : Core → ℕ
used c = length (batches_bytes c.batches) + 1 + length (pending_batch c.pending)

-- the bytes that records take after the pending ones, with those of a batch where none is pending
abbrev pub need : List Record → List Record → ℕ
need pending [] = 0
need [] (r ∷ rs) = length (spellings (r ∷ rs)) + BATCH_BYTES
need (p ∷ ps) (r ∷ rs) = length (spellings (r ∷ rs))

-- the bytes that are kept for the end of a transaction that has these writes to be taken back
abbrev pub kept_for : (ℕ → List UndoEntry) → Option Transaction → ℕ
kept_for undo None = 0
kept_for undo (Some t) = undo_bytes (undo t.number)

-- the bytes that are kept for the ends of all active transactions
abbrev pub reserved : (ℕ → List UndoEntry) → Account → ℕ
reserved undo a = sum_by (λ s. kept_for undo (a.active s)) sessions

-- what is kept after an event, if it is granted
abbrev pub reserved_after : Core → Event → ℕ
reserved_after c event =
    let a = account c.history in
    reserved (undo_behind c (all_records c ++ event_records c event)) (account_after a (record { event = event; reply = granted (next_number c) c.g0 a event }))

abbrev pub full_log : ℕ → ℕ → ℕ → ℕ → Option Refusal
full_log room used need reserved = if nat_lt room (used + need + reserved) then Some (LogFull used need reserved) else None

-- why the log has no room for an event
abbrev pub log_refusal : Core → Event → Option Refusal
log_refusal c event = full_log c.room (used c) (need c.pending (event_records c event)) (reserved_after c event)

-- why a transaction that sees this has no room in its area for an object of that many fields
abbrev pub area_refusal : View → ℕ → ℕ → Option Refusal
area_refusal view t len =
    let used = area_used view.graph t view.made in
    if nat_lt VOLATILE_WORDS (used + 2 + len) then Some (VolatileFull used) else None

-- the words that a promotion needs
abbrev pub seal_need : Ground → ℕ → View → ℕ
seal_need ground t view = promoted_need (area_in ground.places view t) ground.words (undo_with ground.state t)

-- why the current space has no room for that many words: fewer are free and not owed to a collection
abbrev pub space_refusal : Option State → ℕ → Option Refusal
space_refusal None need = None
space_refusal (Some s) need =
    let free = space_words s.pages - s.used in
    if nat_lt (free - owed s) need then Some (Exhausted need free (owed s)) else None

-- why there is no room for what a transaction asks for: a new object, or those that its seal promotes; no other event asks for room
abbrev pub room_refusal : Ground → Graph → Account → Option Transaction → Event → Option Refusal
room_refusal ground g0 a None event = None
room_refusal ground g0 a (Some t) (New s h len) = area_refusal (view g0 a t) t.number len
room_refusal ground g0 a (Some t) (Seal s) = space_refusal ground.state (seal_need ground t.number (view g0 a t))
room_refusal ground g0 a (Some t) event = None

-- why there is no such page
abbrev pub page_refusal : ℕ → Event → Option Refusal
page_refusal pages (Flush p) = if nat_lt p (pages_in pages) then None else Some NoSuchPage
page_refusal pages event = None

-- why an event has no room in memory's spaces, or asks for a page that these do not have
abbrev pub words_refusal : Core → Event → Option Refusal
words_refusal c event = let a = account c.history in first_of_two (page_refusal c.pages event) (room_refusal (ground c) c.g0 a (a.active (session_of event)) event)

-- why the core refuses an event
abbrev pub core_refusal : Core → Event → Option Refusal
core_refusal c event =
    let a = account c.history in
    refusal_of a.failed (first_of_two (model_refusal (next_number c) c.g0 a event) (first_of_two (words_refusal c event) (log_refusal c event)))

-- What an event that isn't refused is answered: a flip and a scan by what they copy, a flush by whether its page has changed since it was
-- stored, and all others as by a plain heap.
abbrev pub granted_by : Core → Event → Reply
granted_by c Flip = flip_reply (own_records c Flip)
granted_by c Scan = scan_reply (ground c).state (own_records c Scan)
granted_by c (Flush p) = if is_dirty c p then Flushed p else Clean p
granted_by c event = granted (next_number c) c.g0 (account c.history) event

-- what an event is answered where the disk does not fail
abbrev pub answer : Core → Event → Reply
answer c event = reply_of (core_refusal c event) (granted_by c event)

-- the state with one more entry
abbrev pub with_entry : Core → Event → Reply → Core
with_entry c event reply = record c { history = c.history ++ record { event = event; reply = reply } ∷ [] }

-- What an event does with the disk, one after the other: the next batch that waits gets there, or a page is stored, with the LSN that it has then.
pub data Transfer : Type 0 where
  Lands : Transfer
  Stores : ℕ → ℕ → Transfer

-- the batches that wait for the disk, oldest first: the pending records are one, if there are any
abbrev pub batch_of : List Record → List (List Record)
batch_of [] = []
batch_of (r ∷ rs) = (r ∷ rs) ∷ []

abbrev pub unforced : Core → List (List Record)
unforced c = batch_of c.pending

-- What the log on the disk may be, from these batches on: they alone, and with one more for each that waits.
abbrev pub stages_from : List (List Record) → List (List Record) → List (List (List Record))
stages_from batches [] = batches ∷ []
stages_from batches (next ∷ waiting) = batches ∷ stages_from (batches ++ next ∷ []) waiting

abbrev pub stages : Core → List (List (List Record))
stages c = stages_from c.batches (unforced c)

-- the oldest batch of those that wait is on the disk
abbrev pub landed : Core → List (List Record) → Core
landed c [] = c
landed c (next ∷ waiting) = record c { batches = c.batches ++ next ∷ []; words = fold put_record c.words next; pending = records_of waiting }

-- a page is stored with an LSN, in the frame that does not count
abbrev pub page_stored : Core → ℕ → ℕ → Core
page_stored c p lsn = record c {
  stored_lsns = λ q. if q == p then lsn else c.stored_lsns q;
  gates = λ q. if q == p then min 2 (c.gates q + 1) else c.gates q;
}

-- the core after a transfer
abbrev pub made : Core → Transfer → Core
made c Lands = landed c (unforced c)
made c (Stores p lsn) = page_stored c p lsn

-- whether a page is ahead of the log on the disk: it has a pending record
abbrev pub is_ahead : Core → ℕ → Bool
is_ahead c p = not (nat_lt (present_lsn c p) (next_lsn (log_origin c) (records_of c.batches)))

-- what waits gets to the disk before a page that is ahead of the log there
abbrev pub landing : Bool → List Transfer
landing ahead = if ahead then Lands ∷ [] else []

-- a page that has changed is stored, and no page gets ahead of the log
abbrev pub storing : Bool → Bool → ℕ → ℕ → List Transfer
storing dirty ahead p lsn = if dirty then landing ahead ++ Stores p lsn ∷ [] else []

-- the transfers of an event that is granted
abbrev pub transfers : Core → Event → List Transfer
transfers c Force = Lands ∷ []
transfers c (Flush p) = storing (is_dirty c p) (is_ahead c p) p (present_lsn c p)
transfers c event = []

-- what an event that is granted does apart from the disk: its records are pending, and objects are where it places them
abbrev pub noted : Core → Event → Core
noted c Force = c
noted c (Flush p) = c
noted c Flip = moved c (own_records c Flip)
noted c Scan = moved c (own_records c Scan)
noted c event =
    let b = behind_barrier c event in
    record b { pending = b.pending ++ own_records c event; places = b.places ++ event_places b event }

-- what an event that is granted does, with its transfers
abbrev pub done : Core → Event → Core
done c event = fold made (noted c event) (transfers c event)

-- what an event that may be refused does
abbrev pub after_refusal : Option Refusal → Core → Event → Core
after_refusal None c event = done c event
after_refusal (Some why) c event = c

-- the state after an event where the disk does not fail
abbrev pub after : Core → Event → Core
after c event = with_entry (after_refusal (core_refusal c event) c event) event (answer c event)

-- the writes and syncs of a force of the pending records
abbrev pub force_calls : List Record → ℕ
force_calls [] = 0
force_calls (r ∷ rs) = 4

-- those of a store of a page: two more where both of its gates are open, since one is closed first
abbrev pub store_calls : ℕ → ℕ
store_calls gates = if nat_lt gates 2 then 4 else 6

-- those of a transfer
abbrev pub transfer_calls : Core → Transfer → ℕ
transfer_calls c Lands = force_calls c.pending
transfer_calls c (Stores p lsn) = store_calls (c.gates p)

-- those of transfers, one after the other
abbrev pub calls_of : Core → List Transfer → ℕ
calls_of c [] = 0
calls_of c (t ∷ ts) = transfer_calls c t + calls_of (made c t) ts

-- those of an event that may be refused
abbrev pub calls_if : Option Refusal → Core → Event → ℕ
calls_if None c event = calls_of (noted c event) (transfers c event)
calls_if (Some why) c event = 0

-- the writes and syncs of an event where the disk does not fail
abbrev pub calls : Core → Event → ℕ
calls c event = calls_if (core_refusal c event) c event

-- the disk fails or stops in an event that calls it
pub record IsCutShort (c : Core) (event : Event) (reply : Reply) : Type 0 where
  pub some : 0 < calls c event
  pub told : (reply ≡ Refused DiskFault) ⊎ (reply ≡ Refused Stopped)

-- What the disk leaves of a core if it cuts an event short: nothing but the entry, and a seal is in doubt then. An event that makes no call is not
-- cut short.
abbrev pub cut : Core → Event → Core
cut c event = if nat_lt 0 (calls c event) then with_entry c event (Refused Stopped) else c

-- From c an event may be answered so, and leave d.
abbrev pub IsStep : Core → Event → Reply → Core → Type 0
IsStep c event reply d =
    ((reply ≡ answer c event) × (d ≡ after c event)) ⊎ (IsCutShort c event reply × (d ≡ with_entry c event reply))

-- From c these events may lead to d, one step after another.
abbrev pub IsRun : Core → List Event → Core → Type 0
IsRun c [] d = d ≡ c
IsRun c (event ∷ events) d = (reply : Reply) × (mid : Core) × IsStep c event reply mid × IsRun mid events d
