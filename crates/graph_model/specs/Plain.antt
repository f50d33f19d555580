-- What a plain heap answers, one without a log or a disk. It has nothing to collect, and so a collection neither begins nor runs.
use Rattle.std.specs.Prelude.{ℕ, ◌+◌, ◌==◌, nat_lt, nat_le, length, Option, None, Some, is_some, if◌then◌else◌}
use Rattle.graph_model.specs.declared.id.Id.{Id}
use Rattle.graph_model.specs.declared.event.Event.{Event}
use Rattle.graph_model.specs.declared.event.Event.TheVariants.{Begin, Root, New, Put, Clear, Link, Drop, Get, Same, Len, Seal, Abort, Force, Flip, Scan, Flush}
use Rattle.graph_model.specs.declared.reply.Refusal.{Refusal}
use Rattle.graph_model.specs.declared.reply.Refusal.TheVariants.{Failed, AlreadyActive, NotActive, NumbersSpent, BadHandle, Range, BadField, Busy}
use Rattle.graph_model.specs.declared.reply.Reply.{Reply}
use Rattle.graph_model.specs.declared.reply.Reply.TheVariants.{Begun, Done, Sealed, Aborted, Durable, Collecting, Idle, Flushed, Refused}
use Rattle.graph_model.specs.Graph.{Graph, fields}
use Rattle.graph_model.specs.Kinds.{Kind, Begins, Calls, Ends, Collects, Saves, kind_of}
use Rattle.graph_model.specs.Transaction.{View, Transaction, held, call, run, serial}
use Rattle.graph_model.specs.History.{Account, session_of}
use Rattle.graph_model.specs.Locking.{lock_of, busy_holder}

-- the first number that no transaction has
abbrev pub no_number : ℕ
no_number = 4294967295

-- the first number that is too large for a field
abbrev pub no_int : ℕ
no_int = 4611686018427387904

-- the most fields of an object
abbrev pub most_fields : ℕ
most_fields = 510

-- what an active transaction sees: its own calls on what the sealed ones left
abbrev pub view : Graph → Account → Transaction → View
view g0 a t = run (serial g0 a.sealed) t

-- why a handle can't be named
abbrev pub handle_refusal : ℕ → Option Refusal
handle_refusal h = if nat_lt 63 h then Some BadHandle else None

-- why a handle can't hold a new object of that many fields
abbrev pub new_refusal : ℕ → ℕ → Option Refusal
new_refusal h len = if nat_lt 63 h then Some BadHandle else if nat_lt most_fields len then Some Range else None

-- why what a handle holds can't be asked for its length
abbrev pub len_refusal : Option Id → Option Refusal
len_refusal None = Some BadHandle
len_refusal (Some id) = None

-- why what two handles hold can't be compared
abbrev pub same_refusal : Option Id → Option Id → Option Refusal
same_refusal (Some id) (Some other) = None
same_refusal o p = Some BadHandle

-- why a field of the object that a handle holds can't be read or set to null
abbrev pub field_refusal : Graph → Option Id → ℕ → Option Refusal
field_refusal g None i = Some BadHandle
field_refusal g (Some id) i = if nat_le (length (fields g id)) i then Some BadField else None

-- why a field of the object that a handle holds can't be set to that number
abbrev pub put_refusal : Graph → Option Id → ℕ → ℕ → Option Refusal
put_refusal g None i v = Some BadHandle
put_refusal g (Some id) i v = if nat_le no_int v then Some Range else field_refusal g (Some id) i

-- why a field of the object that a handle holds can't be set to refer to what another handle holds
abbrev pub link_refusal : Graph → Option Id → ℕ → Option Id → Option Refusal
link_refusal g o i None = Some BadHandle
link_refusal g o i (Some id) = field_refusal g o i

-- why a call is refused where its transaction sees this; a handle above 63 holds nothing
abbrev pub view_refusal : View → Event → Option Refusal
view_refusal view (Root s h) = handle_refusal h
view_refusal view (New s h len) = new_refusal h len
view_refusal view (Put s h i v) = put_refusal view.graph (held view.registers h) i v
view_refusal view (Clear s h i) = field_refusal view.graph (held view.registers h) i
view_refusal view (Link s h i h2) = link_refusal view.graph (held view.registers h) i (held view.registers h2)
view_refusal view (Drop s h) = handle_refusal h
view_refusal view (Get s h i h2) = if nat_lt 63 h2 then Some BadHandle else field_refusal view.graph (held view.registers h) i
view_refusal view (Same s h h2) = same_refusal (held view.registers h) (held view.registers h2)
view_refusal view (Len s h) = len_refusal (held view.registers h)
view_refusal view event = None

-- why a call of a session is refused, or the end of its transaction
abbrev pub call_refusal : Graph → Account → Option Transaction → Event → Option Refusal
call_refusal g0 a None event = Some NotActive
call_refusal g0 a (Some t) event = view_refusal (view g0 a t) event

-- why an event of this kind is refused for what it asks for, where its session has this transaction
abbrev pub asked_refusal : ℕ → Graph → Account → Option Transaction → Event → Kind → Option Refusal
asked_refusal next g0 a t event Begins = if is_some t then Some AlreadyActive else if next == no_number then Some NumbersSpent else None
asked_refusal next g0 a t event Calls = call_refusal g0 a t event
asked_refusal next g0 a t event Ends = call_refusal g0 a t event
asked_refusal next g0 a t event Collects = None
asked_refusal next g0 a t event Saves = None

-- why an event is refused for what it asks for
abbrev pub event_refusal : ℕ → Graph → Account → Event → Option Refusal
event_refusal next g0 a event = asked_refusal next g0 a (a.active (session_of event)) event (kind_of event)

-- the refusal that names who holds an object
abbrev pub busy_with : Option ℕ → Option Refusal
busy_with None = None
busy_with (Some holder) = Some (Busy holder)

-- why a call of a transaction has to give way to what others hold
abbrev pub call_conflict : Graph → Account → Option Transaction → Event → Option Refusal
call_conflict g0 a None event = None
call_conflict g0 a (Some t) event = busy_with (busy_holder g0 a t.number (lock_of (view g0 a t).registers event))

-- why an event has to give way to what other transactions hold
abbrev pub conflict_refusal : Graph → Account → Event → Option Refusal
conflict_refusal g0 a event = call_conflict g0 a (a.active (session_of event)) event

-- the first of two reasons
abbrev pub first_of_two : Option Refusal → Option Refusal → Option Refusal
first_of_two None second = second
first_of_two (Some why) second = Some why

-- why an event is refused, of a heap that has not failed and whose next transaction has this number: for what it asks for, and then for
-- what others hold
abbrev pub model_refusal : ℕ → Graph → Account → Event → Option Refusal
model_refusal next g0 a event = first_of_two (event_refusal next g0 a event) (conflict_refusal g0 a event)

-- a heap that has failed refuses everything
abbrev pub refusal_of : Option ℕ → Option Refusal → Option Refusal
refusal_of None refusal = refusal
refusal_of (Some entry) refusal = Some (Failed entry)

-- why an event is refused
abbrev pub refusal : ℕ → Graph → Account → Event → Option Refusal
refusal next g0 a event = refusal_of a.failed (model_refusal next g0 a event)

-- what a call of a transaction is answered
abbrev pub call_reply : Graph → Account → Option Transaction → Event → Reply
call_reply g0 a None event = Done
call_reply g0 a (Some t) event = (call (view g0 a t) t.number event).reply

-- what an event that isn't refused is answered: all but those that are named are calls
abbrev pub granted : ℕ → Graph → Account → Event → Reply
granted next g0 a (Begin s) = Begun next
granted next g0 a (Seal s) = Sealed (length a.sealed + 1)
granted next g0 a (Abort s) = Aborted
granted next g0 a Force = Durable (length a.sealed)
granted next g0 a Flip = Collecting
granted next g0 a Scan = Idle
granted next g0 a (Flush p) = Flushed p
granted next g0 a event = call_reply g0 a (a.active (session_of event)) event

abbrev pub reply_of : Option Refusal → Reply → Reply
reply_of None reply = reply
reply_of (Some why) reply = Refused why

-- What a plain heap that was opened with graph g0 and this first number answers.
abbrev pub plain_reply : ℕ → Graph → Account → Event → Reply
plain_reply first g0 a event =
    let next = first + a.begun in
    reply_of (refusal next g0 a event) (granted next g0 a event)
