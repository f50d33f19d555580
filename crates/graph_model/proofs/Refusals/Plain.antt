-- Laws of what a plain heap answers.
use Rattle.std.proofs.Common.{◌≡◌, ℕ, ◌+◌, Bool, true, false, Option, None, Some, refl, ap}
use Rattle.std.specs.Prelude.{◌==◌, nat_lt, nat_le, length, is_some, if◌then◌else◌}
use Rattle.graph_model.specs.declared.id.Id.{Id}
use Rattle.graph_model.specs.declared.event.Event.{Event}
use Rattle.graph_model.specs.declared.event.Event.TheVariants.{Begin, Root, New, Put, Clear, Link, Drop, Get, Same, Len, Seal, Abort, Force, Flip, Scan, Flush}
use Rattle.graph_model.specs.declared.reply.Refusal.{Refusal}
use Rattle.graph_model.specs.declared.reply.Refusal.TheVariants.{AlreadyActive, NumbersSpent, BadHandle, Range, BadField, DiskFault, Stopped}
use Rattle.graph_model.specs.declared.reply.Reply.{Reply}
use Rattle.graph_model.specs.declared.reply.Reply.TheVariants.{Done, Refused}
use Rattle.graph_model.specs.Graph.{Graph, fields}
use Rattle.graph_model.specs.Kinds.{Kind, Begins, Calls, Ends, Collects, Saves, kind_of, AreCalls}
use Rattle.graph_model.specs.Transaction.{View, Transaction, IsCall, held}
use Rattle.graph_model.specs.History.{Account, session_of, answered, account_after}
use Rattle.graph_model.specs.Locking.{lock_of, busy_holder}
use Rattle.graph_model.specs.Plain.{no_number, no_int, most_fields, handle_refusal, new_refusal, len_refusal, field_refusal, put_refusal, link_refusal, same_refusal, view_refusal, call_refusal, asked_refusal, event_refusal, busy_with, call_conflict, conflict_refusal, first_of_two, model_refusal, refusal_of, call_reply, granted, reply_of, plain_reply, view}
use Rattle.graph_model.specs.Replies.{IsCallReply}
use Rattle.graph_model.proofs.Runs.History.{IsOrder, call-IsCallReply, call-reply}

-- a refusal that doesn't come from the disk
abbrev pub IsNoFault : Refusal → Type 0
IsNoFault DiskFault = ⊥
IsNoFault Stopped = ⊥
IsNoFault why = Unit {0}

-- no refusal, or one that doesn't come from the disk
abbrev pub HasNoFault : Option Refusal → Type 0
HasNoFault None = Unit {0}
HasNoFault (Some why) = IsNoFault why

-- an answer that doesn't come from the disk
abbrev pub IsSoundReply : Reply → Type 0
IsSoundReply (Refused why) = IsNoFault why
IsSoundReply reply = Unit {0}

no_fault_if : (b : Bool) (why : Refusal) (o : Option Refusal) → IsNoFault why → HasNoFault o → HasNoFault (if b then Some why else o)
no_fault_if true why o h k = h
no_fault_if false why o h k = k

handle_no_fault : (h : ℕ) → HasNoFault (handle_refusal h)
handle_no_fault h = no_fault_if (nat_lt 63 h) BadHandle None tt tt

new_no_fault : (h len : ℕ) → HasNoFault (new_refusal h len)
new_no_fault h len =
    no_fault_if (nat_lt 63 h) BadHandle (if nat_lt most_fields len then Some Range else None) tt
    (no_fault_if (nat_lt most_fields len) Range None tt tt)

len_no_fault : (o : Option Id) → HasNoFault (len_refusal o)
len_no_fault None = tt
len_no_fault (Some id) = tt

field_no_fault : (g : Graph) (o : Option Id) (i : ℕ) → HasNoFault (field_refusal g o i)
field_no_fault g None i = tt
field_no_fault g (Some id) i = no_fault_if (nat_le (length (fields g id)) i) BadField None tt tt

put_no_fault : (g : Graph) (o : Option Id) (i v : ℕ) → HasNoFault (put_refusal g o i v)
put_no_fault g None i v = tt
put_no_fault g (Some id) i v = no_fault_if (nat_le no_int v) Range (field_refusal g (Some id) i) tt (field_no_fault g (Some id) i)

link_no_fault : (g : Graph) (o : Option Id) (i : ℕ) (p : Option Id) → HasNoFault (link_refusal g o i p)
link_no_fault g o i None = tt
link_no_fault g o i (Some id) = field_no_fault g o i

same_no_fault : (o p : Option Id) → HasNoFault (same_refusal o p)
same_no_fault None p = tt
same_no_fault (Some id) None = tt
same_no_fault (Some id) (Some other) = tt

-- nor is a call refused by the disk
pub view_no_fault : (v : View) (event : Event) → HasNoFault (view_refusal v event)
view_no_fault v (Root s h) = handle_no_fault h
view_no_fault v (New s h len) = new_no_fault h len
view_no_fault v (Put s h i n) = put_no_fault v.graph (held v.registers h) i n
view_no_fault v (Clear s h i) = field_no_fault v.graph (held v.registers h) i
view_no_fault v (Link s h i h2) = link_no_fault v.graph (held v.registers h) i (held v.registers h2)
view_no_fault v (Drop s h) = handle_no_fault h
view_no_fault v (Get s h i h2) = no_fault_if (nat_lt 63 h2) BadHandle (field_refusal v.graph (held v.registers h) i) tt (field_no_fault v.graph (held v.registers h) i)
view_no_fault v (Same s h h2) = same_no_fault (held v.registers h) (held v.registers h2)
view_no_fault v (Len s h) = len_no_fault (held v.registers h)
view_no_fault v event = tt

call_no_fault : (g0 : Graph) (a : Account) (t : Option Transaction) (event : Event) → HasNoFault (call_refusal g0 a t event)
call_no_fault g0 a None event = tt
call_no_fault g0 a (Some t) event = view_no_fault (view g0 a t) event

asked_no_fault : (next : ℕ) (g0 : Graph) (a : Account) (t : Option Transaction) (event : Event) (kind : Kind) → HasNoFault (asked_refusal next g0 a t event kind)
asked_no_fault next g0 a t event Begins =
    no_fault_if (is_some t) AlreadyActive (if next == no_number then Some NumbersSpent else None) tt
    (no_fault_if (next == no_number) NumbersSpent None tt tt)
asked_no_fault next g0 a t event Calls = call_no_fault g0 a t event
asked_no_fault next g0 a t event Ends = call_no_fault g0 a t event
asked_no_fault next g0 a t event Collects = tt
asked_no_fault next g0 a t event Saves = tt

event_no_fault : (next : ℕ) (g0 : Graph) (a : Account) (event : Event) → HasNoFault (event_refusal next g0 a event)
event_no_fault next g0 a event = asked_no_fault next g0 a (a.active (session_of event)) event (kind_of event)

busy_no_fault : (holder : Option ℕ) → HasNoFault (busy_with holder)
busy_no_fault None = tt
busy_no_fault (Some n) = tt

call_conflict_no_fault : (g0 : Graph) (a : Account) (t : Option Transaction) (event : Event) → HasNoFault (call_conflict g0 a t event)
call_conflict_no_fault g0 a None event = tt
call_conflict_no_fault g0 a (Some t) event = busy_no_fault (busy_holder g0 a t.number (lock_of (view g0 a t).registers event))

first_no_fault : (first second : Option Refusal) → HasNoFault first → HasNoFault second → HasNoFault (first_of_two first second)
first_no_fault None second h k = k
first_no_fault (Some why) second h k = h

-- nor is an event in conflict with others
pub model_no_fault : (next : ℕ) (g0 : Graph) (a : Account) (event : Event) → HasNoFault (model_refusal next g0 a event)
model_no_fault next g0 a event =
    first_no_fault (event_refusal next g0 a event) (conflict_refusal g0 a event) (event_no_fault next g0 a event) (call_conflict_no_fault g0 a (a.active (session_of event)) event)

failed_no_fault : (failed : Option ℕ) (why : Option Refusal) → HasNoFault why → HasNoFault (refusal_of failed why)
failed_no_fault None why h = h
failed_no_fault (Some entry) why h = tt

-- what a call that is not refused is answered
pub call_reply-IsCallReply : (g0 : Graph) (a : Account) (t : Option Transaction) (event : Event) → IsCallReply (call_reply g0 a t event)
call_reply-IsCallReply g0 a None event = tt
call_reply-IsCallReply g0 a (Some t) event = call-IsCallReply (view g0 a t) t.number event

call_sound : (reply : Reply) → IsCallReply reply → IsSoundReply reply
call_sound (Refused why) never = absurd never
call_sound reply is = tt

-- nor does what an event that is not refused is answered
pub granted_sound : (next : ℕ) (g0 : Graph) (a : Account) (event : Event) → IsSoundReply (granted next g0 a event)
granted_sound next g0 a (Begin s) = tt
granted_sound next g0 a (Seal s) = tt
granted_sound next g0 a (Abort s) = tt
granted_sound next g0 a Force = tt
granted_sound next g0 a Flip = tt
granted_sound next g0 a Scan = tt
granted_sound next g0 a (Flush p) = tt
granted_sound next g0 a event = call_sound _ (call_reply-IsCallReply g0 a (a.active (session_of event)) event)

-- nor an answer that is a refusal or that one
pub sound_either : (why : Option Refusal) (reply : Reply) → HasNoFault why → IsSoundReply reply → IsSoundReply (reply_of why reply)
sound_either None reply h k = k
sound_either (Some why) reply h k = h

-- a plain heap never answers that the disk stopped or failed
pub plain_reply-IsSoundReply : (first : ℕ) (g0 : Graph) (a : Account) (event : Event) → IsSoundReply (plain_reply first g0 a event)
plain_reply-IsSoundReply first g0 a event =
    sound_either _ _ (failed_no_fault a.failed _ (model_no_fault (first + a.begun) g0 a event)) (granted_sound (first + a.begun) g0 a event)

-- an order that isn't refused is answered `done`
pub call_reply-done : (g0 : Graph) (a : Account) (t : Option Transaction) (event : Event) → IsOrder event → call_reply g0 a t event ≡ Done
call_reply-done g0 a None event order = refl
call_reply-done g0 a (Some t) event order = call-reply (view g0 a t) t.number event order

asked_refusal-call : (next : ℕ) (g0 : Graph) (a : Account) (t : Option Transaction) (event : Event) (kind : Kind) → AreCalls kind → asked_refusal next g0 a t event kind ≡ call_refusal g0 a t event
asked_refusal-call next g0 a t event Calls is = refl
asked_refusal-call next g0 a t event kind never = absurd never

-- a call is refused by what its session's transaction sees
pub event_refusal-call : (next : ℕ) (g0 : Graph) (a : Account) (event : Event) → IsCall event → event_refusal next g0 a event ≡ call_refusal g0 a (a.active (session_of event)) event
event_refusal-call next g0 a event is = asked_refusal-call next g0 a (a.active (session_of event)) event (kind_of event) is

-- and is answered so
pub granted-call : (next : ℕ) (g0 : Graph) (a : Account) (event : Event) → IsCall event → granted next g0 a event ≡ call_reply g0 a (a.active (session_of event)) event
granted-call next g0 a (Begin s) never = absurd never
granted-call next g0 a (Seal s) never = absurd never
granted-call next g0 a (Abort s) never = absurd never
granted-call next g0 a Force never = absurd never
granted-call next g0 a Flip never = absurd never
granted-call next g0 a Scan never = absurd never
granted-call next g0 a (Flush p) never = absurd never
granted-call next g0 a event is = refl

-- a refusal that doesn't come from the disk adds nothing
pub answered-refused : (a : Account) (event : Event) (why : Refusal) → IsNoFault why → answered a event (Refused why) ≡ a
answered-refused a event DiskFault h = absurd h
answered-refused a event Stopped h = absurd h
answered-refused a event why h = refl

-- but an entry
pub account_after-refused : (a : Account) (event : Event) (why : Refusal) → IsNoFault why
    → account_after a (record { event = event; reply = Refused why }) ≡ record a { entries = a.entries + 1 }
account_after-refused a event why h = ap {A = Account} (λ b. record b { entries = a.entries + 1 }) (answered-refused a event why h)
