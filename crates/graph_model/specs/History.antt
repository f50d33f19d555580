-- What a history says: the list of events and their replies since the heap was opened, oldest first.
use Rattle.std.specs.Prelude.{◌≡◌, ℕ, ◌+◌, ◌≤◌, ◌==◌, List, [], ◌∷◌, ◌++◌, Option, None, Some, fold, max, if◌then◌else◌}
use Rattle.std.specs.List.{range_with_len}
use Rattle.std.specs.Option.{option_to_list}
use Rattle.graph_model.specs.declared.event.Event.{Event}
use Rattle.graph_model.specs.declared.event.Event.TheVariants.{Begin, Root, New, Put, Clear, Link, Drop, Get, Same, Len, Seal, Abort}
use Rattle.graph_model.specs.declared.reply.Refusal.TheVariants.{DiskFault, Stopped}
use Rattle.graph_model.specs.declared.reply.Reply.{Reply}
use Rattle.graph_model.specs.declared.reply.Reply.TheVariants.{Begun, Done, Null, Int, Reference, Yes, No, Length, Sealed, Aborted, Durable, Flipped, Collecting, Scanned, Collected, Idle, Flushed, Clean, Refused}
use Rattle.graph_model.specs.declared.reply.Entry.{Entry}
use Rattle.graph_model.specs.Kinds.{Kind, Collects, Saves, kind_of}
use Rattle.graph_model.specs.Transaction.{Transaction}

-- the numbers of the sessions
unfoldable pub sessions : List ℕ
sessions = range_with_len 1 32

-- a session is a number from 1 to 32
abbrev pub IsSession : ℕ → Type 0
IsSession s = (1 ≤ s) × (s ≤ 32)

-- the session of an event, and 0 for all others, which are of none: `force`, `flip`, `scan` and `flush`
abbrev pub session_of : Event → ℕ
session_of (Begin s) = s
session_of (Root s h) = s
session_of (New s h len) = s
session_of (Put s h i v) = s
session_of (Clear s h i) = s
session_of (Link s h i h2) = s
session_of (Drop s h) = s
session_of (Get s h i h2) = s
session_of (Same s h h2) = s
session_of (Len s h) = s
session_of (Seal s) = s
session_of (Abort s) = s
session_of event = 0

-- events of this kind are of session s, or of none
abbrev pub AreOfSession : ℕ → Kind → Type 0
AreOfSession s Collects = Unit {0}
AreOfSession s Saves = Unit {0}
AreOfSession s kind = IsSession s

-- an event of a session, or of none
abbrev pub IsOfSession : Event → Type 0
IsOfSession event = AreOfSession (session_of event) (kind_of event)

-- What a history says so far.
pub record Account : Type 0 where
  pub begun : ℕ  -- how many transactions began
  pub active : ℕ → Option Transaction  -- the transaction of each session
  pub sealed : List Transaction  -- those whose seal was answered `sealed`, in that order
  pub in_doubt : Option Transaction  -- the one whose seal the disk cut short
  pub acknowledged : ℕ  -- the greatest number that was answered `durable`
  pub entries : ℕ  -- how many entries there are
  pub failed : Option ℕ  -- the first entry, from 1, that was answered `diskfault` or `stopped`

-- each transaction that is active is one of a session
abbrev pub AreInSessions : Account → Type 0
AreInSessions a = (s : ℕ) (t : Transaction) → a.active s ≡ Some t → IsSession s

-- nothing has happened
abbrev pub nothing_yet : Account
nothing_yet = record { begun = 0; active = λ s. None; sealed = []; in_doubt = None; acknowledged = 0; entries = 0; failed = None }

-- the sessions' transactions where session s has this one
abbrev pub with_active : (ℕ → Option Transaction) → ℕ → Option Transaction → ℕ → Option Transaction
with_active active s transaction session = if session == s then transaction else active session

-- the transaction with one more call
abbrev pub with_call : Option Transaction → Event → Option Transaction
with_call None event = None
with_call (Some t) event = Some (record { number = t.number; calls = t.calls ++ event ∷ [] })

-- session s begins transaction n
abbrev pub begins : Account → ℕ → ℕ → Account
begins a s n = record a { begun = a.begun + 1; active = with_active a.active s (Some (record { number = n; calls = [] })) }

-- the transaction of session s makes a call
abbrev pub makes_call : Account → ℕ → Event → Account
makes_call a s event = record a { active = with_active a.active s (with_call (a.active s) event) }

-- the transaction of session s ends, and is sealed
abbrev pub seals : Account → ℕ → Account
seals a s = record a { active = with_active a.active s None; sealed = a.sealed ++ option_to_list (a.active s) }

-- the transaction of session s ends, and leaves nothing
abbrev pub aborts : Account → ℕ → Account
aborts a s = record a { active = with_active a.active s None }

-- what an entry adds, by its reply: the last seven are replies to calls, which were not refused
abbrev pub done : Account → Event → Reply → Account
done a event (Begun n) = begins a (session_of event) n
done a event (Sealed n) = seals a (session_of event)
done a event Aborted = aborts a (session_of event)
done a event (Durable n) = record a { acknowledged = max a.acknowledged n }
done a event (Flipped objects words) = a
done a event Collecting = a
done a event (Scanned page objects words) = a
done a event (Collected used) = a
done a event Idle = a
done a event (Flushed page) = a
done a event (Clean page) = a
done a event (Refused why) = a
done a event Done = makes_call a (session_of event) event
done a event Null = makes_call a (session_of event) event
done a event (Int v) = makes_call a (session_of event) event
done a event Reference = makes_call a (session_of event) event
done a event Yes = makes_call a (session_of event) event
done a event No = makes_call a (session_of event) event
done a event (Length n) = makes_call a (session_of event) event

-- the first entry at which the disk stopped or failed
abbrev pub first_failure : Option ℕ → ℕ → Option ℕ
first_failure None entry = Some entry
first_failure (Some first) entry = Some first

-- what a seal that the disk cut short adds: its transaction may or may not be on the disk
abbrev pub cut_short : Account → Event → Account
cut_short a (Seal s) = record a { in_doubt = a.active s; failed = first_failure a.failed (a.entries + 1) }
cut_short a event = record a { failed = first_failure a.failed (a.entries + 1) }

-- what an answer adds
abbrev pub answered : Account → Event → Reply → Account
answered a event (Refused DiskFault) = cut_short a event
answered a event (Refused Stopped) = cut_short a event
answered a event reply = done a event reply

-- what the history says with one more entry
abbrev pub account_after : Account → Entry → Account
account_after a entry = let b = answered a entry.event entry.reply in record b { entries = a.entries + 1 }

-- what a whole history says
abbrev pub account : List Entry → Account
account history = fold account_after nothing_yet history

-- the transactions whose seal was answered `sealed`, in that order
abbrev pub sealed : List Entry → List Transaction
sealed history = (account history).sealed

-- those that may be on the disk: the sealed ones, and then the one whose seal the disk cut short
abbrev pub commits : List Entry → List Transaction
commits history = sealed history ++ option_to_list (account history).in_doubt

-- how many commits were acknowledged
abbrev pub acknowledged : List Entry → ℕ
acknowledged history = (account history).acknowledged
