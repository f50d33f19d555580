-- Which events, replies and entries are ordinary: their numbers fit a brief form.
use Rattle.std.specs.Prelude.{ℕ, ◌<◌, ◌^◌}
use Rattle.graph_model.specs.declared.event.Event.{Event}
use Rattle.graph_model.specs.declared.event.Event.TheVariants.{Root, New, Put, Clear, Link, Drop, Get, Same, Len, Flush}
use Rattle.graph_model.specs.declared.reply.Entry.{Entry}
use Rattle.graph_model.specs.declared.reply.Refusal.{Refusal}
use Rattle.graph_model.specs.declared.reply.Refusal.TheVariants.{Failed, AlreadyActive, NotActive, NumbersSpent, BadHandle, Range, BadField, NoSuchPage, Busy, VolatileFull, Exhausted, LogFull, DiskFault, Stopped}
use Rattle.graph_model.specs.declared.reply.Reply.{Reply}
use Rattle.graph_model.specs.declared.reply.Reply.TheVariants.{Begun, Done, Null, Int, Reference, Yes, No, Length, Sealed, Aborted, Durable, Flipped, Collecting, Scanned, Collected, Idle, Flushed, Clean, Refused}
use Rattle.graph_model.specs.History.{session_of}

-- a session or a handle is below 256
abbrev pub IsSmall : ℕ → Type 0
IsSmall n = n < 2 ^ 8

-- a field is below 65,536
abbrev pub IsSmallField : ℕ → Type 0
IsSmallField i = i < 2 ^ 16

-- any other number is below 2^32
abbrev pub IsSmallNumber : ℕ → Type 0
IsSmallNumber n = n < 2 ^ 32

-- the handles, fields and other numbers of an event are; its session does not matter here, and all that are not named have no other number
abbrev pub IsOrdinaryEvent : Event → Type 0
IsOrdinaryEvent (Root s h) = IsSmall h
IsOrdinaryEvent (New s h len) = IsSmall h × IsSmallNumber len
IsOrdinaryEvent (Put s h i v) = IsSmall h × IsSmallField i × IsSmallNumber v
IsOrdinaryEvent (Clear s h i) = IsSmall h × IsSmallField i
IsOrdinaryEvent (Link s h i h2) = IsSmall h × IsSmallField i × IsSmall h2
IsOrdinaryEvent (Drop s h) = IsSmall h
IsOrdinaryEvent (Get s h i h2) = IsSmall h × IsSmallField i × IsSmall h2
IsOrdinaryEvent (Same s h h2) = IsSmall h × IsSmall h2
IsOrdinaryEvent (Len s h) = IsSmall h
IsOrdinaryEvent (Flush p) = IsSmallNumber p
IsOrdinaryEvent event = Unit {0}

-- a refusal has at most one number, and that is below 2^32
abbrev pub IsBriefRefusal : Refusal → Type 0
IsBriefRefusal (Failed entry) = IsSmallNumber entry
IsBriefRefusal AlreadyActive = Unit {0}
IsBriefRefusal NotActive = Unit {0}
IsBriefRefusal NumbersSpent = Unit {0}
IsBriefRefusal BadHandle = Unit {0}
IsBriefRefusal Range = Unit {0}
IsBriefRefusal BadField = Unit {0}
IsBriefRefusal NoSuchPage = Unit {0}
IsBriefRefusal (Busy holder) = IsSmallNumber holder
IsBriefRefusal (VolatileFull used) = IsSmallNumber used
IsBriefRefusal (Exhausted need free owed) = ⊥
IsBriefRefusal (LogFull used need reserved) = ⊥
IsBriefRefusal DiskFault = Unit {0}
IsBriefRefusal Stopped = Unit {0}

-- a reply is not the number in a field, and has at most two others, which are below 2^32
abbrev pub IsBriefReply : Reply → Type 0
IsBriefReply (Begun n) = IsSmallNumber n
IsBriefReply Done = Unit {0}
IsBriefReply Null = Unit {0}
IsBriefReply (Int v) = ⊥
IsBriefReply Reference = Unit {0}
IsBriefReply Yes = Unit {0}
IsBriefReply No = Unit {0}
IsBriefReply (Length n) = IsSmallNumber n
IsBriefReply (Sealed n) = IsSmallNumber n
IsBriefReply Aborted = Unit {0}
IsBriefReply (Durable n) = IsSmallNumber n
IsBriefReply (Flipped objects words) = IsSmallNumber objects × IsSmallNumber words
IsBriefReply Collecting = Unit {0}
IsBriefReply (Scanned page objects words) = ⊥
IsBriefReply (Collected used) = IsSmallNumber used
IsBriefReply Idle = Unit {0}
IsBriefReply (Flushed page) = IsSmallNumber page
IsBriefReply (Clean page) = IsSmallNumber page
IsBriefReply (Refused why) = IsBriefRefusal why

-- the number in a field may be any; the others of a reply are below 2^32
abbrev pub IsOrdinaryReply : Reply → Type 0
IsOrdinaryReply (Int v) = Unit {0}
IsOrdinaryReply (Scanned page objects words) = IsSmallNumber page × IsSmallNumber objects × IsSmallNumber words
IsOrdinaryReply (Refused (Exhausted need free owed)) = IsSmallNumber need × IsSmallNumber free × IsSmallNumber owed
IsOrdinaryReply (Refused (LogFull used need reserved)) = IsSmallNumber used × IsSmallNumber need × IsSmallNumber reserved
IsOrdinaryReply reply = IsBriefReply reply

-- an event is ordinary with its reply: a number that was put may be any
abbrev pub IsOrdinaryCall : Event → Reply → Type 0
IsOrdinaryCall (Put s h i v) Done = IsSmall h × IsSmallField i
IsOrdinaryCall event reply = IsOrdinaryEvent event

-- An entry is ordinary: its session and its handles are below 256, its field is below 65,536, and its other numbers are below 2^32; but a number that
-- was put into a field or read there may be any.
pub record IsOrdinary (entry : Entry) : Type 0 where
  pub session : IsSmall (session_of entry.event)
  pub event : IsOrdinaryCall entry.event entry.reply
  pub reply : IsOrdinaryReply entry.reply
