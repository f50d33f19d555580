-- What the brief forms stand for.
use Rattle.std.specs.Prelude.{ℕ, ◌<◌, List, length, get_or}
use Rattle.graph_model.specs.declared.event.Event.{Event}
use Rattle.graph_model.specs.declared.event.Event.TheVariants.{Begin, Root, New, Put, Clear, Link, Drop, Get, Same, Len, Seal, Abort, Force, Flip, Scan, Flush}
use Rattle.graph_model.specs.declared.reply.Entry.{Entry}
use Rattle.graph_model.specs.declared.reply.Refusal.{Refusal}
use Rattle.graph_model.specs.declared.reply.Refusal.TheVariants.{Failed, AlreadyActive, NotActive, NumbersSpent, BadHandle, Range, BadField, NoSuchPage, Busy, VolatileFull, Exhausted, LogFull, DiskFault, Stopped}
use Rattle.graph_model.specs.declared.reply.Reply.{Reply}
use Rattle.graph_model.specs.declared.reply.Reply.TheVariants.{Begun, Done, Null, Int, Reference, Yes, No, Length, Sealed, Aborted, Durable, Flipped, Collecting, Scanned, Collected, Idle, Flushed, Clean, Refused}
use Rattle.brief_entries.specs.declared.brief_event.BriefEvent.{BriefEvent}
use Rattle.brief_entries.specs.declared.brief_event.BriefEvent.TheVariants as brief
use Rattle.brief_entries.specs.declared.brief_reply.BriefRefusal.{BriefRefusal}
use Rattle.brief_entries.specs.declared.brief_reply.BriefRefusal.TheVariants as why
use Rattle.brief_entries.specs.declared.brief_reply.BriefReply.{BriefReply}
use Rattle.brief_entries.specs.declared.brief_reply.BriefReply.TheVariants as answer
use Rattle.brief_entries.specs.declared.kept_entry.KeptEntry.{KeptEntry}
use Rattle.brief_entries.specs.declared.kept_entry.KeptEntry.TheVariants as kept

-- the event of that session
abbrev pub event_of : BriefEvent → ℕ → Event
event_of brief.Begin s = Begin s
event_of (brief.Root h) s = Root s h
event_of (brief.New h len) s = New s h len
event_of (brief.Put h i v) s = Put s h i v
event_of (brief.Clear h i) s = Clear s h i
event_of (brief.Link h h2 i) s = Link s h i h2
event_of (brief.Drop h) s = Drop s h
event_of (brief.Get h h2 i) s = Get s h i h2
event_of (brief.Same h h2) s = Same s h h2
event_of (brief.Len h) s = Len s h
event_of brief.Seal s = Seal s
event_of brief.Abort s = Abort s
event_of brief.Force s = Force
event_of brief.Flip s = Flip
event_of brief.Scan s = Scan
event_of (brief.Flush p) s = Flush p

abbrev pub refusal_of : BriefRefusal → Refusal
refusal_of (why.Failed entry) = Failed entry
refusal_of why.AlreadyActive = AlreadyActive
refusal_of why.NotActive = NotActive
refusal_of why.NumbersSpent = NumbersSpent
refusal_of why.BadHandle = BadHandle
refusal_of why.Range = Range
refusal_of why.BadField = BadField
refusal_of why.NoSuchPage = NoSuchPage
refusal_of (why.Busy holder) = Busy holder
refusal_of (why.VolatileFull used) = VolatileFull used
refusal_of why.DiskFault = DiskFault
refusal_of why.Stopped = Stopped

abbrev pub reply_of : BriefReply → Reply
reply_of (answer.Begun n) = Begun n
reply_of answer.Done = Done
reply_of answer.Null = Null
reply_of answer.Reference = Reference
reply_of answer.Yes = Yes
reply_of answer.No = No
reply_of (answer.Length n) = Length n
reply_of (answer.Sealed n) = Sealed n
reply_of answer.Aborted = Aborted
reply_of (answer.Durable n) = Durable n
reply_of (answer.Flipped objects words) = Flipped objects words
reply_of answer.Collecting = Collecting
reply_of (answer.Collected used) = Collected used
reply_of answer.Idle = Idle
reply_of (answer.Flushed page) = Flushed page
reply_of (answer.Clean page) = Clean page
reply_of (answer.Refused why) = Refused (refusal_of why)

-- an entry is kept within a list of whole entries: the place of a whole one is a place of that list
abbrev pub IsWithin : List Entry → KeptEntry → Type 0
IsWithin whole (kept.Whole place) = place < length whole
IsWithin whole entry = Unit {0}

-- the entry, given a list of whole entries that it is kept within; otherwise what it says is of no use
abbrev pub entry_of : List Entry → KeptEntry → Entry
entry_of whole (kept.Wrote s h i v) = record { event = Put s h i v; reply = Done }
entry_of whole (kept.Read s event v) = record { event = event_of event s; reply = Int v }
entry_of whole (kept.Answered s event reply) = record { event = event_of event s; reply = reply_of reply }
entry_of whole (kept.Exhausted s event need free owed) = record { event = event_of event s; reply = Refused (Exhausted need free owed) }
entry_of whole (kept.LogFull s event used need reserved) = record { event = event_of event s; reply = Refused (LogFull used need reserved) }
entry_of whole (kept.Scanned s event page objects words) = record { event = event_of event s; reply = Scanned page objects words }
entry_of whole (kept.Whole place) = get_or whole place (record { event = Force; reply = Idle })
