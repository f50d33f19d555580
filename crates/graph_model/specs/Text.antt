-- What is printed: the bytes of events, replies and graphs.
use Rattle.std.specs.Prelude.{ℕ, ◌+◌, List, [], ◌∷◌, ◌++◌, length, codes}
use Rattle.std.specs.Fmt.{decimal}
use Rattle.graph_model.specs.declared.event.Event.{Event}
use Rattle.graph_model.specs.declared.event.Event.TheVariants.{Begin, Root, New, Put, Clear, Link, Drop, Get, Same, Len, Seal, Abort, Force, Flip, Scan, Flush}
use Rattle.graph_model.specs.declared.reply.Refusal.{Refusal}
use Rattle.graph_model.specs.declared.reply.Refusal.TheVariants.{Failed, AlreadyActive, NotActive, NumbersSpent, BadHandle, Range, BadField, NoSuchPage, Busy, VolatileFull, Exhausted, LogFull, DiskFault, Stopped}
use Rattle.graph_model.specs.declared.reply.Reply.{Reply}
use Rattle.graph_model.specs.declared.reply.Reply.TheVariants.{Begun, Done, Null, Int, Reference, Yes, No, Length, Sealed, Aborted, Durable, Flipped, Collecting, Scanned, Collected, Idle, Flushed, Clean, Refused}
use Rattle.graph_model.specs.declared.reply.Entry.{Entry}
use Rattle.graph_model.specs.Canon.{Shown, Nothing, Number, Object}

abbrev pub event_text : Event → List ℕ
event_text (Begin s) = decimal s ++ codes " begin"
event_text (Root s h) = decimal s ++ codes " root " ++ decimal h
event_text (New s h len) = decimal s ++ codes " new " ++ decimal h ++ codes " " ++ decimal len
event_text (Put s h i v) = decimal s ++ codes " put " ++ decimal h ++ codes " " ++ decimal i ++ codes " " ++ decimal v
event_text (Clear s h i) = decimal s ++ codes " clear " ++ decimal h ++ codes " " ++ decimal i
event_text (Link s h i h2) = decimal s ++ codes " link " ++ decimal h ++ codes " " ++ decimal i ++ codes " " ++ decimal h2
event_text (Drop s h) = decimal s ++ codes " drop " ++ decimal h
event_text (Get s h i h2) = decimal s ++ codes " get " ++ decimal h ++ codes " " ++ decimal i ++ codes " " ++ decimal h2
event_text (Same s h h2) = decimal s ++ codes " same " ++ decimal h ++ codes " " ++ decimal h2
event_text (Len s h) = decimal s ++ codes " len " ++ decimal h
event_text (Seal s) = decimal s ++ codes " seal"
event_text (Abort s) = decimal s ++ codes " abort"
event_text Force = codes "force"
event_text Flip = codes "flip"
event_text Scan = codes "scan"
event_text (Flush p) = codes "flush " ++ decimal p

abbrev pub refusal_text : Refusal → List ℕ
refusal_text (Failed entry) = codes "failed " ++ decimal entry
refusal_text AlreadyActive = codes "alreadyactive"
refusal_text NotActive = codes "notactive"
refusal_text NumbersSpent = codes "numbersspent"
refusal_text BadHandle = codes "badhandle"
refusal_text Range = codes "range"
refusal_text BadField = codes "badfield"
refusal_text NoSuchPage = codes "nosuchpage"
refusal_text (Busy holder) = codes "busy " ++ decimal holder
refusal_text (VolatileFull used) = codes "volatilefull " ++ decimal used
refusal_text (Exhausted need free owed) = codes "exhausted " ++ decimal need ++ codes " " ++ decimal free ++ codes " " ++ decimal owed
refusal_text (LogFull used need reserved) = codes "logfull " ++ decimal used ++ codes " " ++ decimal need ++ codes " " ++ decimal reserved
refusal_text DiskFault = codes "diskfault"
refusal_text Stopped = codes "stopped"

abbrev pub reply_text : Reply → List ℕ
reply_text (Begun n) = codes "begun " ++ decimal n
reply_text Done = codes "done"
reply_text Null = codes "null"
reply_text (Int v) = codes "int " ++ decimal v
reply_text Reference = codes "ref"
reply_text Yes = codes "yes"
reply_text No = codes "no"
reply_text (Length n) = codes "len " ++ decimal n
reply_text (Sealed n) = codes "sealed " ++ decimal n
reply_text Aborted = codes "aborted"
reply_text (Durable n) = codes "durable " ++ decimal n
reply_text (Flipped objects words) = codes "flipped " ++ decimal objects ++ codes " " ++ decimal words
reply_text Collecting = codes "collecting"
reply_text (Scanned page objects words) = codes "scanned " ++ decimal page ++ codes " " ++ decimal objects ++ codes " " ++ decimal words
reply_text (Collected used) = codes "collected " ++ decimal used
reply_text Idle = codes "idle"
reply_text (Flushed page) = codes "flushed " ++ decimal page
reply_text (Clean page) = codes "clean " ++ decimal page
reply_text (Refused why) = refusal_text why

-- an event and its reply
abbrev pub entry_text : Entry → List ℕ
entry_text entry = event_text entry.event ++ codes " -> " ++ reply_text entry.reply

-- the line of an event and its reply
abbrev pub line : Entry → List ℕ
line entry = entry_text entry ++ 10 ∷ []

-- a field, with a blank before it
abbrev pub field_text : Shown → List ℕ
field_text Nothing = codes " -"
field_text (Number n) = codes " " ++ decimal n
field_text (Object number) = codes " @" ++ decimal number

abbrev pub fields_text : List Shown → List ℕ
fields_text [] = []
fields_text (field ∷ fields) = field_text field ++ fields_text fields

-- the row of the object of that number
abbrev pub row_text : ℕ → List Shown → List ℕ
row_text number row = decimal number ++ codes ":" ++ fields_text row ++ 10 ∷ []

-- the rows from this number on
abbrev pub rows_text : ℕ → List (List Shown) → List ℕ
rows_text number [] = []
rows_text number (row ∷ rows) = decimal number ++ codes ":" ++ fields_text row ++ 10 ∷ rows_text (number + 1) rows

-- a graph's text: how many objects there are, and a row for each
abbrev pub canon_text : List (List Shown) → List ℕ
canon_text rows = codes "graph " ++ decimal (length rows) ++ 10 ∷ rows_text 0 rows
