-- The numbers that spell what is asked, and what is answered.
use Rattle.std.specs.Prelude.{ℕ, ◌==◌, nat_lt, Option, Some, None, if◌then◌else◌}
use Rattle.std.specs.Option.{option_map}
use Rattle.graph_model.specs.declared.event.Event.{Event}
use Rattle.graph_model.specs.declared.event.Event.TheVariants as event
use Rattle.graph_model.specs.declared.reply.Refusal.{Refusal}
use Rattle.graph_model.specs.declared.reply.Refusal.TheVariants as refusal
use Rattle.graph_model.specs.declared.reply.Reply.{Reply}
use Rattle.graph_model.specs.declared.reply.Reply.TheVariants as reply
use Rattle.heap_recovery.specs.declared.at.At.{At}
use Rattle.heap_recovery.specs.declared.at.At.TheVariants as place
use Rattle.heap_embed.specs.declared.answer.Answer.{Answer}
use Rattle.heap_embed.specs.declared.answer.Answer.TheVariants as answer
use Rattle.heap_embed.specs.declared.answer.Numbers.{Numbers}
use Rattle.heap_embed.specs.declared.answer.Spelled.{Spelled}
use Rattle.heap_embed.specs.declared.ask.Ask.{Ask}
use Rattle.heap_embed.specs.declared.ask.Ask.TheVariants as ask

-- the event that these numbers spell, the session first
abbrev pub asked_event : ℕ → ℕ → ℕ → ℕ → ℕ → Option Event
asked_event op s a b c =
    if op == 32 then Some (event.Begin s) else
    if op == 33 then Some (event.Root s a) else
    if op == 34 then Some (event.New s a b) else
    if op == 35 then Some (event.Put s a b c) else
    if op == 36 then Some (event.Clear s a b) else
    if op == 37 then Some (event.Link s a b c) else
    if op == 38 then Some (event.Drop s a) else
    if op == 39 then Some (event.Get s a b c) else
    if op == 40 then Some (event.Same s a b) else
    if op == 41 then Some (event.Len s a) else
    if op == 42 then Some (event.Seal s) else
    if op == 43 then Some (event.Abort s) else
    if op == 44 then Some event.Force else
    if op == 45 then Some (event.Flush a) else
    if op == 46 then Some event.Flip else
    if op == 47 then Some event.Scan else
    None

-- what is asked of the heap besides
abbrev pub asked_else : ℕ → ℕ → ℕ → ℕ → Option Ask
asked_else op a b c =
    if op == 1 then Some (ask.More a b) else
    if op == 2 then Some (ask.Zeros a) else
    if op == 3 then Some (ask.Format a b c) else
    if op == 4 then Some ask.Open else
    if op == 5 then Some ask.Told else
    if op == 6 then Some (ask.Item a) else
    if op == 7 then Some (ask.Bytes a b) else
    if op == 8 then Some ask.Done else
    if op == 9 then Some ask.Fail else
    if op == 10 then Some (ask.Last a) else
    if op == 11 then Some (ask.Figure a) else
    if op == 12 then Some ask.Close else
    None

-- what these numbers ask: a number, a session, and those that go with it
abbrev pub asked : ℕ → ℕ → ℕ → ℕ → ℕ → Option Ask
asked op s a b c = if nat_lt op 32 then asked_else op a b c else (if nat_lt s 4294967296 then option_map ask.Event (asked_event op s a b c) else None)

-- a code with its numbers
abbrev pub with : ℕ → ℕ → ℕ → ℕ → Spelled
with code first second third = record { code = code; numbers = record { first = first; second = second; third = third } }

-- a code with no number
abbrev pub bare : ℕ → Spelled
bare code = with code 0 0 0

-- the kind of a damaged place, and its number
abbrev pub spelled_place : At → Spelled
spelled_place (place.Batch offset) = with 3 0 offset 0
spelled_place (place.Rec lsn) = with 3 1 lsn 0
spelled_place place.Reserve = with 3 2 0 0
spelled_place (place.Page page) = with 3 3 page 0
spelled_place (place.Address address) = with 3 4 address 0

-- a refusal, with the numbers that it says
abbrev pub spelled_refusal : Refusal → Spelled
spelled_refusal (refusal.Failed entry) = with 64 entry 0 0
spelled_refusal refusal.AlreadyActive = bare 65
spelled_refusal refusal.NotActive = bare 66
spelled_refusal refusal.NumbersSpent = bare 67
spelled_refusal refusal.BadHandle = bare 68
spelled_refusal refusal.Range = bare 69
spelled_refusal refusal.BadField = bare 70
spelled_refusal refusal.NoSuchPage = bare 71
spelled_refusal (refusal.Busy holder) = with 72 holder 0 0
spelled_refusal (refusal.VolatileFull used) = with 73 used 0 0
spelled_refusal (refusal.Exhausted need free owed) = with 74 need free owed
spelled_refusal (refusal.LogFull used need reserved) = with 75 used need reserved
spelled_refusal refusal.DiskFault = bare 76
spelled_refusal refusal.Stopped = bare 77

-- a reply, with the numbers that it says
abbrev pub spelled_reply : Reply → Spelled
spelled_reply (reply.Begun n) = with 32 n 0 0
spelled_reply reply.Done = bare 33
spelled_reply reply.Null = bare 34
spelled_reply (reply.Int v) = with 35 v 0 0
spelled_reply reply.Reference = bare 36
spelled_reply reply.Yes = bare 37
spelled_reply reply.No = bare 38
spelled_reply (reply.Length n) = with 39 n 0 0
spelled_reply (reply.Sealed n) = with 40 n 0 0
spelled_reply reply.Aborted = bare 41
spelled_reply (reply.Durable n) = with 42 n 0 0
spelled_reply (reply.Flipped objects words) = with 43 objects words 0
spelled_reply reply.Collecting = bare 44
spelled_reply (reply.Scanned page objects words) = with 45 page objects words
spelled_reply (reply.Collected used) = with 46 used 0 0
spelled_reply reply.Idle = bare 47
spelled_reply (reply.Flushed page) = with 48 page 0 0
spelled_reply (reply.Clean page) = with 49 page 0 0
spelled_reply (reply.Refused why) = spelled_refusal why

-- an answer
abbrev pub spelled : Answer → Spelled
spelled answer.Done = bare 0
spelled answer.NoMemory = bare 1
spelled answer.NotHeap = bare 2
spelled (answer.Damaged at) = spelled_place at
spelled answer.Failed = bare 4
spelled answer.NotAnAsk = bare 5
spelled answer.NotNow = bare 6
spelled (answer.TooSmall size need) = with 7 size need 0
spelled answer.PastLimits = bare 8
spelled (answer.Write at length) = with 9 at length 0
spelled answer.Sync = bare 10
spelled answer.NoItem = bare 11
spelled answer.Unsynced = bare 12
spelled (answer.Number n) = with 13 n 0 0
spelled (answer.Reply reply) = spelled_reply reply

-- number i of an answer, from 0
abbrev pub last_number : Numbers → ℕ → ℕ
last_number numbers i = if i == 0 then numbers.first else if i == 1 then numbers.second else if i == 2 then numbers.third else 0
