-- Which replies answer a call of a transaction.
use Rattle.graph_model.specs.declared.reply.Reply.{Reply}
use Rattle.graph_model.specs.declared.reply.Reply.TheVariants.{Begun, Sealed, Aborted, Durable, Flipped, Collecting, Scanned, Collected, Idle, Flushed, Clean, Refused}

-- a reply to a call that was not refused
abbrev pub IsCallReply : Reply → Type 0
IsCallReply (Begun n) = ⊥
IsCallReply (Sealed n) = ⊥
IsCallReply Aborted = ⊥
IsCallReply (Durable n) = ⊥
IsCallReply (Flipped objects words) = ⊥
IsCallReply Collecting = ⊥
IsCallReply (Scanned page objects words) = ⊥
IsCallReply (Collected used) = ⊥
IsCallReply Idle = ⊥
IsCallReply (Flushed page) = ⊥
IsCallReply (Clean page) = ⊥
IsCallReply (Refused why) = ⊥
IsCallReply reply = Unit {0}
