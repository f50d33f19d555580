-- Collections as transactions meet them: the same events are answered the same with collections and without.
use Rattle.std.specs.Prelude.{◌≡◌, Bool, true, false, not, ◌||◌, List, length, drop, filter}
use Rattle.std.specs.List.{AllByRecursion}
use Rattle.graph_model.specs.declared.event.Event.{Event}
use Rattle.graph_model.specs.declared.event.Event.TheVariants.{Flip, Scan, Flush}
use Rattle.graph_model.specs.declared.reply.Entry.{Entry}
use Rattle.graph_model.specs.declared.reply.Refusal.TheVariants.{Exhausted, LogFull, DiskFault, Stopped}
use Rattle.graph_model.specs.declared.reply.Reply.{Reply}
use Rattle.graph_model.specs.declared.reply.Reply.TheVariants.{Refused}
use Rattle.graph_model.specs.History.{acknowledged, commits}
use Rattle.heap_model.specs.Core.{Core, IsRun}

-- the events of a collection
abbrev pub is_of_collection : Event → Bool
is_of_collection Flip = true
is_of_collection Scan = true
is_of_collection event = false

-- a flush is answered by which pages have changed, as those do that a collection copies
abbrev pub is_flush : Event → Bool
is_flush (Flush p) = true
is_flush event = false

-- the events that are left where no collection begins or continues
abbrev pub without_collections : List Event → List Event
without_collections events = filter (λ event. not (is_of_collection event)) events

-- the entries that are about transactions
abbrev pub of_transactions : List Entry → List Entry
of_transactions entries = filter (λ (entry : Entry). not (is_of_collection entry.event || is_flush entry.event)) entries

-- the disk did not fail
abbrev pub IsFaultless : Reply → Type 0
IsFaultless (Refused DiskFault) = ⊥
IsFaultless (Refused Stopped) = ⊥
IsFaultless reply = Unit {0}

-- and neither the space nor the log lacked room
abbrev pub IsUnhindered : Reply → Type 0
IsUnhindered (Refused (Exhausted need free owed)) = ⊥
IsUnhindered (Refused (LogFull used need reserved)) = ⊥
IsUnhindered (Refused DiskFault) = ⊥
IsUnhindered (Refused Stopped) = ⊥
IsUnhindered reply = Unit {0}

-- the disk did not fail in an event, and an event of a transaction did not lack room: a flip or a scan may
abbrev pub WentFreely : Event → Reply → Type 0
WentFreely Flip reply = IsFaultless reply
WentFreely Scan reply = IsFaultless reply
WentFreely (Flush p) reply = IsFaultless reply
WentFreely event reply = IsUnhindered reply

-- the entries of a core's history since it was this one
abbrev pub since : Core → Core → List Entry
since c d = drop (length c.history) d.history

-- so all events went since then
abbrev pub AllWentFreely : Core → Core → Type 0
AllWentFreely c d = AllByRecursion (λ (entry : Entry). WentFreely entry.event entry.reply) (since c d)

-- A heap of the same transactions, with pages and a log of any size.
pub record IsLike (c b : Core) : Type 0 where
  pub first : c.first ≡ b.first
  pub g0 : c.g0 ≡ b.g0
  pub history : c.history ≡ b.history

-- Core d was reached from c, and e from b. Both say the same about transactions since then: each event had the same reply, the same
-- transactions were committed in the same order, so that they have left the same graph, and as many were acknowledged.
pub record TellTheSame (c d b e : Core) : Type 0 where
  pub replies : of_transactions (since c d) ≡ of_transactions (since b e)
  pub commits : commits d.history ≡ commits e.history
  pub acknowledged : acknowledged d.history ≡ acknowledged e.history

-- A collection is not seen: events with those of collections among them, at any places, say the same about transactions as without them, on a heap
-- large enough for garbage to stay.
abbrev pub UnseenTheorem : Type 0
UnseenTheorem =
    (c b d e : Core) (events : List Event) → IsLike c b → IsRun c events d → IsRun b (without_collections events) e → AllWentFreely c d → AllWentFreely b e → TellTheSame c d b e
