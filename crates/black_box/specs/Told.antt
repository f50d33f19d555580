-- What two runs of the program on one disk report, in words of the plain model alone: graphs, transactions, serial runs, scripts, lines and texts.
use Rattle.std.specs.Prelude.{◌≡◌, ◌⊎◌, ℕ, ◌+◌, ◌≤◌, List, [], ◌++◌, None, Some, length, map, take}
use Rattle.std.specs.List.{AllByRecursion}
use Rattle.std.specs.Option.{option_map}
use Rattle.graph_model.specs.declared.event.Event.{Event}
use Rattle.graph_model.specs.declared.event.Event.TheVariants.{Begin, Seal, Abort, Force, Flip, Scan, Flush}
use Rattle.graph_model.specs.declared.reply.Entry.{Entry}
use Rattle.graph_model.specs.declared.reply.Refusal.{Refusal}
use Rattle.graph_model.specs.declared.reply.Reply.{Reply}
use Rattle.graph_model.specs.declared.reply.Reply.TheVariants.{Begun, Sealed, Aborted, Durable, Flipped, Collecting, Scanned, Collected, Idle, Flushed, Clean, Refused}
use Rattle.graph_model.specs.Canon.{canon}
use Rattle.graph_model.specs.Graph.{Graph}
use Rattle.graph_model.specs.History.{Account, IsSession, account, sealed, commits, acknowledged, session_of}
use Rattle.graph_model.specs.Replies.{IsCallReply}
use Rattle.graph_model.specs.Text.{canon_text}
use Rattle.graph_model.specs.Transaction.{Transaction, replies, serial, serial_replies}
use Rattle.commit_order.specs.Heard.{heard_in, replies_of_commits}
use Rattle.commit_order.specs.SerialOrder.{EachEntry, EndsWithFailure, HasPlainReplies}
use Rattle.script_text.specs.declared.line.Line.{Line}
use Rattle.script_text.specs.Line.{events}
use Rattle.heap_program.specs.Play.{lines_text, WroteFront, WroteLines}
use Rattle.heap_program.specs.declared.status.Status.{Status}
use Rattle.heap_program.specs.declared.status.Status.TheVariants.{Done, NoMemory, Script, ReadFault, TooSmall, DiskFault}

-- An event that ends what a script left open: the abort of a session's transaction, or a force.
abbrev pub EndsScript : Event → Type 0
EndsScript (Abort s) = IsSession s
EndsScript Force = Unit {0}
EndsScript event = ⊥

-- Events were made in the order of a script, and then events that end what it left open; or a prefix of these.
pub record AreOfScript (script made : List Event) : Type 0 where
  pub ending : List Event
  pub rest : List Event
  pub all : script ++ ending ≡ made ++ rest
  pub ends : AllByRecursion EndsScript ending

-- the events of a history
abbrev pub events_of : List Entry → List Event
events_of history = map (λ (entry : Entry). entry.event) history

-- the text of a graph, up to the names of its objects
abbrev pub text_of : Graph → List ℕ
text_of g = canon_text (canon g)

-- the session has a transaction
abbrev pub IsActive : Account → ℕ → Type 0
IsActive a s = (t : Transaction) × (a.active s ≡ Some t)

-- What an event that is not refused is answered, if the history says this before it. A session begins one transaction at a time, and only a
-- transaction has calls, a seal or an abort. A seal has the number of those that are sealed with it, a force that of those that are sealed before it.
abbrev pub Grants : Account → Event → Reply → Type 0
Grants a (Begin s) reply = (a.active s ≡ None) × (n : ℕ) × (reply ≡ Begun n)
Grants a (Seal s) reply = IsActive a s × (reply ≡ Sealed (length a.sealed + 1))
Grants a (Abort s) reply = IsActive a s × (reply ≡ Aborted)
Grants a Force reply = reply ≡ Durable (length a.sealed)
Grants a Flip reply = (reply ≡ Collecting) ⊎ ((objects words : ℕ) × (reply ≡ Flipped objects words))
Grants a Scan reply = (reply ≡ Idle) ⊎ ((used : ℕ) × (reply ≡ Collected used)) ⊎ ((page objects words : ℕ) × (reply ≡ Scanned page objects words))
Grants a (Flush p) reply = (reply ≡ Flushed p) ⊎ (reply ≡ Clean p)
Grants a event reply = IsActive a (session_of event) × IsCallReply reply

-- a reply refuses its event, or fits it
abbrev pub Fits : List Entry → Entry → Type 0
Fits before e = ((why : Refusal) × (e.reply ≡ Refused why)) ⊎ Grants (account before) e.event e.reply

-- so far each active transaction had the replies that it has as the next of the sealed ones
abbrev pub HaveReplies : Graph → List Entry → Type 0
HaveReplies begins history = (s : ℕ) → (heard_in history).active s ≡ option_map (replies (serial begins (sealed history))) ((account history).active s)

-- A run that ended with this status has a history that continues from a graph, and a crash left another graph of it.
pub record TellsRun (begins : Graph) (script : List Line) (status : Status) (before after : List ℕ) (left : Graph) : Type 0 where
  pub history : List Entry
  -- its events are those of the script
  pub made : AreOfScript (events script) (events_of history)
  -- the run wrote all lines of the history but perhaps the last, and nothing but a prefix of them and of the graph that they lead to
  pub lines : WroteLines before history after
  pub front : WroteFront before (lines_text history ++ text_of (serial begins (sealed history))) after
  -- each reply fits its event
  pub fits : EachEntry Fits history
  -- each call that was not refused had the reply of what its transaction saw, and each transaction a number that no object's name had
  pub plain : HasPlainReplies begins history
  -- each committed transaction had the replies that it has when the commits are run one after another
  pub replies : replies_of_commits history ≡ serial_replies begins (commits history)
  -- at each time each transaction had the replies so far that it has as the next of those that were committed by then
  pub so_far : (first rest : List Entry) → history ≡ first ++ rest → HaveReplies begins first
  -- the graph that was left is that of a commit prefix that has all that were acknowledged, up to the names of objects
  pub count : ℕ
  pub least : acknowledged history ≤ count
  pub most : count ≤ length (commits history)
  pub graph : canon left ≡ canon (serial begins (take count (commits history)))
  -- once the disk has failed or stopped, everything is refused for that
  pub fails : EachEntry EndsWithFailure history
  -- a run that is done made all events, left no commit in doubt and all that was sealed, and wrote all lines and the graph
  pub done : status ≡ Done → (made.rest ≡ []) × ((account history).in_doubt ≡ None) × (count ≡ length (sealed history)) × (after ≡ before ++ (lines_text history ++ text_of (serial begins (sealed history))))

-- The statuses of a run that was to make a heap and made none.
abbrev pub MakesNone : Status → Type 0
MakesNone NoMemory = Unit {0}
MakesNone (Script line) = Unit {0}
MakesNone ReadFault = Unit {0}
MakesNone (TooSmall size need) = Unit {0}
MakesNone DiskFault = Unit {0}
MakesNone status = ⊥
