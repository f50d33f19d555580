-- What a run of a script in threads reports, and the graph after it, in words of the plain model alone.
use Rattle.std.specs.Prelude.{◌≡◌, ℕ, ◌≤◌, List, ◌++◌, None, length, take, IsOk, Result}
use Rattle.std.specs.List.{AllByRecursion}
use Rattle.std.specs.declared.alloc.AllocError.{AllocError}
use Rattle.graph_model.specs.declared.reply.Entry.{Entry}
use Rattle.graph_model.specs.Canon.{canon}
use Rattle.graph_model.specs.Graph.{Graph}
use Rattle.graph_model.specs.History.{account, sealed, commits, acknowledged}
use Rattle.graph_model.specs.Transaction.{serial, serial_replies}
use Rattle.commit_order.specs.Heard.{replies_of_commits}
use Rattle.commit_order.specs.SerialOrder.{EachEntry, EndsWithFailure, HasPlainReplies}
use Rattle.script_text.specs.declared.line.Line.{Line}
use Rattle.thread_program.specs.Together.{IsWorked}
use Rattle.heap_program.specs.Play.{lines_text, WroteFront}
use Rattle.heap_program.specs.declared.status.Status.{Status}
use Rattle.heap_program.specs.declared.status.Status.TheVariants.{Done}
use Rattle.black_box.specs.Told.{EndsScript, Fits, HaveReplies, events_of, text_of}

-- A run that ended with this status has a history that continues from a graph, and a crash left another graph of it.
pub record TellsWorkers (begins : Graph) (tries : ℕ) (script : List Line) (status : Status) (before after : List ℕ) (left : Graph) : Type 0 where
  pub history : List Entry
  -- its entries are what the workers of the script sent, and then events that end what they left open
  pub sent : List Entry
  pub last : List Entry
  pub parts : history ≡ sent ++ last
  pub ends : AllByRecursion EndsScript (events_of last)
  -- each worker sent all of its lines, or a prefix of that
  pub end : Result (Unit {0}) AllocError
  pub worked : IsWorked tries script 0 sent end
  -- the run wrote nothing but a prefix of all lines and of the graph that they lead to
  pub front : WroteFront before (lines_text history ++ text_of (serial begins (sealed history))) after
  -- each reply fits its event
  pub fits : EachEntry Fits history
  -- each call that was not refused had the reply of what its transaction saw, and each transaction a number that no object's name had
  pub plain : HasPlainReplies begins history
  -- each committed transaction had the replies that it has when the commits are run one after another
  pub replies : replies_of_commits history ≡ serial_replies begins (commits history)
  -- at each time each transaction had the replies so far that it has as the next of those that were committed by then
  pub so_far : (first rest : List Entry) → history ≡ first ++ rest → HaveReplies begins first
  -- the graph that was left is that of a commit prefix that has all that were acknowledged, up to the names of objects
  pub count : ℕ
  pub least : acknowledged history ≤ count
  pub most : count ≤ length (commits history)
  pub graph : canon left ≡ canon (serial begins (take count (commits history)))
  -- once the disk has failed or stopped, everything is refused for that
  pub fails : EachEntry EndsWithFailure history
  -- a run that is done sent all, left no commit in doubt and all that was sealed, and wrote all lines and the graph
  pub done : status ≡ Done → IsOk end × ((account history).in_doubt ≡ None) × (count ≡ length (sealed history)) × (after ≡ before ++ (lines_text history ++ text_of (serial begins (sealed history))))
