-- The shortest form of the theorem on a play and a graph, in words of the plain model.
use Rattle.std.specs.Prelude.{◌≡◌, ◌≢◌, ◌⊎◌, ℕ, ◌+◌, ◌-◌, ◌≤◌, ◌==◌, List, [], ◌∷◌, ◌++◌, Option, None, Some, fold, is_some, length, map, option_and_then, take, if◌then◌else◌}
use Rattle.std.specs.List.{AllByRecursion, AllPairs, flat_map}
use Rattle.std.specs.Option.{option_map, option_to_list}
use Rattle.graph_model.specs.declared.event.Event.{Event}
use Rattle.graph_model.specs.declared.event.Event.TheVariants.{Begin, Root, New, Put, Clear, Link, Drop, Get, Same, Len, Seal, Abort, Force, Flip, Scan, Flush}
use Rattle.graph_model.specs.declared.reply.Entry.{Entry}
use Rattle.graph_model.specs.declared.reply.Refusal.TheVariants.{DiskFault, Stopped}
use Rattle.graph_model.specs.declared.reply.Reply.{Reply}
use Rattle.graph_model.specs.declared.reply.Reply.TheVariants.{Begun, Sealed, Aborted, Durable, Flipped, Collecting, Scanned, Collected, Idle, Flushed, Clean, Refused}
use Rattle.graph_model.specs.Canon.{canon}
use Rattle.graph_model.specs.Graph.{Graph}
use Rattle.graph_model.specs.Text.{canon_text, line}
use Rattle.graph_model.specs.Transaction.{Transaction, replies, serial, serial_replies}
use Rattle.commit_order.specs.SerialOrder.{EachEntry, EndsWithFailure}
use Rattle.heap_program.specs.declared.status.Status.{Status}
use Rattle.heap_program.specs.declared.status.Status.TheVariants as status

-- What a history says so far: transactions, each with the replies to its calls.
pub record Tale : Type 0 where
  pub active : ℕ → Option (Transaction × List Reply)  -- the transaction of each session
  pub sealed : List (Transaction × List Reply)  -- those whose seal was answered `sealed`, in that order
  pub in_doubt : Option (Transaction × List Reply)  -- the one whose seal the disk cut short
  pub acknowledged : ℕ  -- the greatest number that was answered `durable`

-- session s has this transaction from now on, or none
abbrev pub with_session : Tale → ℕ → Option (Transaction × List Reply) → Tale
with_session tale s own = record tale { active = λ session. if session == s then own else tale.active session }

-- the transaction of session s makes this call, which has this reply, if the session has one
abbrev pub with_call : Tale → ℕ → Event → Reply → Option Tale
with_call tale s event reply = option_map (λ own. with_session tale s (Some (record { number = own.0.number; calls = own.0.calls ++ event ∷ [] }, own.1 ++ reply ∷ []))) (tale.active s)

-- What an entry adds, if it may follow. A refused event adds nothing, but a seal that the disk cut short leaves its transaction in doubt. A session
-- begins one transaction at a time, and only a transaction has calls, a seal or an abort. A seal has the number of those that are sealed with it, a force that of those that are sealed before it.
abbrev pub tell : Tale → Event → Reply → Option Tale
tell tale (Seal s) (Refused DiskFault) = Some (record tale { in_doubt = tale.active s })
tell tale (Seal s) (Refused Stopped) = Some (record tale { in_doubt = tale.active s })
tell tale event (Refused why) = Some tale
tell tale (Begin s) (Begun n) = if is_some (tale.active s) then None else Some (with_session tale s (Some (record { number = n; calls = [] }, [])))
tell tale (Seal s) (Sealed n) = if n == length tale.sealed + 1 then option_map (λ own. with_session (record tale { sealed = tale.sealed ++ own ∷ [] }) s None) (tale.active s) else None
tell tale (Abort s) Aborted = option_map (λ own. with_session tale s None) (tale.active s)
tell tale Force (Durable n) = if n == length tale.sealed then Some (record tale { acknowledged = n }) else None
tell tale (Root s h) reply = with_call tale s (Root s h) reply
tell tale (New s h len) reply = with_call tale s (New s h len) reply
tell tale (Put s h i v) reply = with_call tale s (Put s h i v) reply
tell tale (Clear s h i) reply = with_call tale s (Clear s h i) reply
tell tale (Link s h i h2) reply = with_call tale s (Link s h i h2) reply
tell tale (Drop s h) reply = with_call tale s (Drop s h) reply
tell tale (Get s h i h2) reply = with_call tale s (Get s h i h2) reply
tell tale (Same s h h2) reply = with_call tale s (Same s h h2) reply
tell tale (Len s h) reply = with_call tale s (Len s h) reply
tell tale Flip Collecting = Some tale
tell tale Flip (Flipped objects words) = Some tale
tell tale Scan Idle = Some tale
tell tale Scan (Collected used) = Some tale
tell tale Scan (Scanned page objects words) = Some tale
tell tale (Flush p) (Flushed page) = if page == p then Some tale else None
tell tale (Flush p) (Clean page) = if page == p then Some tale else None
tell tale event reply = None

-- what a whole history says, if each of its entries may follow those before it
abbrev pub tale : List Entry → Option Tale
tale history = fold (λ told entry. option_and_then (λ before. tell before entry.event entry.reply) told) (Some (record { active = λ s. None; sealed = []; in_doubt = None; acknowledged = 0 })) history

-- the sealed transactions
abbrev pub sealed_in : Tale → List Transaction
sealed_in told = map (λ own. own.0) told.sealed

-- those that may be on the disk, with their replies: the sealed ones, in the order of their seals, and then the one in doubt
abbrev pub commits_in : Tale → List (Transaction × List Reply)
commits_in told = told.sealed ++ option_to_list told.in_doubt

abbrev pub committed : Tale → List Transaction
committed told = map (λ own. own.0) (commits_in told)

-- the text of the graph that transactions leave, one run after another
abbrev pub text_after : Graph → List Transaction → List ℕ
text_after g transactions = canon_text (canon (serial g transactions))

-- One history explains what a play of these events wrote, and which graph was printed after a crash. It is whole if the play is done.
pub record Tells (begins : Graph) (script : List Event) (result : Status) (written printed : List ℕ) : Type 0 where
  pub history : List Entry
  -- its events are those of the script, and then aborts and forces; or a prefix of these
  pub ending : List Event
  pub left_out : List Event
  pub made : script ++ ending ≡ map (λ (entry : Entry). entry.event) history ++ left_out
  pub ends : AllByRecursion (λ event. ((s : ℕ) × (1 ≤ s) × (s ≤ 32) × (event ≡ Abort s)) ⊎ (event ≡ Force)) ending
  -- each reply fits its event where it stands, and this is what the history says
  pub told : Tale
  pub fits : tale history ≡ Some told
  -- its lines were written, and the graph that they lead to, or a prefix of these; all of its lines but perhaps the last
  pub unwritten : List ℕ
  pub front : flat_map line history ++ text_after begins (sealed_in told) ≡ written ++ unwritten
  pub lines : (rest : List ℕ) × (written ≡ flat_map line (take (length history - 1) history) ++ rest)
  -- once the disk has failed or stopped, everything is refused for that
  pub fails : EachEntry EndsWithFailure history
  -- no two transactions began with the same number
  pub begun : (first between rest : List Entry) (s r n : ℕ) → history ≢ first ++ record { event = Begin s; reply = Begun n } ∷ between ++ record { event = Begin r; reply = Begun n } ∷ rest
  -- at each time each transaction had the replies so far that it has as the next of those that were sealed by then
  pub so_far : (first rest : List Entry) (now : Tale) (s : ℕ) (own : Transaction × List Reply) → history ≡ first ++ rest → tale first ≡ Some now → now.active s ≡ Some own → own.1 ≡ replies (serial begins (sealed_in now)) own.0
  -- the committed transactions have numbers of their own, and had the replies that they have where they run one after another
  pub numbers : AllPairs (λ (t u : Transaction). t.number ≢ u.number) (committed told)
  pub replies : map (λ own. own.1) (commits_in told) ≡ serial_replies begins (committed told)
  -- the graph that was printed is that of the first of them, and those that were acknowledged are among these
  pub count : ℕ
  pub least : told.acknowledged ≤ count
  pub most : count ≤ length (committed told)
  pub graph : printed ≡ text_after begins (take count (committed told))
  -- a play that is done left nothing out and nothing in doubt, wrote all, and kept all
  pub done : result ≡ status.Done → (left_out ≡ []) × (told.in_doubt ≡ None) × (unwritten ≡ []) × (count ≡ length (committed told))
