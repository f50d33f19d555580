-- Histories under strict two-phase locking are serial in the order of the seals.
use Rattle.std.specs.Prelude.{◌≡◌, ℕ, List, [], ◌∷◌, ◌++◌, Option, None, Some, filter_map}
use Rattle.std.specs.List.{Contains}
use Rattle.std.specs.Option.{option_map}
use Rattle.graph_model.specs.declared.id.Id.{Id}
use Rattle.graph_model.specs.declared.reply.Entry.{Entry}
use Rattle.graph_model.specs.declared.reply.Refusal.TheVariants.{Failed}
use Rattle.graph_model.specs.declared.reply.Reply.{Reply}
use Rattle.graph_model.specs.declared.reply.Reply.TheVariants.{Begun, Refused}
use Rattle.graph_model.specs.Graph.{Graph}
use Rattle.graph_model.specs.ClosedGraph.{IsClosed, IsUnused}
use Rattle.graph_model.specs.Transaction.{Transaction, call, replies, serial, serial_replies}
use Rattle.graph_model.specs.History.{Account, account, commits, sealed, session_of}
use Rattle.graph_model.specs.Replies.{IsCallReply}
use Rattle.graph_model.specs.Plain.{view}
use Rattle.commit_order.specs.Heard.{heard_in, replies_of_commits}
use Rattle.graph_model.specs.Locking.{Mode, lock_of, HoldsLock, IsFree}

-- each entry of a history has this property, which may speak of the entries before it
abbrev pub EachEntry : (List Entry → Entry → Type 0) → List Entry → Type 0
EachEntry P history = (before : List Entry) (e : Entry) (after : List Entry) → history ≡ before ++ e ∷ after → P before e

-- an entry is a call of this transaction that was not refused
pub record IsCallOf (before : List Entry) (e : Entry) (t : Transaction) : Type 0 where
  pub active : (account before).active (session_of e.event) ≡ Some t
  pub answered : IsCallReply e.reply

-- Strict two-phase locking.
--
-- No table of locks is needed to say it, since what a transaction has locked follows from its calls. It is said by these words of
-- graph_model, where a is what the history says so far (`Locking`):
--
--     lock_of registers c        the lock that call c needs: on the object that its first handle holds, shared if the call reads a field of
--                                it, exclusive if it writes one
--     HoldsLock g0 a n id mode       transaction n is active in a, and one of the calls that it has made has needed this lock
--     IsFree g0 a n lock         no other transaction holds a lock in a that conflicts with this one, which transaction n needs
--
-- So a transaction gets a lock with the first call that needs it, and has it as long as it is active: no call gives a lock back, and all
-- of them go at once when the transaction is sealed or aborted. That is what is strict in it. It is in the word `HoldsLock`, and `IsStrict`
-- below says that `HoldsLock` means just this at each place of a history.

-- conflicts were refused: a call that was not refused needs no lock that conflicts with one of another active transaction
abbrev pub RefusesConflicts : Graph → List Entry → Entry → Type 0
RefusesConflicts g0 before e = (t : Transaction) → IsCallOf before e t → IsFree g0 (account before) t.number (lock_of (view g0 (account before) t).registers e.event)

-- A history under strict two-phase locking, of a heap that was opened with graph g0: each transaction keeps the locks of what it reads and
-- writes until it ends, and no call is granted that conflicts with those of others.
pub record IsTwoPhase (g0 : Graph) (history : List Entry) : Type 0 where
  pub locked : EachEntry (RefusesConflicts g0) history

-- after a call that was not refused its transaction holds the lock that the call needed
abbrev pub TakesLock : Graph → List Entry → Entry → Type 0
TakesLock g0 before e =
    (t : Transaction) (id : Id) (mode : Mode) → IsCallOf before e t → lock_of (view g0 (account before) t).registers e.event ≡ Some (id, mode) → HoldsLock g0 (account (before ++ e ∷ [])) t.number id mode

-- each transaction that is active in b holds there all that it holds in a
abbrev pub StillHold : Graph → Account → Account → Type 0
StillHold g0 a b = (s : ℕ) (t : Transaction) (id : Id) (mode : Mode) → b.active s ≡ Some t → HoldsLock g0 a t.number id mode → HoldsLock g0 b t.number id mode

-- a transaction that is active after an entry holds there all that it held before the entry
abbrev pub KeepsLocks : Graph → List Entry → Entry → Type 0
KeepsLocks g0 before e = StillHold g0 (account before) (account (before ++ e ∷ []))

-- Each lock is taken with the call that needs it, and kept until its transaction ends.
pub record IsStrict (g0 : Graph) (history : List Entry) : Type 0 where
  pub taken : EachEntry (TakesLock g0) history
  pub kept : EachEntry (KeepsLocks g0) history

-- The replies.

-- a call that was not refused had the reply of what its transaction saw
abbrev pub AnswersByView : Graph → List Entry → Entry → Type 0
AnswersByView g0 before e = (t : Transaction) → IsCallOf before e t → e.reply ≡ (call (view g0 (account before) t) t.number e.event).reply

-- the numbers of the transactions that began, in that order
abbrev pub begun_number : Reply → Option ℕ
begun_number (Begun n) = Some n
begun_number reply = None

abbrev pub numbers_begun : List Entry → List ℕ
numbers_begun history = filter_map (λ e. begun_number e.reply) history

-- a transaction that begins has a number that none before it had, and that stands in no name of an object at the opening
abbrev pub BeginsAnew : Graph → List Entry → Entry → Type 0
BeginsAnew g0 before e = (n : ℕ) → e.reply ≡ Begun n → (Contains (numbers_begun before) n → ⊥) × IsUnused g0 n

-- once the disk has failed or stopped, everything is refused for that
abbrev pub EndsWithFailure : List Entry → Entry → Type 0
EndsWithFailure before e = (n : ℕ) → (account before).failed ≡ Some n → e.reply ≡ Refused (Failed n)

-- A history of plain replies, of a heap that was opened with graph g0: nothing dangles in this graph, each call that was not refused was
-- answered by what its transaction saw, and each transaction has a number of its own. Of locks it says nothing.
pub record HasPlainReplies (g0 : Graph) (history : List Entry) : Type 0 where
  pub closed : IsClosed g0
  pub answered : EachEntry (AnswersByView g0) history
  pub numbered : EachEntry (BeginsAnew g0) history

-- The theorems.

-- A history is serial in the order of the seals. Each sealed transaction had, for its calls that were not refused, the replies of the one
-- run in which these follow one another; and so far each active transaction had the replies that it would have as the next of them, though
-- others were sealed since it began. If all was refused once the disk had failed, the one whose seal it cut short follows them too.
pub record IsCommitOrdered (g0 : Graph) (history : List Entry) : Type 0 where
  pub certain : (heard_in history).sealed ≡ serial_replies g0 (sealed history)
  pub active : (s : ℕ) → (heard_in history).active s ≡ option_map (replies (serial g0 (sealed history))) ((account history).active s)
  pub committed : EachEntry EndsWithFailure history → replies_of_commits history ≡ serial_replies g0 (commits history)

-- Strict two-phase locking gives commit order, where replies are plain.
abbrev pub SerialOrderTheorem : Type 0
SerialOrderTheorem = (g0 : Graph) (history : List Entry) → HasPlainReplies g0 history → IsTwoPhase g0 history → IsCommitOrdered g0 history

-- What transactions hold there they take with their calls and keep until they end.
abbrev pub StrictTheorem : Type 0
StrictTheorem = (g0 : Graph) (history : List Entry) → HasPlainReplies g0 history → IsTwoPhase g0 history → IsStrict g0 history
