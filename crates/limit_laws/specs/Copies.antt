-- What a collection copies.
use Rattle.std.specs.Prelude.{◌≡◌, ◌↔◌, ℕ, ◌+◌, ◌==◌, Bool, true, List, length, drop, filter, sum_by, is_some, None}
use Rattle.std.specs.List.{AllByRecursion, list_any}
use Rattle.graph_model.specs.declared.event.Event.{Event}
use Rattle.graph_model.specs.declared.event.Event.TheVariants.{Flip, Scan}
use Rattle.graph_model.specs.declared.id.Id.{Id}
use Rattle.graph_model.specs.declared.reply.Reply.TheVariants as reply
use Rattle.graph_model.specs.Canon.{Reached}
use Rattle.graph_model.specs.Graph.{Graph, fields}
use Rattle.graph_model.specs.Kinds.{kind_of, AreOfNone}
use Rattle.graph_model.specs.History.{account, IsOfSession}
use Rattle.graph_model.specs.Transaction.{Transaction, serial}
use Rattle.graph_words.specs.Places.{Places, address_of}
use Rattle.collection_words.specs.Placing.{moved_by_all}
use Rattle.heap_model.specs.Core.{Core, IsRun, after, answer, placing}
use Rattle.core_laws.specs.Active.{active_in}
use Rattle.core_laws.specs.Valid.{IsReached}
use Rattle.limit_laws.specs.Bytes.{appended}
use Rattle.limit_laws.specs.Progress.{BeganNone}

-- an event of no session
abbrev pub IsOfNone : Event → Type 0
IsOfNone event = AreOfNone (kind_of event)

-- no transaction is active
abbrev pub IsIdle : Core → Type 0
IsIdle c = (s : ℕ) → active_in c s ≡ None

-- The objects that a collection has copied which began in c, each where its copy stands: those that stood at the addresses from which the Flip and
-- Copy records have copied. What became stable since is not among them.
abbrev pub copied_since : Core → Core → Places
copied_since c d = (moved_by_all (placing c) (appended c d)).places

-- the graph that the sealed transactions have left
abbrev pub sealed_graph : Core → Graph
sealed_graph c = serial c.g0 (account c.history).sealed

-- the words that these objects take
abbrev pub words_of : Graph → Places → ℕ
words_of g places = sum_by (λ p. 2 + length (fields g p.0)) places

-- What was copied from c to d is just what is reached from the root in the graph of c, and takes `used` words.
pub record CopiesReached (c d : Core) (used : ℕ) : Type 0 where
  pub exactly : (id : Id) → (is_some (address_of (copied_since c d) id) ≡ true) ↔ Reached (sealed_graph c) id
  pub words : used ≡ words_of (sealed_graph c) (copied_since c d)

-- A collection that no session disturbs copies no garbage, and all else. It begins in c, where no transaction is active, and ends with a scan of
-- d; between are scans, forces and flushes, granted or refused, and flips that begin no other.
abbrev pub UndisturbedTheorem : Type 0
UndisturbedTheorem =
    (c d : Core) (events : List Event) (objects words used : ℕ) → IsReached c → IsIdle c → answer c Flip ≡ reply.Flipped objects words
    → IsRun (after c Flip) events d → AllByRecursion IsOfNone events → BeganNone (after c Flip) d → answer d Scan ≡ reply.Collected used → CopiesReached c d used

-- A collection copies no garbage, whichever transactions are active when it begins, and whatever sessions do while it is under way. It begins in c,
-- to which events of sessions led from a core in which no transaction was active, as an opening leaves it. All that it has copied until d is reached
-- from the root in the graph that the sealed transactions had left in c: what active ones held, read, made, wrote or overwrote adds nothing.
abbrev pub NoGarbageTheorem : Type 0
NoGarbageTheorem =
    (b c d : Core) (before events : List Event) (objects words : ℕ) → IsReached b → IsIdle b → AllByRecursion IsOfSession before → IsRun b before c → answer c Flip ≡ reply.Flipped objects words
    → AllByRecursion IsOfSession events → IsRun (after c Flip) events d → BeganNone (after c Flip) d
    → (id : Id) → is_some (address_of (copied_since c d) id) ≡ true → Reached (sealed_graph c) id

-- the transactions that were sealed since
abbrev pub sealed_since : Core → Core → List Transaction
sealed_since c d = drop (length (account c.history).sealed) (account d.history).sealed

-- one of these made an object
abbrev pub is_made_by : List Transaction → Id → Bool
is_made_by ts id = list_any (λ (t : Transaction). t.number == id.t) ts

-- the current objects that these made, each where it stands: those that became stable since
abbrev pub promoted_since : Core → Core → Places
promoted_since c d = filter (λ p. is_made_by (sealed_since c d) p.0) d.places

-- That many words are taken by the objects that were copied from c to d and by those that became stable meanwhile.
abbrev pub AreUsed : Core → Core → ℕ → Type 0
AreUsed c d used = used ≡ words_of (sealed_graph c) (copied_since c d) + words_of (sealed_graph d) (promoted_since c d)

-- A collection is answered `collected` with the words that are in use, whichever transactions are active when it begins, and whatever sessions do
-- while it is under way. It begins in c, and ends with a scan of d.
abbrev pub UsedTheorem : Type 0
UsedTheorem =
    (c d : Core) (events : List Event) (objects words used : ℕ) → IsReached c → answer c Flip ≡ reply.Flipped objects words
    → AllByRecursion IsOfSession events → IsRun (after c Flip) events d → BeganNone (after c Flip) d → answer d Scan ≡ reply.Collected used → AreUsed c d used

-- What was copied from c to d is just what is reached from the root in the graph of c, and `used` words are in use.
pub record CopiesJust (c d : Core) (used : ℕ) : Type 0 where
  pub exactly : (id : Id) → (is_some (address_of (copied_since c d) id) ≡ true) ↔ Reached (sealed_graph c) id
  pub words : AreUsed c d used

-- A collection copies just what is reached from the root in the graph that the sealed transactions have left at its flip, whichever are active then,
-- and whatever sessions do while it is under way: they may cut references to it, and take that back or seal it. It begins in c, to which events of
-- sessions led from a core in which no transaction was active, as an opening leaves it, and ends with a scan of d.
abbrev pub ExactTheorem : Type 0
ExactTheorem =
    (b c d : Core) (before events : List Event) (objects words used : ℕ) → IsReached b → IsIdle b → AllByRecursion IsOfSession before → IsRun b before c → answer c Flip ≡ reply.Flipped objects words
    → AllByRecursion IsOfSession events → IsRun (after c Flip) events d → BeganNone (after c Flip) d → answer d Scan ≡ reply.Collected used → CopiesJust c d used
