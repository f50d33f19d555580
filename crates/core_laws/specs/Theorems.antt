-- The theorems on the core of a heap whose sessions run side by side. Their proofs stand in proofs/, in a folder for each subject.
--
-- The steps, `StepsTheorem`. Whichever sessions make the events, and whichever event the disk cuts short, the core that they leave agrees with
-- its history, and its transactions ran under strict two-phase locking. `Valid` says what holds of every core that is reached.
--   Sessions   transactions side by side write fields of different objects: none changes what another sees
--   Step       each event leaves a core that agrees with its history, refuses conflicts, and answers by what the transaction sees
--   Seal       so does a seal, which promotes what has become reachable
--   Run        so steps reach such cores, those too that the disk cuts short; the events that end a run; the replies of committed transactions
--
-- The answers, `AnswersTheorem`: each event but a flip, a scan and a flush is answered as the plain heap answers it, unless room is lacking.
--   Answers    refusals are the plain heap's, in their order, and then those for lack of room or for a page that isn't there; which call is
--              answered `busy`, and with which number
--
-- The crash, `CrashTheorem`: wherever a crash comes, the image is legal and stands for the graph that the first k committed transactions give
-- when run one after another in the order of their seals. k counts all that were acknowledged, and all that were forced though no reply says so.
--   Crash      the log on the disk is legal and says the commit prefix, and a commit prefix stays one while the history grows
-- That an image stands for one graph and one number of commits is `one_graph` of heap_model.
--
-- The replies, `RepliesTheorem`: each committed transaction had, for its calls that were not refused, the replies of that serial run.
--
-- The opening, `OpeningTheorem` and `AgainTheorem`: a heap that is opened on any shaped log continues, and opened on what a crash left of a
-- core it continues from that core's commit prefix. That a legal log says its graph is `saying_law` of heap_model.
--   Opening    the core that is opened is reached
use Rattle.std.specs.Prelude.{◌≡◌, ℕ, ◌+◌, ◌≤◌, Bool, true, IsTrue, List, length, take, None}
use Rattle.std.specs.List.{AllByRecursion}
use Rattle.graph_model.specs.declared.event.Event.{Event}
use Rattle.graph_model.specs.declared.event.Event.TheVariants.{Flip, Scan, Flush}
use Rattle.graph_model.specs.Canon.{canon}
use Rattle.graph_model.specs.Graph.{Graph}
use Rattle.graph_model.specs.History.{account, commits, acknowledged, IsOfSession}
use Rattle.graph_model.specs.Plain.{plain_reply}
use Rattle.graph_model.specs.Transaction.{serial, serial_replies}
use Rattle.page_redo.specs.Prefix.{EachHoldsPrefix}
use Rattle.commit_order.specs.Heard.{replies_of_commits}
use Rattle.heap_model.specs.Core.{Core, log_origin, commits_on_disk, words_refusal, log_refusal, answer, IsRun}
use Rattle.heap_model.specs.CoreCrash.{HasLogWords, IsOnDisk, IsSuperOf, IsCommitPrefix, StandsForFirst}
use Rattle.heap_model.specs.Image.{StoredHeap, IsShapedLog, IsLegal, Holds, origin_of, records_in}
use Rattle.heap_model.specs.Opening.{next_behind, opened, IsFound}
use Rattle.graph_words.specs.Places.{Places}
use Rattle.core_laws.specs.Valid.{IsReached, IsSound}

-- Events of sessions side by side reach a core from a core, whichever of them the disk cuts short.
abbrev pub StepsTheorem : Type 0
StepsTheorem = (c d : Core) (events : List Event) → IsReached c → AllByRecursion IsOfSession events → IsRun c events d → IsReached d

-- The events of transactions, and forces: a plain heap knows what they are answered. It knows nothing of stored pages, nor of collections.
abbrev pub IsOfTransactions : Event → Type 0
IsOfTransactions (Flush p) = ⊥
IsOfTransactions Flip = ⊥
IsOfTransactions Scan = ⊥
IsOfTransactions event = Unit {0}

-- A core answers what a plain heap of the same opening and history answers, where neither memory's spaces nor the log lack room.
abbrev pub AnswersTheorem : Type 0
AnswersTheorem =
    (c : Core) (event : Event) → IsOfTransactions event → words_refusal c event ≡ None → log_refusal c event ≡ None
    → answer c event ≡ plain_reply c.first c.g0 (account c.history) event

-- Each image that holds what a crash leaves of a core keeps its commits, where births give the names. A core that is reached is sound. The
-- stored pages need not have the LSNs that the core knows: a crash while a page is stored leaves the old page or the new one.
abbrev pub CrashTheorem : Type 0
CrashTheorem =
    (c : Core) (stored : StoredHeap) → IsSound c → IsTrue c.born → HasLogWords c → EachHoldsPrefix (log_origin c) (records_in stored) stored.pages
    → IsOnDisk c stored.batches → IsSuperOf stored.super c
    → (image : List ℕ) → Holds stored image → IsCommitPrefix c image

-- The calls of each commit had the replies of the serial run, in which the commits follow one another in the order of their seals.
abbrev pub RepliesTheorem : Type 0
RepliesTheorem = (c : Core) → IsReached c → replies_of_commits c.history ≡ serial_replies c.g0 (commits c.history)

-- What holds of an opening where the log held these batches, the pages were stored so in frames with these open gates, and this graph
-- stands at these places.
pub record Opens (stored : StoredHeap) (gates : ℕ → ℕ) (born : Bool) (places : Places) (g : Graph) : Type 0 where
  pub reached : IsReached (opened stored gates born places g)
  pub next : (opened stored gates born places g).first ≡ next_behind (origin_of stored).state.next (records_in stored)  -- the number of the next transaction

-- A heap that is opened on any shaped log continues, under any names of its objects and with any gates open.
abbrev pub OpeningTheorem : Type 0
OpeningTheorem =
    (stored : StoredHeap) (shaped : IsShapedLog stored) (gates : ℕ → ℕ) (born : Bool) (places : Places) (g : Graph)
    → IsFound stored shaped born places g → Opens stored gates born places g

-- A core d continues where a crash left the first k commits of c since its opening, and all that was acknowledged or forced is among them.
pub record GoesOnFrom (c : Core) (k : ℕ) (d : Core) : Type 0 where
  pub reached : IsReached d
  pub graph : canon d.g0 ≡ canon (serial c.g0 (take k (commits c.history)))
  pub before : d.before ≡ c.before + k
  pub kept : acknowledged c.history ≤ k
  pub forced : commits_on_disk c ≤ c.before + k
  pub some : k ≤ length (commits c.history)

-- A heap that is opened on an image which stands for the first k commits of a core, as each image that a crash leaves does for some k,
-- continues from those, whichever way the image is read. So it may crash and continue any number of times.
abbrev pub AgainTheorem : Type 0
AgainTheorem =
    (c : Core) (k : ℕ) (image : List ℕ) → StandsForFirst c k image
    → (stored : StoredHeap) (gates : ℕ → ℕ) (places : Places) (g : Graph) → (legal : IsLegal stored image) → IsFound stored legal.log.shaped true places g
    → GoesOnFrom c k (opened stored gates true places g)
