-- How long a collection lasts: it goes once through the pages of the current space, whatever sessions do meanwhile.
use Rattle.std.specs.Prelude.{◌≡◌, ℕ, ◌≤◌, List, [], ◌∷◌, length, Some, None}
use Rattle.std.specs.List.{AllByRecursion, flat_map}
use Rattle.std.specs.List.Sorted.{IsStrictlyIncreasing}
use Rattle.graph_model.specs.declared.event.Event.{Event}
use Rattle.graph_model.specs.declared.event.Event.TheVariants.{Scan}
use Rattle.graph_model.specs.declared.reply.Entry.{Entry}
use Rattle.graph_model.specs.declared.reply.Reply.{Reply}
use Rattle.graph_model.specs.declared.reply.Reply.TheVariants as answer
use Rattle.graph_model.specs.History.{IsOfSession}
use Rattle.heap_spaces.specs.Collection.{Collection}
use Rattle.log_machine.specs.Machine.{State}
use Rattle.heap_model.specs.Core as core
use Rattle.heap_model.specs.Core.{Core, IsRun, all_records, core_refusal, state_behind}
use Rattle.core_laws.specs.Unseen.{since}
use Rattle.core_laws.specs.Valid.{IsReached}

-- the page that a reply says was scanned
abbrev pub scanned_page : Reply → List ℕ
scanned_page (answer.Scanned page objects words) = page ∷ []
scanned_page reply = []

-- the pages that these entries say were scanned, in their order; a scan that comes before a field is read or written is reported by none
abbrev pub scanned_pages : List Entry → List ℕ
scanned_pages entries = flat_map (λ (entry : Entry). scanned_page entry.reply) entries

-- a reply does not say that a collection began
abbrev pub BeginsNone : Reply → Type 0
BeginsNone (answer.Flipped objects words) = ⊥
BeginsNone reply = Unit {0}

-- From c to d no collection began: one that runs in d ran in c.
abbrev pub BeganNone : Core → Core → Type 0
BeganNone c d = AllByRecursion (λ (entry : Entry). BeginsNone entry.reply) (since c d)

-- A collection runs.
pub record IsCollecting (c : Core) : Type 0 where
  pub state : State
  pub reached : state_behind c (all_records c) ≡ Some state
  pub collection : Collection
  pub runs : state.collection ≡ Some collection

-- The pages that scans went over from c to d, with one collection at most under way: each lies after those before it, and there are no more
-- of them than a space has pages.
pub record GoesThrough (c d : Core) : Type 0 where
  pub ascending : IsStrictlyIncreasing (scanned_pages (since c d))
  pub few : length (scanned_pages (since c d)) ≤ c.pages

-- A collection goes once through the pages, whatever sessions do meanwhile and whatever is scanned before a field is read or written. It may
-- have begun in c, or before, or before the heap was opened.
abbrev pub PagesTheorem : Type 0
PagesTheorem = (c d : Core) (events : List Event) → IsReached c → AllByRecursion IsOfSession events → IsRun c events d → BeganNone c d → GoesThrough c d

-- Where a collection still runs when as many scans went over a page as a space has pages, the next scan ends it, if it is not refused.
abbrev pub EndTheorem : Type 0
EndTheorem =
    (c d : Core) (events : List Event) → IsReached c → AllByRecursion IsOfSession events → IsRun c events d → BeganNone c d → IsCollecting d
    → c.pages ≤ length (scanned_pages (since c d)) → core_refusal d Scan ≡ None → (used : ℕ) × (core.answer d Scan ≡ answer.Collected used)
