-- What a scan does, and what transactions hold while a collection runs.
use Rattle.std.specs.Prelude.{◌≡◌, ℕ, ◌++◌, false, List, Some}
use Rattle.std.specs.List.{AllByRecursion}
use Rattle.std.specs.FinSet.{contains}
use Rattle.graph_model.specs.History.{account}
use Rattle.graph_model.specs.Plain.{view}
use Rattle.graph_model.specs.Transaction.{Transaction}
use Rattle.graph_model.specs.declared.event.Event.TheVariants.{Scan}
use Rattle.heap_spaces.specs.Collection.{Collection, page_of}
use Rattle.log_records.specs.declared.Record.{Record}
use Rattle.log_machine.specs.Machine.{State, spaces_of}
use Rattle.page_scanner.specs.Scan.{scan_records}
use Rattle.heap_model.specs.Collecting.{next_page}
use Rattle.heap_model.specs.Core.{Core, all_records, all_words, own_records, state_behind}
use Rattle.heap_model.specs.CoreTold.{HoldsAtHand}
use Rattle.core_laws.specs.Active.{active_in}
use Rattle.core_laws.specs.Valid.{IsReached, IsValid}

-- A page can be scanned: an event that scans it has the records of its scan, and after these a collection still runs, in which no object that
-- starts in the page is gray.
pub record CanBeScanned (c : Core) (s : State) (k : Collection) (page : ℕ) : Type 0 where
  pub records : List Record
  pub planned : scan_records (spaces_of s) k (all_words c) page ≡ Some records
  pub appended : own_records c Scan ≡ records
  pub state : State
  pub reached : state_behind c (all_records c ++ records) ≡ Some state
  pub later : Collection
  pub runs : state.collection ≡ Some later
  pub black : (at : ℕ) → page_of at ≡ page → contains later.gray at ≡ false

-- A scan does something: the next page in which a gray object starts can be scanned, and nothing that starts in it is gray then.
abbrev pub ScanTheorem : Type 0
ScanTheorem =
    (c : Core) (s : State) (k : Collection) (page : ℕ) → IsValid c → state_behind c (all_records c) ≡ Some s → s.collection ≡ Some k → next_page (Some k) ≡ Some page → CanBeScanned c s k page

-- A transaction never holds what remains in the from-space: each of its handles holds a current object, or one that it made.
abbrev pub HoldsTheorem : Type 0
HoldsTheorem =
    (c : Core) (s : ℕ) (t : Transaction) → IsReached c → active_in c s ≡ Some t
    → AllByRecursion (HoldsAtHand c.places t.number (view c.g0 (account c.history) t).made) (view c.g0 (account c.history) t).registers
