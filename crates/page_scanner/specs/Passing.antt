-- What the records of a scan are for those that come after them.
use Rattle.std.specs.Prelude.{◌≡◌, ℕ, List, [], ◌∷◌, Option, Some, false, option_and_then}
use Rattle.std.specs.FinSet.{contains}
use Rattle.heap_spaces.specs.Collection.{Collection, page_of}
use Rattle.log_records.specs.declared.Record.{Record}
use Rattle.log_machine.specs.Machine.{State}
use Rattle.log_machine.specs.Collecting.{collecting_after}

-- the state after these records of a collection, if each of them can follow
abbrev pub collecting_after_all : State → List Record → Option State
collecting_after_all s [] = Some s
collecting_after_all s (r ∷ rs) = option_and_then (λ next. collecting_after_all next rs) (collecting_after s r)

-- Records follow one another from a state on, and no object that starts in the page is gray after them.
pub record IsScanned (s : State) (page : ℕ) (records : List Record) : Type 0 where
  pub next : State
  pub passes : collecting_after_all s records ≡ Some next
  pub collection : Collection
  pub runs : next.collection ≡ Some collection
  pub none_gray : (at : ℕ) → page_of at ≡ page → contains collection.gray at ≡ false
