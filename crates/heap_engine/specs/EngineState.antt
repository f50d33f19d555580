-- An engine, as contracts see it.
use Rattle.std.specs.Prelude.{◌≡◌, List, ℕ, false, fold, Option}
use Rattle.std.specs.FinSet as set
use Rattle.graph_model.specs.History.{sessions}
use Rattle.log_machine.specs.Machine.{taken_back}
use Rattle.logged_pages.specs.declared.logged.LoggedPages.{LoggedPages}
use Rattle.logged_pages.specs.State.{has_failed, log_of, pages_in_memory, store_of}
use Rattle.logged_pages.specs.State as logged
use Rattle.heap_spaces.specs.Collection.{Collection}
use Rattle.heap_spaces.specs.Spaces.{SpacesState}
use Rattle.txn_table.specs.Table.{TableState, new_table, transaction_of}
use Rattle.heap_memory.specs.Memory.{Memory}
use Rattle.heap_engine.specs.Reserve.{undo_if}
use Rattle.heap_engine.specs.declared.engine.Engine.{Engine}

-- what it keeps in memory
abbrev pub memory : Engine → Memory
memory e = record {
  log = log_of e.pages;
  words = (pages_in_memory e.pages).words;
  lsns = (pages_in_memory e.pages).lsns;
  store = store_of e.pages;
  spaces = e.spaces;
  collection = e.collection;
  table = e.table;
  locks = e.locks;
  sealed = e.sealed;
}

-- what that of a heap keeps that was just opened
abbrev pub opened : LoggedPages → SpacesState → Option Collection → ℕ → Memory
opened pages spaces collection next = record {
  log = log_of pages;
  words = (pages_in_memory pages).words;
  lsns = (pages_in_memory pages).lsns;
  store = store_of pages;
  spaces = spaces;
  collection = collection;
  table = new_table next;
  locks = set.empty;
  sealed = 0;
}

-- its log and its pages lie within a disk of that size
abbrev pub LiesWithin : Engine → ℕ → Type 0
LiesWithin e extent = logged.LiesWithin e.pages extent

-- no force and no store of a page has failed
abbrev pub HasNotFailed : Engine → Type 0
HasNotFailed e = has_failed e.pages ≡ false

-- the words without what the transactions of these sessions wrote: the writes of each are taken back, session after session
abbrev pub without_writes : TableState → List ℕ → List ℕ → List ℕ
without_writes table words ss = fold (λ now s. taken_back (undo_if (transaction_of table s)) now) words ss

-- the words without what active transactions wrote
abbrev pub committed : Engine → List ℕ
committed e = without_writes e.table (pages_in_memory e.pages).words sessions
