-- What an open heap keeps in memory.
use Rattle.std.specs.Prelude.{ℕ, ◌==◌, nat_eq, nat_lt, List, [], Bool, false, Option, None, Some, Result, Ok, Err, length, slice_get, sum_by, option_and_then, if◌then◌else◌}
use Rattle.std.specs.List.{list_any}
use Rattle.gated_log.specs.declared.log.Log.{Log}
use Rattle.graph_model.specs.History.{sessions}
use Rattle.graph_model.specs.declared.reply.Refusal.{Refusal}
use Rattle.graph_model.specs.declared.reply.Refusal.TheVariants.{NotActive, BadHandle}
use Rattle.heap_words.specs.declared.Word.{Word}
use Rattle.heap_words.specs.declared.Word.TheVariants as word
use Rattle.log_machine.specs.Machine.{end_bytes}
use Rattle.object_layout.specs.Layout.{field_words}
use Rattle.volatile_area.specs.Area.{AreaState, starts_of}
use Rattle.page_store.specs.declared.store.PageStore.{PageStore}
use Rattle.heap_spaces.specs.Collection.{Collection}
use Rattle.heap_spaces.specs.Spaces.{SpacesState}
use Rattle.object_locks.specs.Holdings.{Holdings}
use Rattle.txn_table.specs.declared.place.Place.{Place}
use Rattle.txn_table.specs.declared.place.Place.TheVariants.{Stable, Volatile}
use Rattle.txn_table.specs.Table.{TransactionState, TableState, transaction_of}

-- What an open heap keeps in memory, as contracts see it.
pub record Memory : Type 0 where
  pub log : Log  -- with the pending records
  pub words : List ℕ  -- those of both spaces, by address
  pub lsns : List ℕ  -- the LSN of each page
  pub store : PageStore  -- with which LSN, and in which frame, each page is stored
  pub spaces : SpacesState  -- which words of the current space are taken
  pub collection : Option Collection  -- the collection that runs, if one does
  pub table : TableState  -- the transactions of the sessions that have not ended, and the number of the next
  pub locks : Holdings  -- the locks that these hold on objects of the current space
  pub sealed : ℕ  -- how many transactions were sealed since the heap was opened

-- the transaction of a session, if it has one
abbrev pub own : Memory → ℕ → Option TransactionState
own m s = transaction_of m.table s

-- the log's bytes that are kept for the end of a transaction, if there is one
abbrev pub kept_for_end : Option TransactionState → ℕ
kept_for_end None = 0
kept_for_end (Some t) = end_bytes (length t.undo)

-- those for the ends of all transactions
abbrev pub reserved : TableState → ℕ
reserved table = sum_by (λ s. kept_for_end (transaction_of table s)) sessions

-- where the root object stands: it is the first object of the current space
abbrev pub root_place : Memory → Place
root_place m = Stable m.spaces.base

-- what the word of a reference to the object at a place means
abbrev pub place_word : Place → Word
place_word (Stable at) = word.Stable at
place_word (Volatile at) = word.Volatile at

-- whether two places are one
abbrev pub is_same_place : Place → Place → Bool
is_same_place (Stable at) (Stable other) = at == other
is_same_place (Volatile at) (Volatile other) = at == other
is_same_place p q = false

-- the words of the fields of an object that a transaction has made, and none where it has made none there
abbrev pub own_fields : AreaState → ℕ → List ℕ
own_fields area at = if list_any (nat_eq at) (starts_of area) then field_words area.words at else []

-- the words of the fields of the object at a place, in order, and none where no object stands
abbrev pub fields_at : List ℕ → AreaState → Place → List ℕ
fields_at words area (Stable at) = field_words words at
fields_at words area (Volatile at) = own_fields area at

-- what a handle of a transaction holds; there are 64
abbrev pub held_in : TransactionState → ℕ → Option Place
held_in t h = if nat_lt 63 h then None else option_and_then (λ o. o) (slice_get t.handles h)

abbrev pub held_or : Option Place → Result Place Refusal
held_or None = Err BadHandle
held_or (Some p) = Ok p

-- the place of the object that a handle holds, or why there is none
abbrev pub held_place : Option TransactionState → ℕ → Result Place Refusal
held_place None h = Err NotActive
held_place (Some t) h = held_or (held_in t h)

-- the words of the fields of the object at a place that a transaction's handle holds
abbrev pub fields_held : Memory → Option TransactionState → Result Place Refusal → List ℕ
fields_held m (Some t) (Ok p) = fields_at m.words t.area p
fields_held m t held = []
