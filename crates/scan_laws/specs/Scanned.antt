-- What the records of the scan of a page leave of a heap in a collection.
use Rattle.std.specs.Prelude.{◌≡◌, ℕ, ◌++◌, List, None, Some, false, fold}
use Rattle.std.specs.FinSet.{contains}
use Rattle.heap_spaces.specs.Collection.{Collection, page_of}
use Rattle.graph_model.specs.declared.id.Id.{Id}
use Rattle.graph_model.specs.Graph.{Graph}
use Rattle.log_records.specs.declared.Record.{Record}
use Rattle.log_machine.specs.declared.UndoEntry.{UndoEntry}
use Rattle.log_machine.specs.Machine.{State, put_record}
use Rattle.graph_words.specs.Places.{Places, address_of}
use Rattle.collection_words.specs.Completed.{StandsCompleted}
use Rattle.collection_words.specs.LaidOut.{IsUnderway}
use Rattle.collection_words.specs.Placing.{moved_by_all, placing_of}
use Rattle.collection_words.specs.Writes.{AreBacked}
use Rattle.page_scanner.specs.Passing.{collecting_after_all}
use Rattle.walk_laws.specs.Heap.{TellsBirths}

-- the words after these records
abbrev pub put_records : List ℕ → List Record → List ℕ
put_records words records = fold put_record words records

-- What a scan leaves as it was: what the state says of transactions.
pub record IsUntouched (s n : State) : Type 0 where
  pub undo : n.undo ≡ s.undo
  pub commits : n.commits ≡ s.commits
  pub next : n.next ≡ s.next

-- Objects stand where they did, or were copied, and no other ones are there.
pub record HaveBeenCopied (places remaining currents rest : Places) : Type 0 where
  pub kept : (id : Id) (at : ℕ) → address_of places id ≡ Some at → address_of currents id ≡ Some at
  pub fewer : (id : Id) → address_of (places ++ remaining) id ≡ None → address_of (currents ++ rest) id ≡ None

-- The records can follow. After them objects stand where the records move them, births are known as before, the words are laid out, no object
-- that starts in the page is gray, and the graph stands in the completed words, with the same writes taken back.
pub record KeepHeap (s : State) (places remaining : Places) (words : List ℕ) (page : ℕ) (records : List Record) (t made : ℕ) (g : Graph) (us : List UndoEntry) : Type 0 where
  pub next : State
  pub collection : Collection
  pub currents : Places
  pub rest : Places
  pub passes : collecting_after_all s records ≡ Some next
  pub placed : moved_by_all (placing_of places remaining) records ≡ placing_of currents rest
  pub untouched : IsUntouched s next
  pub copied : HaveBeenCopied places remaining currents rest
  pub births : TellsBirths s places remaining words → TellsBirths next currents rest (put_records words records)
  pub underway : IsUnderway next collection currents rest (put_records words records)
  pub black : (at : ℕ) → page_of at ≡ page → contains collection.gray at ≡ false
  pub backed : AreBacked currents (put_records words records) us
  pub stands : StandsCompleted t made currents rest g us (put_records words records) next
