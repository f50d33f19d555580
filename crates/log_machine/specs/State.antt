-- What a list of records leaves, besides the words.
use Rattle.std.specs.Prelude.{ℕ, List, Option}
use Rattle.std.specs.Ordering.{nat_cmp}
use Rattle.std.specs.FinMap.{FinMap}
use Rattle.heap_spaces.specs.Collection.{Collection}
pub use Rattle.heap_spaces.specs.Spaces.{space_words}
use Rattle.log_machine.specs.declared.UndoEntry.{UndoEntry}

-- What the records so far say.
pub record State : Type 0 where
  pub pages : ℕ  -- how many pages each of the two spaces has
  pub base : ℕ  -- the address of the current space's first word
  pub used : ℕ  -- how many words of the current space its objects take
  pub collection : Option Collection  -- the collection that runs, where one does
  pub undo : FinMap nat_cmp (List UndoEntry)  -- of each transaction whose writes may be taken back, what they replaced, the newest first
  pub commits : ℕ  -- how many transactions are committed
  pub next : ℕ  -- the number of the next transaction
