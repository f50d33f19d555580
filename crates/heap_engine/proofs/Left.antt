-- What events leave that change little.
use Rattle.std.proofs.Common.{◌≡◌, ℕ, ◌+◌, List, [], ◌++◌, Option, None, Some, fold, refl, sym, ap, ◌∙◌, subst}
use Rattle.std.specs.Prelude.{IfSome}
use Rattle.std.proofs.lemmas.List.{append-nil}
use Rattle.gated_log.specs.declared.log.Log.{Log}
use Rattle.gated_log.specs.LogState.{Keeps}
use Rattle.log_records.specs.declared.Record.{Record}
use Rattle.heap_words.specs.declared.Word.{Word}
use Rattle.heap_spaces.specs.Collection.{Collection}
use Rattle.heap_spaces.specs.Spaces.{SpacesState}
use Rattle.log_machine.specs.Machine.{put_record}
use Rattle.object_locks.specs.Holdings.{Holdings}
use Rattle.page_redo.specs.Redo.{redo_all}
use Rattle.txn_table.specs.Table.{TransactionState, TableState}
use Rattle.txn_table.proofs.TableLaws.{with_transaction_known}
use Rattle.heap_memory.specs.Memory.{Memory, own}
use Rattle.heap_memory.specs.Leaves.{Adds, IsAsItWas, Leaves, LeavesOwn, with_read}
use Rattle.heap_engine.proofs.Reserved.{adds_to}

-- no more records
pub adds_nothing : (log : Log) → Adds log log []
adds_nothing log = record {
  place = record { at = refl; room = refl; tail = refl; forced = refl };
  kept = λ batches pending keeps. subst (λ (rs : List Record). Keeps log batches rs) (sym (append-nil pending)) keeps;
}

-- nothing is other than it was
pub leaves_all : (m : Memory) (s : ℕ) (t : TransactionState) → own m s ≡ Some t → LeavesOwn m m s [] t m.locks
leaves_all m s t is = record {
  log = adds_nothing m.log;
  words = refl;
  lsns = refl;
  store = refl;
  table = sym (with_transaction_known m.table s t is);
  locks = refl;
  spaces = refl;
  collection = refl;
  sealed = refl;
}

-- so it is where what was read is no reference
pub reads_nothing : (m : Memory) (s h : ℕ) (meant other : Option Word) → meant ≡ other → ((t : TransactionState) → with_read t h other ≡ t)
    → IfSome (own m s) (λ t. LeavesOwn m m s [] (with_read t h meant) m.locks)
reads_nothing m s h meant other is same =
    subst (λ (w : Option Word). IfSome (own m s) (λ t. LeavesOwn m m s [] (with_read t h w) m.locks)) (sym is) (cases (own m s) refl)
  where
    cases : (o : Option TransactionState) → own m s ≡ o → IfSome o (λ t. LeavesOwn m m s [] (with_read t h other) m.locks)
    cases None has = tt
    cases (Some t) has = subst (λ (u : TransactionState). LeavesOwn m m s [] u m.locks) (sym (same t)) (leaves_all m s t has)

-- What an event leaves of memory in which more was taken in advance, it leaves of memory as it was.
pub from_same : (old mid new : Memory) (records : List Record) (table : TableState) (held : Holdings) (current : SpacesState) (runs : Option Collection) (count : ℕ) → IsAsItWas old mid
    → Leaves mid new records table held current runs count → Leaves old new records table held current runs count
from_same old mid new records table held current runs count same left = record {
  log = adds_to old.log mid.log same.log new.log records left.log;
  words = left.words ∙ ap (λ (ws : List ℕ). fold put_record ws records) same.words;
  lsns = left.lsns ∙ (λ i. (redo_all (same.log.count i + 1) (record { words = same.words i; lsns = same.lsns i }) records).lsns);
  store = left.store ∙ same.store;
  table = left.table;
  locks = left.locks;
  spaces = left.spaces;
  collection = left.collection;
  sealed = left.sealed;
}

-- Two events one after another, of which the second appends no record.
pub left_then : (old mid new : Memory) (records : List Record) (table later : TableState) (held after : Holdings) (current next : SpacesState) (runs now : Option Collection) (count more : ℕ)
    → Leaves old mid records table held current runs count → Leaves mid new [] later after next now more → Leaves old new records later after next now more
left_then old mid new records table later held after current next runs now count more first then = record {
  log = record {
    place = record {
      at = then.log.place.at ∙ first.log.place.at;
      room = then.log.place.room ∙ first.log.place.room;
      tail = then.log.place.tail ∙ first.log.place.tail;
      forced = then.log.place.forced ∙ first.log.place.forced;
    };
    kept = λ batches pending keeps.
        subst (λ (rs : List Record). Keeps new.log batches rs) (append-nil (pending ++ records)) (then.log.kept batches (pending ++ records) (first.log.kept batches pending keeps));
  };
  words = then.words ∙ first.words;
  lsns = then.lsns ∙ first.lsns;
  store = then.store ∙ first.store;
  table = then.table;
  locks = then.locks;
  spaces = then.spaces;
  collection = then.collection;
  sealed = then.sealed;
}
