-- What is kept in memory, by parts: what it has of the disk, and what the sessions work with.
use Rattle.std.proofs.Common.{◌≡◌, ℕ, ◌+◌, List, ◌++◌, length, Option, sym, ap, ◌∙◌, subst}
use Rattle.std.specs.Prelude.{fold, IsFalse}
use Rattle.std.proofs.lemmas.List.Sums.{fold-append}
use Rattle.gated_log.specs.LogState.{Keeps, log_count, log_place, log_room}
use Rattle.graph_model.specs.History.{Account}
use Rattle.heap_spaces.specs.Collection.{Collection}
use Rattle.heap_spaces.specs.Spaces.{SpacesState}
use Rattle.image_plan.specs.Plan.{log_offset}
use Rattle.log_records.specs.declared.Record.{Record}
use Rattle.log_machine.specs.Machine.{put_record}
use Rattle.object_locks.specs.Holdings.{Holdings}
use Rattle.page_redo.proofs.RedoLaws.{lsns-redo_all}
use Rattle.page_store.specs.declared.store.PageStore.{PageStore}
use Rattle.page_store.specs.StoreState.{store_plan, stored_lsn, has_failed}
use Rattle.txn_table.specs.Table.{TableState, TransactionState, with_transaction}
use Rattle.graph_words.specs.Places.{Places}
use Rattle.heap_model.specs.Core.{Core, all_words}
use Rattle.heap_memory.specs.Memory.{Memory}
use Rattle.heap_memory.specs.Leaves.{Leaves, pages_of}
use Rattle.memory_laws.specs.CoreMemory.{PagesAgree, SessionsAgree, IsMemory}
use Rattle.memory_laws.proofs.Kept.Pages.{lsn_appended}

-- The log, the words and the pages in memory are a core's.
pub record HasDisk (m : Memory) (c : Core) : Type 0 where
  pub log : Keeps m.log c.batches c.pending
  pub place : log_place m.log ≡ log_offset
  pub room : log_room m.log ≡ c.room
  pub words : m.words ≡ all_words c
  pub pages : PagesAgree m c

-- The words and the sessions in memory are a core's.
pub record Works (m : Memory) (a : Account) (c : Core) : Type 0 where
  pub words : m.words ≡ all_words c
  pub sessions : SessionsAgree m a c

pub works_of : (m : Memory) (a : Account) (c : Core) → IsMemory m a c → Works m a c
works_of m a c is = record { words = is.words; sessions = is.sessions }

-- both make the whole
pub whole_of : (m : Memory) (a : Account) (c : Core) → HasDisk m c → SessionsAgree m a c → IsMemory m a c
whole_of m a c disk sessions = record { log = disk.log; place = disk.place; room = disk.room; words = disk.words; pages = disk.pages; sessions = sessions }

-- What an event leaves of the words and the sessions.
pub record Turns (old new : Memory) (records : List Record) (transactions : TableState) (held : Holdings) (current : SpacesState) (runs : Option Collection) (count : ℕ) : Type 0 where
  pub words : new.words ≡ fold put_record old.words records
  pub table : new.table ≡ transactions
  pub locks : new.locks ≡ held
  pub spaces : new.spaces ≡ current
  pub collection : new.collection ≡ runs
  pub sealed : new.sealed ≡ count

-- What an event of session s leaves of these whose transaction and locks alone have changed.
abbrev pub TurnsOwn : Memory → Memory → ℕ → List Record → TransactionState → Holdings → Type 0
TurnsOwn old new s records t held = Turns old new records (with_transaction old.table s t) held old.spaces old.collection old.sealed

pub turns_of : {old new : Memory} {records : List Record} {transactions : TableState} {held : Holdings} {current : SpacesState} {runs : Option Collection} {count : ℕ}
    → Leaves old new records transactions held current runs count → Turns old new records transactions held current runs count
turns_of left = record { words = left.words; table = left.table; locks = left.locks; spaces = left.spaces; collection = left.collection; sealed = left.sealed }

-- more records are pending, whichever objects stand where then
pub disk_left : (m n : Memory) (a : Account) (c : Core) (more : List Record) (places remaining : Places) {table : TableState} {locks : Holdings} {current : SpacesState} {runs : Option Collection} {count : ℕ}
    → IsMemory m a c → Leaves m n more table locks current runs count → HasDisk n (record c { pending = c.pending ++ more; places = places; remaining = remaining })
disk_left m n a c more places remaining is left = record {
  log = left.log.kept c.batches c.pending is.log;
  place = left.log.place.at ∙ is.place;
  room = left.log.place.room ∙ is.room;
  words = left.words ∙ ap (λ (ws : List ℕ). fold put_record ws more) is.words ∙ sym (fold-append put_record c.words c.pending more);
  pages = record {
    number = ap (λ (l : List ℕ). length l) left.lsns ∙ lsns-redo_all (log_count m.log + 1) (pages_of m) more ∙ is.pages.number;
    now = λ p lt. lsn_appended m n c is more left.lsns p lt;
    flushed = λ p lt. ap (λ (x : PageStore). stored_lsn x p) left.store ∙ is.pages.flushed p lt;
    plan = ap store_plan left.store ∙ is.pages.plan;
    unfailed = subst (λ (x : PageStore). IsFalse (has_failed x)) (sym left.store) is.pages.unfailed;
  };
}
