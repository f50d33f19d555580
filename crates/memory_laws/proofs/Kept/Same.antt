-- Pages, transactions and locks in memory that are the same agree with the same core.
use Rattle.std.proofs.Common.{◌≡◌, List, ℕ, length, sym, ap, ◌∙◌, subst}
use Rattle.std.specs.Prelude.{slice_index, IsFalse}
use Rattle.graph_model.specs.History.{Account}
use Rattle.object_locks.specs.Holdings.{Holdings}
use Rattle.page_store.specs.declared.store.PageStore.{PageStore}
use Rattle.page_store.specs.StoreState.{store_plan, stored_lsn, has_failed}
use Rattle.txn_table.specs.Table.{TableState, transaction_of}
use Rattle.heap_memory.specs.Memory.{Memory}
use Rattle.heap_model.specs.Core.{Core}
use Rattle.memory_laws.specs.CoreMemory.{PagesAgree, SessionsAgree, AreHeld}

-- the pages
pub same_pages : (old new : Memory) (c : Core) → new.lsns ≡ old.lsns → new.store ≡ old.store → PagesAgree old c → PagesAgree new c
same_pages old new c lsns store is = record {
  number = ap (λ (l : List ℕ). length l) lsns ∙ is.number;
  now = λ p lt. ap (λ (l : List ℕ). slice_index l p) lsns ∙ is.now p lt;
  flushed = λ p lt. ap (λ (x : PageStore). stored_lsn x p) store ∙ is.flushed p lt;
  plan = ap store_plan store ∙ is.plan;
  unfailed = subst (λ (x : PageStore). IsFalse (has_failed x)) (sym store) is.unfailed;
}

-- the sessions
pub same_sessions : (old new : Memory) (a : Account) (c : Core) → new.spaces ≡ old.spaces → new.collection ≡ old.collection → new.table ≡ old.table → new.locks ≡ old.locks
    → new.sealed ≡ old.sealed → SessionsAgree old a c → SessionsAgree new a c
same_sessions old new a c spaces collection table locks sealed is = record {
  state = is.state;
  reached = is.reached;
  spaces = spaces ∙ is.spaces;
  collection = collection ∙ is.collection;
  transactions = λ s. ap (λ (t : TableState). transaction_of t s) table ∙ is.transactions s;
  locks = subst (λ (l : Holdings). AreHeld l c.places c.g0 a) (sym locks) is.locks;
  next = ap (λ (t : TableState). t.next) table ∙ is.next;
  sealed = sealed ∙ is.sealed;
}
