use Rattle.std.proofs.Common.{◌≡◌, ◌<◌, ℕ, length}
use Rattle.std.specs.Prelude.{slice_index}
use Rattle.page_store.specs.StoreState.{stored_lsn}
use Rattle.page_cache.proofs.cache.stored_lsns.Given as goal

-- those so far
abbrev pub invariant-loop-p : goal.invariant-loop-p
invariant-loop-p l = record {
  size : length l.lsns.items ≡ l.p;
  each : (q : ℕ) → q < l.p → slice_index l.lsns.items q ≡ stored_lsn l.store q;
}
