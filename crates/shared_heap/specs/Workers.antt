-- Workers on one heap that threads share.
use Rattle.std.specs.Prelude.{◌≡◌, ◌+◌, All, List, ◌++◌, MatchResult}
use Rattle.disk_model.specs.declared.disk.Disk.{Ghosts}
use Rattle.graph_model.specs.declared.reply.Entry.{Entry}
use Rattle.heap_workers.specs.declared.station.Station.{Station}
use Rattle.heap_workers.specs.Playing.{Played, IsUnfinished, calls_made}
use Rattle.shared_heap.specs.declared.caller.Caller.{Caller}
use Rattle.shared_heap.specs.Callers.{whose}
use Rattle.shared_heap.specs.Shared.{IsPass, MaySend}
use Rattle.turn_lock.specs.Merging.{entries_of}
use Rattle.turn_lock.specs.Passes.{label_of, mine_of, turns_of}

module _ {D : Type 0} {g : Ghosts D} where
  -- A worker has a pass of a shared heap with which it may send its events.
  pub record HasPass (station : Station (Caller D g)) : Type 0 where
    pub pass : IsPass station.calls.heap.now station.calls.pass
    pub events : All (MaySend (label_of station.calls.pass)) station.worker.events.items

  -- It has sent them with it, or ended at the first call that ran out of memory: what is new among the pass's own entries is what it sent, and each
  -- call was a turn of the pass.
  pub record HasSent (old new : Station (Caller D g)) : Type 0 where
    pub worker : new.worker ≡ old.worker
    pub pass : IsPass new.calls.heap.now new.calls.pass
    pub whose_is : whose new.calls.heap.now new.calls.pass ≡ whose old.calls.heap.now old.calls.pass
    pub part : List Entry
    pub mine : entries_of (mine_of new.calls.pass) ≡ entries_of (mine_of old.calls.pass) ++ part
    pub turns : turns_of new.calls.pass ≡ turns_of old.calls.pass + calls_made new.end part
    pub played : MatchResult new.end (λ _. Played old.worker.tries old.worker.events.items part) (λ _. IsUnfinished old.worker.tries old.worker.events.items part)
