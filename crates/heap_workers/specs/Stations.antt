-- A worker with the heap that it calls.
use Rattle.std.specs.Prelude.{◌≡◌, ◌+◌, All, List, ◌++◌, MatchResult}
use Rattle.graph_model.specs.declared.event.Event.{Event}
use Rattle.graph_model.specs.declared.reply.Entry.{Entry}
use Rattle.heap_workers.specs.declared.calls.HeapCalls.{Ghosts}
use Rattle.heap_workers.specs.declared.station.Station.{Station}
use Rattle.heap_workers.specs.Playing.{MayMake, Played, IsUnfinished, calls_made}

module _ {C : Type 0} (g : Ghosts C) where
  -- each event of its worker may be asked
  abbrev pub IsReady : Station C → Type 0
  IsReady s = All (MayMake (g.takes s.calls)) s.worker.events.items

  -- Its worker sent all its events, or ended sooner, at the first call that was answered with want of memory.
  pub record HasWorked (old new : Station C) : Type 0 where
    pub worker : new.worker ≡ old.worker
    pub origin : g.origin new.calls ≡ g.origin old.calls
    pub takes : (event : Event) → g.takes old.calls event → g.takes new.calls event
    pub part : List Entry
    pub sent : g.sent new.calls ≡ g.sent old.calls ++ part
    pub asked : g.asked new.calls ≡ g.asked old.calls + calls_made new.end part
    pub played : MatchResult new.end (λ _. Played old.worker.tries old.worker.events.items part) (λ _. IsUnfinished old.worker.tries old.worker.events.items part)
