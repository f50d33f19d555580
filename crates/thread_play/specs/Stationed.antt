-- Workers with their passes of one shared heap.
use Rattle.std.specs.Prelude.{◌≡◌, ◌⊎◌, ℕ, ◌+◌, [], ◌∷◌, All, List, cond, map, nat_lt, length, reverse, IsErr, IsOk, MatchResult, Result, Some, slice_get}
use Rattle.std.specs.List.{AllByRecursion}
use Rattle.std.specs.declared.alloc.AllocError.{AllocError}
use Rattle.disk_model.specs.declared.disk.Disk.{Ghosts}
use Rattle.graph_model.specs.declared.reply.Entry.{Entry}
use Rattle.heap_workers.specs.declared.station.Station.{Station}
use Rattle.heap_workers.specs.declared.worker.Worker.{Worker}
use Rattle.heap_workers.specs.Playing.{Played, IsBegun, IsUnfinished}
use Rattle.shared_heap.specs.declared.caller.Caller.{Caller}
use Rattle.shared_heap.specs.declared.shared.SharedHeap.{SharedHeap}
use Rattle.shared_heap.specs.declared.turned.Turned.{Turned}
use Rattle.shared_heap.specs.Shared.{IsPass, MaySend}
use Rattle.turn_lock.specs.declared.pass.Pass.{Pass}
use Rattle.turn_lock.specs.Merging.{entries_of}
use Rattle.turn_lock.specs.Passes.{label_of, mine_of, pass_numbers, turns_of}

-- the label of the pass with this number: a session's, or 0 for the collector and the flusher
abbrev pub label_at : ℕ → ℕ
label_at i = cond (nat_lt i 32) (i + 1) 0

-- There are 34 workers, and each one's events are those that the pass of its place may send.
pub record AreWorkers (workers : List Worker) : Type 0 where
  pub count : length workers ≡ 34
  pub each : (i : ℕ) (worker : Worker) → slice_get workers i ≡ Some worker → All (MaySend (label_at i)) worker.events.items

-- what a worker has sent, or a prefix of that, if some worker ran out of memory
abbrev pub HasPart : Result (Unit {0}) AllocError → Worker → List Entry → Type 0
HasPart end worker part = MatchResult end (λ _. Played worker.tries worker.events.items part) (λ _. IsBegun worker.tries worker.events.items part)

module _ {D : Type 0} {g : Ghosts D} where
  -- the passes of stations, the last one's first
  abbrev pub passes_back : List (Station (Caller D g)) → List (Pass (Turned D g) Entry)
  passes_back stations = reverse (map (λ station. station.calls.pass) stations)

  -- their workers, the last one's first
  abbrev pub workers_back : List (Station (Caller D g)) → List Worker
  workers_back stations = reverse (map (λ station. station.worker) stations)

module _ {D : Type 0} {g : Ghosts D} where
  -- Some worker ran out of memory: its last turn added no entry, and it has not sent all.
  pub record RanOut (workers : List Worker) (passes : List (Pass (Turned D g) Entry)) : Type 0 where
    pub number : ℕ
    pub pass : Pass (Turned D g) Entry
    pub pass_at : slice_get passes number ≡ Some pass
    pub worker : Worker
    pub worker_at : slice_get workers number ≡ Some worker
    pub unanswered : turns_of pass ≡ length (mine_of pass) + 1
    pub unfinished : IsUnfinished worker.tries worker.events.items (entries_of (mine_of pass))

module _ {D : Type 0} {g : Ghosts D} (shared : SharedHeap D g) where
  -- It is the pass with this number of a shared heap, with no entry of its own.
  pub record IsUnused (i : ℕ) (pass : Pass (Turned D g) Entry) : Type 0 where
    pub pass_is : IsPass shared pass
    pub numbers : pass_numbers pass ≡ i ∷ []
    pub label : label_of pass ≡ label_at i
    pub none : mine_of pass ≡ []
    pub no_turn : turns_of pass ≡ 0

  -- all passes of a shared heap, in the order of their numbers
  pub record AreNew (passes : List (Pass (Turned D g) Entry)) : Type 0 where
    pub count : length passes ≡ 34
    pub each : (i : ℕ) (pass : Pass (Turned D g) Entry) → slice_get passes i ≡ Some pass → IsUnused i pass

  -- Each pass is back from the worker of its place, and its own entries are what that has sent.
  pub record ArePlayed (end : Result (Unit {0}) AllocError) (workers : List Worker) (passes : List (Pass (Turned D g) Entry)) : Type 0 where
    pub count : length passes ≡ 34
    pub pass_is : (i : ℕ) (pass : Pass (Turned D g) Entry) → slice_get passes i ≡ Some pass → IsPass shared pass × (pass_numbers pass ≡ i ∷ [])
    pub part : (i : ℕ) (pass : Pass (Turned D g) Entry) (worker : Worker) → slice_get passes i ≡ Some pass → slice_get workers i ≡ Some worker → HasPart end worker (entries_of (mine_of pass))
    -- no turn ran out of memory
    pub answered : IsOk end → AllByRecursion (λ pass. turns_of pass ≡ length (mine_of pass)) passes
    -- memory ran out before the first turn, or in some worker's last
    pub ran_out : IsErr end → AllByRecursion (λ pass. (mine_of pass ≡ []) × (turns_of pass ≡ 0)) passes ⊎ RanOut workers passes

  -- The stations of these workers with these passes, the last first.
  pub record AreStations (workers : List Worker) (passes : List (Pass (Turned D g) Entry)) (stations : List (Station (Caller D g))) : Type 0 where
    pub heap_is : All (λ station. station.calls.heap.now ≡ shared) stations
    pub workers_are : workers ≡ workers_back stations
    pub passes_are : passes ≡ passes_back stations
