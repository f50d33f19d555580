-- What a session promises that lines `reopen` may divide: each part of it is served on the disk that the one before it left.
use Rattle.std.specs.Prelude.{◌≡◌, ◌≢◌, ◌⊎◌, ℕ, ◌≤◌, List, ◌++◌, IsTrue}
use Rattle.std.proofs.Common.{zero, suc}
use Rattle.counts.specs.Count.{Rose}
use Rattle.disk_model.specs.declared.disk.Disk.{Ghosts}
use Rattle.heap_io.specs.declared.sink.Sink as sinks
use Rattle.heap_io.specs.declared.source.Source as sources
use Rattle.heap_program.specs.declared.status.Status.{Status}
use Rattle.heap_program.specs.declared.status.Status.TheVariants as status
use Rattle.heap_program.specs.Causes.{DiskRose, StreamCause, RunsDisk, CountsStay, IsFaultless}
use Rattle.heap_program.specs.Headline.{OfTold, IsOfImage}
use Rattle.heap_program.specs.Play.{WroteFront}
use Rattle.heap_program.specs.Refusals.{AnswersImage}
use Rattle.heap_program.specs.Stored.{IsStored, stored_core, stored_calls}
use Rattle.session_program.specs.declared.parts.Next.{Next}
use Rattle.session_program.specs.declared.parts.Next.TheVariants as next
use Rattle.session_program.specs.Ending.{IsSessionEnd}
use Rattle.session_program.specs.Lines.{closed_line}
use Rattle.session_program.specs.Served.{IsServed}
use Rattle.session_program.specs.Session.{OfInput, ServesHeap}

-- The state of a session between two parts: its disk, the bytes that were taken of its source and belong to lines to come, and its streams.
pub record Place (D S K : Type 0) : Type 0 where
  pub disk : D
  pub held : List ℕ
  pub source : S
  pub sink : K

module _ {D S K : Type 0} (g : Ghosts D) (s : sources.Ghosts S) (k : sinks.Ghosts K) where
  -- the bytes of the lines to come
  abbrev pub stream : Place D S K → List ℕ
  stream place = place.held ++ s.left place.source

  -- A part of a session was served, and ended so.
  pub record ServesPart (old : Place D S K) (by : Status) (n : Next) (new : Place D S K) : Type 0 where
    pub done : n ≡ next.Reopen → by ≡ status.Done
    pub end : IsSessionEnd by
    -- each fault comes from outside
    pub read_fault : StreamCause (s.faults old.source) (s.faults new.source) (by ≡ status.ReadFault)
    pub write_fault : StreamCause (k.faults old.sink) (k.faults new.sink) (by ≡ status.WriteFault)
    pub disk_fault : RunsDisk g old.disk new.disk (by ≡ status.DiskFault)
    -- A part that is done, or was refused by its image, or whose source failed, met no fault of the disk.
    pub unfaulted : IsFaultless by → CountsStay g old.disk new.disk
    -- On any disk: the heap was not opened, and nothing was read or written; or the lines that were taken were answered in their order.
    pub serves : ((by ≢ status.Done) × (new.source ≡ old.source) × (new.sink ≡ old.sink))
        ⊎ OfInput s.tells n (stream old) (stream new) (s.left new.source)
        (λ part rest. ServesHeap g (IsOfImage g.tells (g.bytes old.disk)) s.tells part rest new.disk by n k.tells (k.written old.sink) (k.written new.sink))
    -- On a modelled disk, with the existing heap: nothing was done to the disk but in the opening and in events, and each moment of it is described.
    pub served : OfTold g.tells (g.bytes old.disk) (g.may_leave old.disk) ((stored : IsStored (g.bytes old.disk)) → OfInput s.tells n (stream old) (stream new) (s.left new.source)
        (λ part rest. IsServed g (stored_calls stored) s.tells part rest (stored_core stored) old.disk new.disk by n k.tells (k.written old.sink) (k.written new.sink)))
    -- Without a fault it is done, if memory suffices.
    pub complete : OfTold g.tells (g.bytes old.disk) (g.may_leave old.disk) (IsStored (g.bytes old.disk) → ¬ Rose (s.faults old.source) (s.faults new.source) → ¬ Rose (k.faults old.sink) (k.faults new.sink)
        → ¬ DiskRose (g.faults old.disk) (g.stops old.disk) (g.faults new.disk) (g.stops new.disk) → (by ≡ status.Done) ⊎ (by ≡ status.NoMemory))
    -- A status against the image is true of it, and an image that can't be opened gives its own; nothing is read or written then. What becomes of it.
    pub image : AnswersImage g (Unit {0}) 0 old.disk new.disk by ((new.source ≡ old.source) × (new.sink ≡ old.sink))

  -- A part was served up to a line `reopen`, and it was reported that the heap was closed.
  pub record Reopens (old new : Place D S K) : Type 0 where
    pub closed : Place D S K
    pub part : ServesPart old status.Done next.Reopen closed
    pub disk : new.disk ≡ closed.disk
    pub held : new.held ≡ closed.held
    pub source : new.source ≡ closed.source
    pub sink : k.faults closed.sink ≤ k.faults new.sink
    pub told : IsTrue k.tells → k.written new.sink ≡ k.written closed.sink ++ closed_line

  -- A number of parts were served one after another, each on the disk that the one before it left.
  abbrev pub Parts : ℕ → Place D S K → Place D S K → Type 0
  Parts zero old new = new ≡ old
  Parts (suc n) old new = (mid : Place D S K) × Parts n old mid × Reopens mid new

  -- A part was served up to a line `reopen`, and that could not be reported.
  pub record Untold (old : Place D S K) (by : Status) (new : Place D S K) : Type 0 where
    pub closed : Place D S K
    pub part : ServesPart old status.Done next.Reopen closed
    pub disk : new.disk ≡ closed.disk
    pub source : new.source ≡ closed.source
    pub status : by ≡ status.WriteFault
    pub sink : Rose (k.faults closed.sink) (k.faults new.sink)
    pub front : IsTrue k.tells → WroteFront (k.written closed.sink) closed_line (k.written new.sink)

  -- How the last part ends: it is served; or the line before it could not be reported; or memory ran out, and it was not begun.
  abbrev pub EndsParts : Place D S K → Status → Place D S K → Type 0
  EndsParts old by new = ServesPart old by next.End new ⊎ Untold old by new ⊎ ((by ≡ status.NoMemory) × (new.disk ≡ old.disk) × (new.source ≡ old.source) × (new.sink ≡ old.sink))

  -- A session of some parts.
  pub record ServesParts (old : Place D S K) (by : Status) (new : Place D S K) : Type 0 where
    pub count : ℕ
    pub last : Place D S K
    pub parts : Parts count old last
    pub ends : EndsParts last by new
