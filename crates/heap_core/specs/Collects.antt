-- What the answer to an event says of the collection that is under way.
use Rattle.std.specs.Prelude.{◌≡◌, ◌≢◌, ℕ, ◌≤◌, List, length, true, is_some}
use Rattle.std.specs.List.{AllByRecursion}
use Rattle.graph_model.specs.declared.event.Event.{Event}
use Rattle.graph_model.specs.declared.event.Event.TheVariants.{Flip, Scan}
use Rattle.graph_model.specs.declared.id.Id.{Id}
use Rattle.graph_model.specs.declared.reply.Reply.{Reply}
use Rattle.graph_model.specs.declared.reply.Reply.TheVariants as reply
use Rattle.graph_model.specs.Canon.{Reached}
use Rattle.graph_model.specs.History.{IsOfSession}
use Rattle.graph_words.specs.Places.{address_of}
use Rattle.log_records.specs.declared.Record.{Record}
use Rattle.heap_model.specs.Collecting.{copied_in, words_copied}
use Rattle.heap_model.specs.Core.{Core, IsRun, after, answer}
use Rattle.core_laws.specs.Valid.{IsReached}
use Rattle.limit_laws.specs.Bytes.{appended}
use Rattle.limit_laws.specs.Copies.{CopiesJust, IsIdle, copied_since, sealed_graph}
use Rattle.limit_laws.specs.Progress.{BeganNone}

-- A collection began in c, and events of sessions have led from there to d, with no other collection begun. It may have ended by then.
pub record IsUnderWay (c d : Core) : Type 0 where
  pub objects : ℕ
  pub words : ℕ
  pub flipped : answer c Flip ≡ reply.Flipped objects words
  pub events : List Event
  pub sessions : AllByRecursion IsOfSession events
  pub run : IsRun (after c Flip) events d
  pub alone : BeganNone (after c Flip) d

-- Events of sessions have led here from where no transaction was active, as an opening leaves a heap.
pub record BeganIdle (c : Core) : Type 0 where
  pub first : Core
  pub reached : IsReached first
  pub idle : IsIdle first
  pub events : List Event
  pub sessions : AllByRecursion IsOfSession events
  pub run : IsRun first events c

-- the records that an event appends
abbrev pub appended_by : Core → Event → List Record
appended_by d event = appended d (after d event)

-- All that a collection that began in c has copied up to d was reached at its flip.
abbrev pub CopiesNoGarbage : Core → Core → Type 0
CopiesNoGarbage c d = (id : Id) → is_some (address_of (copied_since c d) id) ≡ true → Reached (sealed_graph c) id

-- A scan of d is answered so. The answer says how many objects it copied, and of how many words. What a collection that began since the opening has
-- copied, before this scan and with it, was reached at its flip from the root, in the graph that the sealed transactions had left then, whichever were
-- active; and if the scan ends it, exactly that has been copied, and all that is in use is the copies and what became stable since.
pub record ScansAsTold (d : Core) (answered : Reply) : Type 0 where
  pub told : (page objects words : ℕ) → answered ≡ reply.Scanned page objects words → (objects ≡ length (copied_in (appended_by d Scan))) × (words ≡ words_copied (appended_by d Scan))
  pub within : (c : Core) → BeganIdle c → IsUnderWay c d → CopiesNoGarbage c d × CopiesNoGarbage c (after d Scan)
  pub exact : (c : Core) (used : ℕ) → BeganIdle c → IsUnderWay c d → answered ≡ reply.Collected used → CopiesJust c d used

-- An event of d is answered so. Each but a flip copied at most 576 objects, with the scan that comes before a field is read or written.
pub record CollectsAsTold (d : Core) (event : Event) (answered : Reply) : Type 0 where
  pub few : event ≢ Flip → length (copied_in (appended_by d event)) ≤ 576
  pub scan : event ≡ Scan → ScansAsTold d answered
