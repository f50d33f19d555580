-- What each run of a heap that was just opened keeps to, whatever its disk: its ends never lack room, and a collection copies exactly what it has to, a
-- little at a time, takes few bytes of the log, and ends.
use Rattle.std.specs.Prelude.{◌≡◌, ◌≢◌, ℕ, ◌+◌, ◌*◌, ◌≤◌, List, ◌∷◌, ◌++◌, length, sum_by}
use Rattle.graph_model.specs.declared.event.Event.{Event}
use Rattle.graph_model.specs.declared.event.Event.TheVariants.{Flip, Scan}
use Rattle.graph_model.specs.declared.reply.Reply.{Reply}
use Rattle.graph_model.specs.declared.reply.Reply.TheVariants as reply
use Rattle.graph_model.specs.History.{account}
use Rattle.graph_model.specs.Plain.{refusal_of, reply_of}
use Rattle.heap_model.specs.Collecting.{copied_in, words_copied}
use Rattle.heap_model.specs.Core.{Core, IsStep, IsRun, after, answer, log_refusal}
use Rattle.core_laws.specs.Unseen.{since}
use Rattle.limit_laws.specs.Bytes.{appended, bytes_of, led_by, moved_by_record}
use Rattle.limit_laws.specs.Copies.{CopiesJust}
use Rattle.limit_laws.specs.Progress.{BeganNone, GoesThrough, IsCollecting, scanned_pages}
use Rattle.limit_laws.specs.Room.{IsEnd}
use Rattle.heap_core.specs.Collects.{CopiesNoGarbage}
use Rattle.heap_core.specs.Ending.{EndsAsTold}

-- A step of a run: the events before it led to c, the next one was answered so there, and those after it led to the last core.
pub record IsStepIn (first : Core) (made : List Event) (last c : Core) (event : Event) (answered : Reply) : Type 0 where
  pub before : List Event
  pub behind : List Event
  pub parts : made ≡ before ++ event ∷ behind
  pub led : IsRun first before c
  pub next : Core
  pub step : IsStep c event answered next
  pub leads : IsRun next behind last

-- In a run of these events a collection began in c, and those after its flip led to d, with no other begun.
pub record IsUnderWayIn (first : Core) (events : List Event) (c d : Core) : Type 0 where
  pub before : List Event
  pub since : List Event
  pub parts : events ≡ before ++ Flip ∷ since
  pub led : IsRun first before c
  pub objects : ℕ
  pub words : ℕ
  pub flipped : answer c Flip ≡ reply.Flipped objects words
  pub leads : IsRun (after c Flip) since d
  pub alone : BeganNone (after c Flip) d

-- What a collection appends from c to d takes at most 16 bytes for each word that it copies, 12 for each reference that a scan redirects to the current
-- space, and 6 to begin and to end. The gates and lengths of batches are not counted.
abbrev pub TakesFewBytes : Core → Core → Type 0
TakesFewBytes c d = sum_by bytes_of (appended c d) ≤ 16 * sum_by moved_by_record (appended c d) + 12 * sum_by led_by (appended c d) + 6

-- A scan of d is answered as one that ends a collection, unless the disk failed before, or the log has no room for the end.
abbrev pub EndsCollection : Core → Reply → Type 0
EndsCollection d answered = (used : ℕ) × (answered ≡ reply_of (refusal_of (account d.history).failed (log_refusal d Scan)) (reply.Collected used))

-- A scan while a collection runs goes over a page, or ends the collection, or is refused.
abbrev pub GoesOn : Reply → Type 0
GoesOn (reply.Scanned page objects words) = Unit {0}
GoesOn (reply.Collected used) = Unit {0}
GoesOn (reply.Refused why) = Unit {0}
GoesOn answered = ⊥

-- Events led from a core that was just opened to the last one, and each step of that run kept to this.
pub record KeepsLimits (first : Core) (made : List Event) (last : Core) : Type 0 where
  -- an abort, a force, and a seal that makes no object stable
  pub ends : (c : Core) (event : Event) (answered : Reply) → IsStepIn first made last c event answered → IsEnd c event → EndsAsTold c event answered
  -- all but a flip copy few objects, with the scan that comes before a field is read or written; the answer to a scan says how many, and of how many words
  pub few : (c : Core) (event : Event) (answered : Reply) → (here : IsStepIn first made last c event answered) → event ≢ Flip → length (copied_in (appended c here.next)) ≤ 576
  pub told : (c : Core) (page objects words : ℕ) → (here : IsStepIn first made last c Scan (reply.Scanned page objects words)) → (objects ≡ length (copied_in (appended c here.next))) × (words ≡ words_copied (appended c here.next))
  -- What a collection has copied was reached at its flip from the root, in the graph that the sealed transactions had left then, whichever were active;
  pub within : (c d : Core) (events behind : List Event) → made ≡ events ++ behind → IsUnderWayIn first events c d → CopiesNoGarbage c d
  -- if a scan ends it, exactly that has been copied, and all that is in use is the copies and what became stable since.
  pub exact : (c d : Core) (used : ℕ) → (here : IsStepIn first made last d Scan (reply.Collected used)) → IsUnderWayIn first here.before c d → CopiesJust c d used
  -- while no collection begins, scans go once through the pages
  pub pages : (c d : Core) (before between behind : List Event) → made ≡ before ++ between ++ behind → IsRun first before c → IsRun c between d → BeganNone c d → GoesThrough c d
  -- none of them is idle while a collection runs, so of one more scan than a space has pages one ends it or is refused;
  pub goes_on : (d : Core) (answered : Reply) → IsStepIn first made last d Scan answered → IsCollecting d → GoesOn answered
  -- and where one runs when as many scans went over a page as a space has pages, the next scan ends it
  pub ended : (c d : Core) (before between : List Event) (answered : Reply) → (here : IsStepIn first made last d Scan answered) → here.before ≡ before ++ between → IsRun first before c → IsRun c between d
      → BeganNone c d → IsCollecting d → c.pages ≤ length (scanned_pages (since c d)) → EndsCollection d answered
  -- from its flip until another begins, a collection takes few bytes of the log
  pub bytes : (c d : Core) (events behind : List Event) → made ≡ events ++ behind → IsUnderWayIn first events c d → TakesFewBytes c d
