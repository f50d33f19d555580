-- What a run says against an image that can't be opened, and does to it.
use Rattle.std.specs.Prelude.{◌≡◌, ◌≢◌, ◌≤◌, List, ℕ, IsTrue}
use Rattle.counts.specs.Count.{Rose, counted}
use Rattle.disk_model.specs.declared.disk.Disk.{Ghosts}
use Rattle.disk_model.specs.Disk.{Only}
use Rattle.disk_model.specs.Keeps.{SameContents}
use Rattle.disk_model.specs.Moments.{LeavesOnly}
use Rattle.heap_model.specs.Opening.{opening_calls}
use Rattle.heap_recovery.specs.Faults.{IsNoHeap, IsFaultAt, IsLeftOf}
use Rattle.heap_recovery.specs.declared.at.At.TheVariants.{Address}
use Rattle.heap_program.specs.Headline.{OfTold, BlamesNoImage, RestartsDisk}
use Rattle.heap_program.specs.declared.status.Status.{Status}
use Rattle.heap_program.specs.declared.status.Status.TheVariants as status

-- The image is to be refused with this status: it is no heap, or the first fault in it is that damage.
abbrev pub IsFault : Status → List ℕ → Type 0
IsFault status.NotHeap image = IsNoHeap image
IsFault (status.Damaged at) image = IsFaultAt at image
IsFault s image = ⊥

-- The image is damaged at an address: its log can be read, and its words are no objects there.
abbrev pub IsWordFault : List ℕ → Type 0
IsWordFault image = (address : ℕ) × IsFaultAt (Address address) image

-- the writes and syncs of an opening of such an image
abbrev pub fault_calls : {image : List ℕ} → IsWordFault image → ℕ
fault_calls fault = opening_calls fault.1.0

-- A run made the writes and syncs of one opening, which are n: all of them if it reports the damage, no more of them if the disk
-- failed, and otherwise none.
abbrev pub CallsOfOneOpening : ℕ → ℕ → ℕ → Status → Type 0
CallsOfOneOpening n before now (status.Damaged at) = now ≡ counted n before
CallsOfOneOpening n before now status.DiskFault = (k : ℕ) × (k ≤ n) × (now ≡ counted k before)
CallsOfOneOpening n before now result = now ≡ before

-- A run made no more writes and syncs than one opening, which makes n, if it reports what is damaged there or the disk failed, and none otherwise.
abbrev pub CallsAtMostOneOpening : ℕ → ℕ → ℕ → Status → Type 0
CallsAtMostOneOpening n before now (status.Damaged at) = now ≤ counted n before
CallsAtMostOneOpening n before now status.DiskFault = now ≤ counted n before
CallsAtMostOneOpening n before now result = now ≡ before

-- A status that speaks of the image is true of it.
abbrev pub IsToldOf : Status → List ℕ → Type 0
IsToldOf status.NotHeap image = IsNoHeap image
IsToldOf (status.Damaged at) image = IsFaultAt at image
IsToldOf s image = Unit {0}

-- A status that speaks of an image is true of each image that a crash may leave.
abbrev pub IsToldOfEach : Status → (List ℕ → Type 0) → Type 0
IsToldOfEach s may_leave = (image : List ℕ) → may_leave image → IsToldOf s image

-- A run ends so on an image that is to be refused, unless its script was bad or could not be read before, memory ran out, or the disk failed.
abbrev pub EndsRefused : Status → Status → Type 0
EndsRefused expected (status.Script line) = Unit {0}
EndsRefused expected status.ReadFault = Unit {0}
EndsRefused expected status.NoMemory = Unit {0}
EndsRefused expected status.DiskFault = Unit {0}
EndsRefused expected result = result ≡ expected

-- The statuses against an image that come before anything is written. Damage at an address is reported after the rollback.
abbrev pub IsLeftAlone : Status → Type 0
IsLeftAlone status.NotHeap = Unit {0}
IsLeftAlone (status.Damaged (Address address)) = ⊥
IsLeftAlone (status.Damaged at) = Unit {0}
IsLeftAlone s = ⊥

-- The disk is as it was: nothing was written, and it was not restarted.
pub record LeavesAlone {D : Type 0} (g : Ghosts D) (old new : D) : Type 0 where
  pub contents : SameContents g old new
  pub restarts : g.restarts new ≡ g.restarts old

-- At each moment a crash leaves such an image with the same fault.
pub record KeepsFault {D : Type 0} (g : Ghosts D) (old new : D) : Type 0 where
  pub keeps_fault : (expected : Status) → IsFault expected (g.bytes old) → LeavesOnly g.moment g.left_since old new (IsFault expected)
  -- One that is damaged at an address keeps its log, or has that log rolled back, and each byte outside of the log is as it was.
  pub keeps_log : IsWordFault (g.bytes old) → LeavesOnly g.moment g.left_since old new (IsLeftOf (g.bytes old))

-- What a run says of the image of a disk, and does to it if it can't be opened. If `own` holds, the run opens that image, and else it makes a heap
-- first; it is to restart the disk as often as `asked` says, after a stop; and where it was `silent`, nothing was written.
pub record AnswersImage {D : Type 0} (g : Ghosts D) (own : Type 0) (asked : ℕ) (old new : D) (result : Status) (silent : Type 0) : Type 0 where
  -- Which images are no heap or damaged, and where: such an image gives its own status, with nothing written. With a stop that asks for a disk on
  -- which nothing is unsynced.
  pub refuses : IsTrue g.tells → (asked ≢ 0 → Only (g.bytes old) (g.may_leave old)) → own → (expected : Status) → IsFault expected (g.bytes old) → EndsRefused expected result × silent
  -- Each status against an image is true of it, unless the disk was restarted, which only a stop asks for.
  pub refused : IsTrue g.tells → own → (Rose (g.restarts old) (g.restarts new) → asked ≡ 0) → IsToldOf result (g.bytes old)
  -- With a stop too, such a status is true of the disk that is given back: of what it reads as, and of each image that a crash may leave.
  pub refused_at_end : OfTold g.tells (g.bytes old) (g.may_leave old) (IsToldOfEach result (g.may_leave new))
  -- A heap that the run makes is never refused.
  pub sound : OfTold g.tells (g.bytes old) (g.may_leave old) (¬ own → BlamesNoImage result)
  -- On any disk, without a stop a status against the image comes before anything is written.
  pub unwritten : asked ≡ 0 → ¬ BlamesNoImage result → silent
  -- An image that is no heap, or is damaged but not at an address, is left as it was, whatever the end: no stop that is asked for comes in its opening.
  pub left_alone : IsTrue g.tells → own → (expected : Status) → IsFault expected (g.bytes old) → IsLeftAlone expected → LeavesAlone g old new
  pub keeps : OfTold g.tells (g.bytes old) (g.may_leave old) (own → KeepsFault g old new)
  -- Where no stop was asked, a run makes the writes and syncs of one opening of it: all if it reports the damage, and no more if the disk fails.
  pub opens_once : IsTrue g.tells → own → asked ≡ 0 → (fault : IsWordFault (g.bytes old)) → CallsOfOneOpening (fault_calls fault) (g.passed old) (g.passed new) result
  -- With a stop too it makes no more of them, unless the disk was restarted, and none if memory runs out.
  pub opens_few : IsTrue g.tells → own → (Rose (g.restarts old) (g.restarts new) → asked ≡ 0) → (fault : IsWordFault (g.bytes old)) → CallsAtMostOneOpening (fault_calls fault) (g.passed old) (g.passed new) result
  -- How often the disk was restarted, however it ends.
  pub restarts : IsTrue g.tells → RestartsDisk asked result (g.restarts old) (g.restarts new)

-- What a run says of the images that a crash may leave of a stopped disk, when it has restarted that: the same, if each of them has the same fault.
pub record AnswersLeft {D : Type 0} (g : Ghosts D) (asked : ℕ) (old new : D) (result : Status) (silent : Type 0) : Type 0 where
  pub refuses : (expected : Status) → ((image : List ℕ) → g.may_leave old image → IsFault expected image) → EndsRefused expected result × silent
  pub refused_at_end : IsToldOfEach result (g.may_leave new)
  pub keeps_fault : (expected : Status) → ((image : List ℕ) → g.may_leave old image → IsFault expected image) → LeavesOnly g.moment g.left_since old new (IsFault expected)
  pub keeps_log : (image : List ℕ) → IsWordFault image → ((left : List ℕ) → g.may_leave old left → IsLeftOf image left) → LeavesOnly g.moment g.left_since old new (IsLeftOf image)
  pub restarts : RestartsDisk asked result (g.restarts old) (g.restarts new)
