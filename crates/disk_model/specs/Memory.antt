-- The disk in memory, as its callers see it: what it began with, and each change since.
use Rattle.std.specs.Prelude.{◌≡◌, ℕ, ◌+◌, ◌-◌, ◌≤◌, ◌==◌, Bool, false, ◌&&◌, ◌||◌, nat_lt, nat_le, if◌then◌else◌, List, [], ◌∷◌, ◌++◌, length, map, take, replicate, slice_index, Result, Ok, Err}
use Rattle.std.specs.List.{range_with_len, list_any}
use Rattle.counts.specs.Count.{raised}
use Rattle.disk_model.specs.Disk.{overwrite}
use Rattle.disk_model.specs.declared.disk.DiskError.{DiskError}
use Rattle.disk_model.specs.declared.disk.DiskError.TheVariants.{Failed}
use Rattle.disk_model.specs.declared.memory.Pick.{Pick}
use Rattle.disk_model.specs.declared.memory.Pick.TheVariants.{Synced, Newest, AllOnes, AllOpen}

-- what changes the bytes, or what a crash leaves of them: a write of bytes at an offset, a sync, a restart
pub data Change : Type 0 where
  Write : ℕ → List ℕ → Change
  Sync : Change
  Restart : Change

-- the newest bytes, those of the last sync or restart, and the ranges written since, as offset and length
pub record Contents : Type 0 where
  pub newest : List ℕ
  pub synced : List ℕ
  pub pending : List (ℕ × ℕ)

-- the number of a pick
abbrev pub pick_number : Pick → ℕ
pick_number Synced = 0
pick_number Newest = 1
pick_number AllOnes = 2
pick_number AllOpen = 3

-- whether a place is in the range
unfoldable pub is_in : ℕ × ℕ → ℕ → Bool
is_in range k = nat_le range.0 k && nat_lt k (range.0 + range.1)

-- whether a place is in one of the ranges
abbrev pub is_within : List (ℕ × ℕ) → ℕ → Bool
is_within [] k = false
is_within (range ∷ ranges) k = is_in range k || is_within ranges k

-- the bytes of one image within the ranges, and those of another elsewhere
unfoldable pub blended : List (ℕ × ℕ) → List ℕ → List ℕ → List ℕ
blended ranges inside outside = map (λ k. if is_within ranges k then slice_index inside k else slice_index outside k) (range_with_len 0 (length outside))

-- what a crash leaves of these contents, by the pick
abbrev pub left_by : Pick → Contents → List ℕ
left_by Synced at = blended at.pending at.synced at.newest
left_by Newest at = at.newest
left_by AllOnes at = blended at.pending (replicate (length at.newest) 255) at.newest
left_by AllOpen at = blended at.pending (replicate (length at.newest) 1) at.newest

-- the same bytes everywhere, and nothing pending
abbrev pub settled_as : List ℕ → Contents
settled_as image = record { newest = image; synced = image; pending = [] }

-- the contents after one more change
abbrev pub after : Pick → Contents → Change → Contents
after pick at (Write offset bytes) = record { newest = overwrite at.newest offset bytes; synced = at.synced; pending = at.pending ++ (offset, length bytes) ∷ [] }
after pick at Sync = settled_as at.newest
after pick at Restart = settled_as (left_by pick at)

-- the contents after all of these changes
abbrev pub after_all : Pick → Contents → List Change → Contents
after_all pick at [] = at
after_all pick at (change ∷ changes) = after_all pick (after pick at change) changes

-- A crash may leave any bytes in the ranges that are pending.
pub record MayLeave (at : Contents) (image : List ℕ) : Type 0 where
  pub size : length image ≡ length at.newest
  pub same : (k : ℕ) → is_within at.pending k ≡ false → slice_index image k ≡ slice_index at.newest k

-- A disk in memory: the bytes that it was made of, or began anew with, its changes, how a restart picks, the bytes of its record that are
-- free, and all that it has, the numbers of the writes and syncs and of the reads that fail, and its counts.
pub record Memory : Type 0 where
  pub first : List ℕ
  pub changes : List Change
  pub pick : Pick
  pub room : ℕ
  pub whole : ℕ
  pub fail_writes : List ℕ
  pub fail_reads : List ℕ
  pub passed : ℕ
  pub reads : ℕ
  pub faults : ℕ
  pub restarts : ℕ

-- a disk that was just made, with nothing pending
abbrev pub made : List ℕ → Pick → ℕ → List ℕ → List ℕ → Memory
made bytes pick room fail_writes fail_reads = record { first = bytes; changes = []; pick = pick; room = room; whole = room; fail_writes = fail_writes; fail_reads = fail_reads; passed = 0; reads = 0; faults = 0; restarts = 0 }

-- the contents of a disk that began with these bytes, after these changes
unfoldable pub contents_of : Pick → List ℕ → List Change → Contents
contents_of pick first changes = after_all pick (settled_as first) changes

-- what it held after its first k changes
abbrev pub at_moment : Memory → ℕ → Contents
at_moment disk k = contents_of disk.pick disk.first (take k disk.changes)

-- how many changes it has had
abbrev pub changes_of : Memory → ℕ
changes_of disk = length disk.changes

-- what it holds now
abbrev pub now_of : Memory → Contents
now_of disk = contents_of disk.pick disk.first disk.changes

-- a crash since that moment might have left this
abbrev pub MightHaveLeft : Memory → ℕ → List ℕ → Type 0
MightHaveLeft disk moment image = (k : ℕ) × (moment ≤ k) × (k ≤ changes_of disk) × MayLeave (at_moment disk k) image

-- whether a number is listed
abbrev pub is_listed : List ℕ → ℕ → Bool
is_listed numbers n = list_any (λ x. x == n) numbers

-- what a write of that many bytes takes of the record's room: its own entry, and that of the sync or restart after it
abbrev pub cost : ℕ → ℕ
cost n = 64 + n

-- a write fails if its number is listed, or the record has no room for it
abbrev pub write_fails : Memory → ℕ → Bool
write_fails disk n = is_listed disk.fail_writes (raised disk.passed) || nat_lt disk.room (cost n)

-- a sync fails if its number is listed
abbrev pub sync_fails : Memory → Bool
sync_fails disk = is_listed disk.fail_writes (raised disk.passed)

-- a read fails if its number is listed
abbrev pub read_fails : Memory → Bool
read_fails disk = is_listed disk.fail_reads (raised disk.reads)

-- the answer of a call, which fails or not
abbrev pub answer : Bool → Result (Unit {0}) DiskError
answer fails = if fails then Err Failed else Ok tt

-- one more change
abbrev pub changed : Memory → Change → Memory
changed disk change = record disk { changes = disk.changes ++ change ∷ [] }

-- one more write, which takes of the record's room
abbrev pub with_write : Memory → ℕ → List ℕ → Memory
with_write disk offset bytes = record (changed disk (Write offset bytes)) { room = disk.room - cost (length bytes) }

-- a sync or a restart: no change where nothing is pending
abbrev pub settled : Memory → Change → Memory
settled disk change = if length (now_of disk).pending == 0 then disk else changed disk change

-- the count of faults after a call that fails or not
abbrev pub faults_after : Memory → Bool → ℕ
faults_after disk fails = if fails then raised disk.faults else disk.faults

-- after a write that fails or not
abbrev pub written : Bool → Memory → ℕ → List ℕ → Memory
written fails disk offset bytes =
    let next = (if fails then disk else with_write disk offset bytes) in
    record next { passed = raised disk.passed; faults = faults_after disk fails }

-- after a write
abbrev pub after_write : Memory → ℕ → List ℕ → Memory
after_write disk offset bytes = written (write_fails disk (length bytes)) disk offset bytes

-- after a sync that fails or not
abbrev pub synced_if : Bool → Memory → Memory
synced_if fails disk =
    let next = (if fails then disk else settled disk Sync) in
    record next { passed = raised disk.passed; faults = faults_after disk fails }

-- after a sync
abbrev pub after_sync : Memory → Memory
after_sync disk = synced_if (sync_fails disk) disk

-- after a read
abbrev pub after_read : Memory → Memory
after_read disk = record disk { reads = raised disk.reads; faults = faults_after disk (read_fails disk) }

-- after a restart
abbrev pub after_restart : Memory → Memory
after_restart disk = record (settled disk Restart) { restarts = raised disk.restarts }

-- after its record was forgotten: it began anew with its bytes
abbrev pub begun_anew : Memory → Memory
begun_anew disk = record disk { first = (now_of disk).newest; changes = []; room = disk.whole }
