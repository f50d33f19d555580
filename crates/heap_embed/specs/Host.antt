-- What a file holds whose host makes, in their order, the changes that a disk in memory tells.
use Rattle.std.specs.Prelude.{◌≡◌, ℕ, ◌+◌, ◌*◌, ◌≤◌, ◌⊎◌, List, [], length, min, take}
use Rattle.counts.specs.Count.{greatest}
use Rattle.disk_model.specs.Memory.{Memory, Change, MayLeave, contents_of, made}
use Rattle.disk_model.specs.declared.memory.Pick.TheVariants.{Newest}

-- The host has made k of the changes, and perhaps begun the next one: a crash may leave this.
abbrev pub HostMayLeave : List ℕ → List Change → ℕ → List ℕ → Type 0
HostMayLeave first changes k image = MayLeave (contents_of Newest first (take k changes)) image ⊎ ((k + 1 ≤ length changes) × MayLeave (contents_of Newest first (take (k + 1) changes)) image)

-- what the record has room for: these bytes told twice, and 1 MiB more
abbrev pub room_for : List ℕ → ℕ
room_for bytes = min (2 * length bytes + 1048576) greatest

-- a disk that was made of these bytes, has told nothing, and fails only where its record has no room
abbrev pub begins_with : List ℕ → Memory → Type 0
begins_with bytes disk = disk ≡ made bytes Newest (room_for bytes) [] []
