-- What a host is told of a change of the disk, and of an opening or a format that failed.
use Rattle.std.specs.Prelude.{ℕ, ◌+◌, List, [], ◌∷◌, length, slice_index}
use Rattle.std.specs.Int.{w64, from_le_bytes}
use Rattle.disk_model.specs.Memory.{Change, Write, Sync, Restart}
use Rattle.heap_core.specs.declared.errors.FormatError.{FormatError}
use Rattle.heap_core.specs.declared.errors.FormatError.TheVariants as making
use Rattle.heap_core.specs.declared.errors.OpenError.{OpenError}
use Rattle.heap_core.specs.declared.errors.OpenError.TheVariants as opening
use Rattle.heap_embed.specs.declared.answer.Answer.{Answer}
use Rattle.heap_embed.specs.declared.answer.Answer.TheVariants as answer

-- A write is told with its place and its length. A restart that picks the newest bytes is as a sync.
abbrev pub change_answer : Change → Answer
change_answer (Write at bytes) = answer.Write at (length bytes)
change_answer Sync = answer.Sync
change_answer Restart = answer.Sync

-- the bytes that a change writes: none where it is no write
abbrev pub bytes_told : Change → List ℕ
bytes_told (Write at bytes) = bytes
bytes_told Sync = []
bytes_told Restart = []

-- why a heap could not be opened
abbrev pub open_answer : OpenError → Answer
open_answer opening.NoMemory = answer.NoMemory
open_answer opening.NotHeap = answer.NotHeap
open_answer (opening.Damaged at) = answer.Damaged at
open_answer opening.DiskFault = answer.Failed
open_answer opening.Stopped = answer.Failed

-- why an empty heap could not be made
abbrev pub format_answer : FormatError → Answer
format_answer (making.TooSmall size need) = answer.TooSmall size need
format_answer making.DiskFault = answer.Failed
format_answer making.Stopped = answer.Failed

-- eight bytes from a place on, the lowest first, with zeros past the end
abbrev pub word_of : List ℕ → ℕ → ℕ
word_of bytes from =
    from_le_bytes w64
    (slice_index bytes from ∷ slice_index bytes (from + 1) ∷ slice_index bytes (from + 2) ∷ slice_index bytes (from + 3) ∷ slice_index bytes (from + 4) ∷ slice_index bytes (from + 5) ∷ slice_index bytes (from + 6) ∷ slice_index bytes (from + 7) ∷ [])
