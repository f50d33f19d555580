-- Why a play on a new heap, by its workers or not, ends as it does.
use Rattle.std.specs.Prelude.{◌≡◌, ℕ, ◌<◌}
use Rattle.image_plan.specs.Plan.{image_size}
use Rattle.heap_program.specs.declared.playing.TheConstants.{LOG_BYTES}
use Rattle.heap_program.specs.declared.status.Status.{Status}
use Rattle.heap_program.specs.declared.status.Status.TheVariants.{Done, NoMemory, Script, ReadFault, WriteFault, DiskFault, TooSmall}

module _ (size pages : ℕ) (bad : ℕ → Type 0) (source sink disk : Type 0) where
  -- What is so if a play on a new heap of that many pages ends with a status, on a disk of that size: that line of the script is bad; the source,
  -- the sink or the disk failed; or the disk is too small for the heap.
  abbrev pub EndsPlay : Status → Type 0
  EndsPlay Done = Unit {0}
  EndsPlay NoMemory = Unit {0}
  EndsPlay (Script line) = bad line
  EndsPlay ReadFault = source
  EndsPlay WriteFault = sink
  EndsPlay DiskFault = disk
  EndsPlay (TooSmall is need) = (is ≡ size) × (need ≡ image_size pages LOG_BYTES) × (is < need)
  EndsPlay status = ⊥
