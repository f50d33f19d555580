-- What a format makes of a disk, and what is answered.
use Rattle.std.specs.Prelude.{◌≡◌, ◌<◌, ◌≤◌, Result, Ok, Err, IfErr, OnOk}
use Rattle.disk_model.specs.declared.disk.Disk.{Ghosts}
use Rattle.disk_model.specs.Disk.{Only, SameOutside}
use Rattle.disk_model.specs.Keeps.{KeepsDisk}
use Rattle.disk_model.specs.Moments.{LeavesOnly}
use Rattle.heap_core.specs.Format.{IsEmptyHeap, IsFormatting}
use Rattle.heap_core.specs.GivenBack.{made_device, IsFromDisk}
use Rattle.heap_core.specs.declared.errors.FormatError.{FormatError}
use Rattle.heap_core.specs.declared.errors.FormatError.TheVariants.{TooSmall}
use Rattle.heap_model.specs.Image.{IsLegal}
use Rattle.heap_model.specs.NewHeap.{new_heap}
use Rattle.image_plan.specs.declared.superblock.Super.{Super}
use Rattle.image_plan.specs.Plan.{image_size}
use Rattle.heap_embed.specs.declared.answer.Answer.{Answer}
use Rattle.heap_embed.specs.declared.answer.Answer.TheVariants as answer
use Rattle.heap_embed.specs.Told.{format_answer}

-- the answer to a format, by its outcome
abbrev pub made_answer : Result (Unit {0}) FormatError → Answer
made_answer (Ok made) = answer.Done
made_answer (Err e) = format_answer e

-- A heap with these numbers was to be made on a disk. One that is too small is as it was. One that is large enough has an empty heap then, unless the
-- disk failed; at each moment of it a crash leaves no heap, the old image or the empty heap, and each byte past the plan as it was.
pub record WasFormatted {D : Type 0} (g : Ghosts D) (of : Super) (before : D) (answered : Answer) (now : D) : Type 0 where
  pub outcome : Result (Unit {0}) FormatError
  pub says : answered ≡ made_answer outcome
  pub small : g.extent before < image_size of.pages of.log_bytes → (outcome ≡ Err (TooSmall (g.extent before) (image_size of.pages of.log_bytes))) × (now ≡ before)
  pub large : image_size of.pages of.log_bytes ≤ g.extent before → IfErr outcome IsFromDisk
  pub disk : KeepsDisk g before now (made_device outcome)
  pub made : OnOk outcome (IsLegal (new_heap of) (g.bytes now) × Only (g.bytes now) (g.may_leave now))
  pub empty : OnOk outcome (IsEmptyHeap of (g.bytes now))
  pub outside : OnOk outcome (SameOutside 0 (image_size of.pages of.log_bytes) (g.bytes before) (g.bytes now))
  pub moments : Only (g.bytes before) (g.may_leave before) → LeavesOnly g.moment g.left_since before now (IsFormatting of (g.bytes before))
  pub moments_outside : Only (g.bytes before) (g.may_leave before) → LeavesOnly g.moment g.left_since before now (SameOutside 0 (image_size of.pages of.log_bytes) (g.bytes before))
