-- What a crash leaves of an open heap.
use Rattle.std.proofs.Common.{◌≡◌, ℕ, List, Option, Some, None, refl, sym, ◌∙◌}
use Rattle.graph_model.specs.History.{account}
use Rattle.image_plan.specs.declared.superblock.Super.{Super}
use Rattle.heap_model.specs.Core.{Core}
use Rattle.heap_model.specs.CoreCrash.{IsCommitPrefix}
use Rattle.core_laws.specs.Valid.{IsSound}
use Rattle.heap_core.specs.Refinement.{DiskHolds}
use Rattle.heap_engine.specs.Refinement.{IsLeftByStep}
use Rattle.heap_engine.proofs.EventCore.{disk_leaves}

module _ (s : Super) (c : Core) (image : List ℕ) (may_leave : List ℕ → Type 0) (holds : DiskHolds s c image may_leave) (sound : IsSound c) where
  leaves_as : (o : Option ℕ) → (account c.history).failed ≡ o → (d : List ℕ) → may_leave d → IsLeftByStep c image d
  leaves_as None is d left = disk_leaves s c image may_leave (holds.unfailed is) sound d left
  leaves_as (Some entry) is d left = holds.failed (λ none. let never : None ≡ Some entry = sym none ∙ is in cc) d left

  -- a crash leaves a commit prefix of the heap, and the bytes past the plan
  pub heap_left : (d : List ℕ) → may_leave d → IsLeftByStep c image d
  heap_left d left = leaves_as (account c.history).failed refl d left

  pub heap_keeps : (d : List ℕ) → may_leave d → IsCommitPrefix c d
  heap_keeps d left = (heap_left d left).commits
