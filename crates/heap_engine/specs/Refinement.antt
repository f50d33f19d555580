-- When an engine and its disk are a core, and the outcome of an event on them.
use Rattle.std.specs.Prelude.{◌≡◌, ◌<◌, IsTrue, ℕ, List, length, is_some, None, Result, Ok, Err, OnOk, ⊤}
use Rattle.disk_model.specs.Disk.{Only, SameOutside}
use Rattle.disk_model.specs.Moments.{LeavesOnly}
use Rattle.disk_model.specs.declared.disk.Disk.{Ghosts}
use Rattle.graph_model.specs.declared.event.Event.{Event}
use Rattle.graph_model.specs.declared.reply.Reply.{Reply}
use Rattle.graph_model.specs.History.{account}
use Rattle.image_plan.specs.declared.superblock.Super.{Super}
use Rattle.image_plan.specs.Plan.{image_size}
use Rattle.core_laws.specs.Valid.{IsReached}
use Rattle.heap_memory.specs.Memory.{Memory, own}
use Rattle.heap_model.specs.Core.{Core, answer, after, calls, cut}
use Rattle.heap_model.specs.CoreCrash.{held_of, IsLogged, IsSuperOf, IsCommitPrefix}
use Rattle.heap_model.specs.Image.{Holds}
use Rattle.memory_laws.specs.CoreMemory.{IsMemory}
use Rattle.page_redo.specs.Pages.{Pages}
use Rattle.page_store.specs.Gates.{open_gates}
use Rattle.page_store.specs.StoreState.{Knows}
use Rattle.heap_engine.specs.declared.engine.Engine.{Engine}
use Rattle.heap_engine.specs.declared.step_error.StepError.{StepError}
use Rattle.heap_engine.specs.declared.step_error.StepError.TheVariants.{NoMemory, Disk}
use Rattle.heap_engine.specs.EngineState.{memory}
use Rattle.heap_engine.specs.StepResult.{StepPasses}

-- Of each page it is known in memory which frame counts in an image, and by a core how many gates are open there.
pub record KnowsPages (c : Core) (m : Memory) (image : List ℕ) : Type 0 where
  pub frames : Knows m.store image
  pub gates : (p : ℕ) → open_gates c.room image p ≡ c.gates p

-- A modelled disk holds a core: its batches, and pages that hold as many of its records as their LSNs say. A crash can leave nothing else. The
-- names of its objects are their births.
pub record OnDisk (s : Super) (c : Core) (image : List ℕ) (may_leave : List ℕ → Type 0) : Type 0 where
  pub of : IsSuperOf s c
  pub born : IsTrue c.born
  pub stored : Pages
  pub logged : IsLogged c stored
  pub held : Holds (held_of s c stored) image
  pub only : Only image may_leave

-- an image that has each byte past the plan of a core's heap as it was in another
abbrev pub SameBehind : Core → List ℕ → List ℕ → Type 0
SameBehind c old image = SameOutside 0 (image_size c.pages c.room) old image

-- What a crash leaves of an image at a moment of an event: a commit prefix of a core with all that were acknowledged or forced before, and the
-- bytes past its plan.
pub record IsLeftByStep (c : Core) (old image : List ℕ) : Type 0 where
  pub commits : IsCommitPrefix c image
  pub outside : SameBehind c old image

-- What is left of an engine whose disk failed or stopped in an event that calls it: which sessions have a transaction, and how many were sealed.
pub record WasCutShort (c : Core) (event : Event) (e : Engine) : Type 0 where
  pub some : 0 < calls c event
  pub sealed : e.sealed ≡ length (account c.history).sealed
  pub active : (s : ℕ) → is_some (own (memory e) s) ≡ is_some ((account c.history).active s)

module _ {D : Type 0} (g : Ghosts D) where
  -- An engine on its disk is a core, on every disk: what it keeps in memory is what the core says, and on a modelled disk it knows the pages that
  -- are stored. The disk has not failed.
  pub record IsEngine (c : Core) (e : Engine) (disk : D) : Type 0 where
    pub unfailed : (account c.history).failed ≡ None
    pub pages : IsTrue g.tells → KnowsPages c (memory e) (g.bytes disk)
    pub memory : IsMemory (memory e) (account c.history) c

  -- The outcome of an event that had its memory: it was answered as the core answers it, or the disk failed or stopped.
  abbrev pub CameTo : Core → Event → Engine → D → Result Reply StepError → Type 0
  CameTo c event e disk (Ok reply) = (reply ≡ answer c event) × IsEngine (after c event) e disk
  CameTo c event e disk (Err NoMemory) = ⊤
  CameTo c event e disk (Err (Disk error)) = WasCutShort c event e

  -- An event is a step of each core that the engine is, on every disk.
  pub record Steps (event : Event) (old : Engine) (before : D) (new : Engine) (now : D) (result : Result Reply StepError) : Type 0 where
    pub core : (c : Core) → IsEngine c old before → IsReached c → CameTo c event new now result
    -- an event that makes no write or sync leaves the disk alone, and does not read it either
    pub still : (c : Core) → IsEngine c old before → IsReached c → calls c event ≡ 0 → now ≡ before
    -- so does one that runs out of memory, and it changes nothing
    pub untouched : result ≡ Err NoMemory → now ≡ before
    pub kept : result ≡ Err NoMemory → (c : Core) → IsEngine c old before → IsEngine c new now

  -- So is what a modelled disk holds.
  pub record StepsOn (event : Event) (old : Engine) (before : D) (new : Engine) (now : D) (result : Result Reply StepError) : Type 0 where
    pub holds : (s : Super) (c : Core) → IsEngine c old before → IsReached c → OnDisk s c (g.bytes before) (g.may_leave before) → OnOk result (OnDisk s (after c event) (g.bytes now) (g.may_leave now))
    -- at each moment of it, also what it leaves if the disk cuts it short
    pub moments : (s : Super) (c : Core) → IsEngine c old before → IsReached c → OnDisk s c (g.bytes before) (g.may_leave before) → LeavesOnly g.moment g.left_since before now (IsLeftByStep (cut c event) (g.bytes before))
    pub passes : (c : Core) → IsEngine c old before → IsReached c → StepPasses (calls c event) (g.passed before) (g.passed now) result
