-- An event that makes no call of the disk.
use Rattle.std.specs.Prelude.{◌≡◌, Result, Ok}
use Rattle.disk_model.specs.declared.disk.Disk.{Ghosts}
use Rattle.graph_model.specs.declared.reply.Reply.{Reply}
use Rattle.heap_engine.specs.declared.engine.Engine.{Engine}
use Rattle.heap_engine.specs.declared.step_error.StepError.{StepError}
use Rattle.heap_engine.specs.EngineState.{HasNotFailed, LiesWithin}
use Rattle.heap_engine.specs.StepResult.{engine_device}

module _ {D : Type 0} (g : Ghosts D) where
  -- An event that has the disk in hand and makes no call of it: the disk is as it was, it reports no error, and the next event may follow.
  pub record MakesNoCall (before : D) (new : Engine) (now : D) (result : Result Reply StepError) : Type 0 where
    pub disk : now ≡ before
    pub device : engine_device result ≡ Ok tt
    pub works : HasNotFailed new
    pub within : LiesWithin new (g.extent now)
