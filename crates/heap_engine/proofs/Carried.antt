-- What memory has when records were carried out.
use Rattle.std.proofs.Common.{ℕ, ◌<◌, List, [], ◌∷◌, Result, Ok, Err}
use Rattle.std.specs.Prelude.{IsOk, OnOk}
use Rattle.std.specs.List.{AllByRecursion}
use Rattle.heap_memory.specs.Leaves.{Adds}
use Rattle.log_machine.specs.declared.UndoEntry.{UndoEntry}
use Rattle.log_machine.specs.Effect.{EachWritesBelow}
use Rattle.log_machine.specs.Machine.{abort_records, field_at}
use Rattle.log_records.specs.declared.Record.{Record}
use Rattle.logged_pages.specs.Carried.{Carries}
use Rattle.logged_pages.specs.declared.logged.LoggedPages.{LoggedPages}
use Rattle.logged_pages.specs.State.{log_of}

-- they are pending in its log
pub adds_carried : (old new : LoggedPages) (records : List Record) → Carries old new records → Adds (log_of old) (log_of new) records
adds_carried old new records is = record { place = is.log.place; kept = is.log.kept }

-- the records that take writes back write where these wrote
pub abort_below : (end t : ℕ) (us : List UndoEntry) → AllByRecursion (λ (u : UndoEntry). field_at u.object u.field < end) us → EachWritesBelow end (abort_records t us)
abort_below end t [] all = (tt, tt)
abort_below end t (u ∷ us) all = ((all.0, tt), abort_below end t us all.1)

-- what holds once they are carried out: carrying out has no error
pub carried : {A E P : Type 0} (result : Result A E) → IsOk result → OnOk result P → P
carried (Ok a) ok holds = holds
carried (Err e) ok holds = absurd (cc ok)
