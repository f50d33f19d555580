use Rattle.std.proofs.Common.{Some, sym, ap, ◌∙◌}
use Rattle.object_locks.proofs.HolderLaws.{find_free, find_least}
use Rattle.graph_model.specs.Plain.{busy_with}
use Rattle.heap_engine.proofs.locking.lock_refusal.Goals as goal

pub returns-in_err-holder-clause-why : goal.returns-in_err-holder-clause-why
returns-in_err-holder-clause-why c = c.from_residual.ensures ∙ sym (ap busy_with (find_free c.args.locks.now c.args.lock c.in_err-holder.ensures))

pub returns-clause-why : goal.returns-clause-why
returns-clause-why c = ap Some c.busy.ensures ∙ sym (ap busy_with (find_least c.args.locks.now c.args.lock c.in_ok-holder.holder c.in_ok-holder.ensures))
