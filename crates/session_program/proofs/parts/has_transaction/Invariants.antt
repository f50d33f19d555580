use Rattle.std.proofs.Common.{◌≡◌, ◌-◌, []}
use Rattle.core_laws.proofs.Run.Aborting.{aborting_until}
use Rattle.heap_core.specs.Refinement.{IsCore}
use Rattle.heap_model.specs.Core.{Core}
use Rattle.session_program.proofs.parts.has_transaction.Given as goal

-- the sessions so far have none
abbrev pub invariant-loop-s : goal.invariant-loop-s
invariant-loop-s g l = (c : Core) → IsCore c l.fn.heap → aborting_until (l.s - 1) c ≡ []
