use Rattle.std.proofs.Common.{◌≡◌, drop}
use Rattle.log_machine.specs.Machine.{settled}
use Rattle.log_machine.specs.Collecting.{copies_after, with_roles_changed}
use Rattle.log_machine.proofs.log_state.LogState.to_space.Given as goal

-- the copies that are left lead from here to where all of them lead
abbrev pub invariant-loop-copy : goal.invariant-loop-copy
invariant-loop-copy l = copies_after l.next (drop l.copy-index l.copies) ≡ copies_after (settled (with_roles_changed l.self)) l.copies
