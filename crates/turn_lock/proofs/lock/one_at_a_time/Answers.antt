use Rattle.turn_lock.proofs.Keeps.{one_holder}
use Rattle.turn_lock.proofs.lock.one_at_a_time.Goals as goal

pub returns : goal.returns
returns g c = λ first passes s r i j v w at bt hv hw. one_holder _ _ _ _ _ first passes s r i j v w at bt hv hw
