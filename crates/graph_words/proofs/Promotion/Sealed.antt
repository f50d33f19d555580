-- The state after a seal.
use Rattle.std.specs.Prelude.{ℕ, ◌+◌, max}
use Rattle.std.specs.FinMap as finite
use Rattle.log_machine.specs.Machine.{State}
use Rattle.stability_tracker.specs.Promotion.{need}

-- the state after the seal of a transaction that promotes that many words
abbrev pub sealed_state : State → ℕ → ℕ → State
sealed_state s t need =
    record s { used = s.used + need; undo = finite.remove s.undo t; commits = s.commits + 1; next = max s.next (t + 1) }
