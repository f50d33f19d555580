use Rattle.std.proofs.Common.{◌≡◌, None, Some, sym, ◌∙◌}
use Rattle.heap_program.proofs.playing.play_script.Goals as goal

pub returns-in-None-clause-played : goal.returns-in-None-clause-played
returns-in-None-clause-played g c tells stored only = rw c.in-None.is (c.play_whole.ensures.played tells stored only)

pub returns-in-Some-clause-played : goal.returns-in-Some-clause-played
returns-in-Some-clause-played g c tells stored only = rw c.in-Some.is (c.play_stopped.ensures.played tells stored only)

-- a stop was asked
pub returns-in-Some-clause-unfaulted : goal.returns-in-Some-clause-unfaulted
returns-in-Some-clause-unfaulted g c unstopped none = let never : None ≡ Some c.in-Some.stop = sym unstopped ∙ c.in-Some.is in absurd (cc never)

pub returns-in-None-clause-image : goal.returns-in-None-clause-image
returns-in-None-clause-image g c = rw c.in-None.is c.play_whole.ensures.image

pub returns-in-Some-clause-image : goal.returns-in-Some-clause-image
returns-in-Some-clause-image g c = rw c.in-Some.is c.play_stopped.ensures.image
