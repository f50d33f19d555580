use Rattle.flip_copy.proofs.FlipKept.{flip_gray}
use Rattle.flip_copy.proofs.laws.flip_copies_are_gray.Goals as goal

pub returns : goal.returns
returns c = flip_gray
