use Rattle.walk_laws.proofs.Birth.Flipped.{flip_births}
use Rattle.walk_laws.proofs.records.flips_tell_births.Goals as goal

pub returns : goal.returns
returns c s n k places chosen remaining words flip begun among own names parted = flip_births flip begun among own names parted
