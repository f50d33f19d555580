use Rattle.flip_laws.proofs.Heap.{flip_translated}
use Rattle.flip_laws.proofs.flips.flips_translate_entries.Goals as goal

pub returns : goal.returns
returns c s places words roots us can own are = flip_translated can own us are
