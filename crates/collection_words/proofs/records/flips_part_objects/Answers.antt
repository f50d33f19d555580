use Rattle.collection_words.proofs.Flip.Parted.{flip_parts}
use Rattle.collection_words.proofs.records.flips_part_objects.Goals as goal

pub returns : goal.returns
returns c s n places chosen remaining words flip flipped = flip_parts flip flipped
