use Rattle.limit_laws.proofs.Copies.Undisturbed.{undisturbed_law}
use Rattle.limit_laws.proofs.collections.undisturbed_collections_copy_what_is_reached.Goals as goal

pub returns : goal.returns
returns c = undisturbed_law
