use Rattle.std.proofs.Common.{length}
use Rattle.page_scanner.specs.Destinations.{IsLink}
use Rattle.page_scanner.proofs.destinations.Destinations.get.Given as goal

-- what is left of the chain says where the object goes
abbrev pub invariant-loop-link : goal.invariant-loop-link
invariant-loop-link l = IsLink l.self-inside.moves.items (length l.self-inside.moves.items) l.link l.from

abbrev pub decreases-loop-link : goal.decreases-loop-link
decreases-loop-link l = l.link
