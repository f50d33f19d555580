use Rattle.std.proofs.Common.{◌+◌, ◌-◌, length}
use Rattle.stability_tracker.proofs.Searching.{IsSearching}
use Rattle.stability_tracker.proofs.tracker.promotion.Given as goal

abbrev pub invariant-loop-object : goal.invariant-loop-object
invariant-loop-object l = IsSearching l.volatile l.written l.search.found.keys l.search.waiting.items

abbrev pub decreases-loop-object : goal.decreases-loop-object
decreases-loop-object l = l.volatile.made - length l.search.found.keys + length l.search.waiting.items
