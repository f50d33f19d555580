use Rattle.std.proofs.Common.{take}
use Rattle.stability_tracker.specs.Search.{WereFollowed}
use Rattle.stability_tracker.proofs.search.Search.follow.Given as goal

abbrev pub invariant-loop-word : goal.invariant-loop-word
invariant-loop-word l = WereFollowed l.area (take l.word-index l.words) l.initial.self.found.keys l.initial.self.waiting.items l.self.found.keys l.self.waiting.items
