use Rattle.volatile_area.proofs.TranslatedLaws.{AreUpto}
use Rattle.volatile_area.proofs.area.Area.translate.Given as goal

-- the first objects are translated
abbrev pub invariant-loop-place : goal.invariant-loop-place
invariant-loop-place l = AreUpto l.pairs l.place l.initial.self l.self
