use Rattle.volatile_area.proofs.TranslatedLaws.{IsUpto}
use Rattle.volatile_area.proofs.area.Area.translate_object.Given as goal

-- the first fields are translated
abbrev pub invariant-loop-field : goal.invariant-loop-field
invariant-loop-field l = IsUpto l.pairs l.object l.field l.initial.self l.self
