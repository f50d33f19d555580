use Rattle.std.proofs.Common.{◌≡◌, ◌++◌, map, take, drop}
use Rattle.log_machine.specs.Translation.{translated_entry}
use Rattle.undo_translation.proofs.translate.Given as goal

-- the first entries are translated, and the others are as they were
abbrev pub invariant-loop-entry : goal.invariant-loop-entry
invariant-loop-entry l = l.entries ≡ map (translated_entry l.pairs) (take l.entry-index l.initial.entries) ++ drop l.entry-index l.initial.entries
