use Rattle.std.proofs.Common.{◌≡◌, ◌++◌, map, take, drop}
use Rattle.log_machine.specs.Translation.{translated_entry}
use Rattle.log_machine.specs.Collecting.{pairs_of}
use Rattle.log_machine.proofs.copy_index.CopyIndex.translate.Given as goal

-- the first entries are translated, and the others as they were
abbrev pub invariant-loop-entry : goal.invariant-loop-entry
invariant-loop-entry l = l.entries ≡ map (translated_entry (pairs_of l.self.copies.now)) (take l.entry-index l.initial.entries) ++ drop l.entry-index l.initial.entries
