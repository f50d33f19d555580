use Rattle.std.proofs.Common.{take}
use Rattle.std.specs.List.{AllByRecursion}
use Rattle.heap_words.specs.Word.{IsFieldWord}
use Rattle.log_records.proofs.decoding.are_field_words.Given as goal

-- the words so far are those of fields
abbrev pub invariant-loop-word : goal.invariant-loop-word
invariant-loop-word l = AllByRecursion IsFieldWord (take l.word-index l.words)
