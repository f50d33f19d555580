-- The words of a run.
use Rattle.std.specs.Prelude.{ℕ, List}
use Rattle.log_machine.specs.declared.runs.RunWords.{RunWords}
use Rattle.log_machine.specs.declared.runs.RunWords.TheVariants.{One, Many}

abbrev pub words_of : RunWords → List ℕ
words_of (One word) = word
words_of (Many words) = words.now
