-- What is seen of words from which writes are taken back.
use Rattle.std.specs.Prelude.{ℕ, List}
use Rattle.committed_words.specs.LaidOver.{laid_over}
use Rattle.committed_words.specs.declared.committed_words.CommittedWords.{CommittedWords}

-- the words, by address
abbrev pub words_of : CommittedWords → List ℕ
words_of all = laid_over all.words.now all.before_images.entries
