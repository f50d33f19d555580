use Rattle.std.proofs.Common.{sym}
use Rattle.committed_words.proofs.LaidOver.{length-laid_over}
use Rattle.committed_words.proofs.committed_words.CommittedWordsWords.size.Goals as goal

pub returns : goal.returns
returns c = sym (length-laid_over c.args.self.now.words.now c.args.self.now.before_images.entries)
