use Rattle.seal_laws.proofs.Beside.{whole_kept, word_kept}
use Rattle.seal_laws.proofs.seals.seals_keep_other_words.Goals as goal

pub returns : goal.returns
returns a c x can beside = (λ apart. word_kept c can x apart beside, λ before. whole_kept c can x before beside)
