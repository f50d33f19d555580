use Rattle.std.proofs.Common.{◌≡◌, ℕ, ◌<◌, Option, length, sym, subst, ap, ◌∙◌}
use Rattle.std.specs.Option.{unwrap_or}
use Rattle.std.specs.Prelude.{slice_index}
use Rattle.committed_words.specs.declared.committed_words.CommittedWords.{CommittedWords}
use Rattle.committed_words.specs.Committed.{words_of}
use Rattle.committed_words.proofs.LaidOver.{length-laid_over, laid_over-at}
use Rattle.committed_words.proofs.committed_words.CommittedWordsWords.word.Goals as goal
use Rattle.std.specs.BTreeMap.{is_at}
use Rattle.std.specs.Map.{lookup}
use Rattle.std.specs.Ordering.{nat_cmp}

beneath : (all : CommittedWords) (at : ℕ) → at < length (words_of all) → at < length all.words.now
beneath all at lt = subst (λ n. at < n) (length-laid_over all.words.now all.before_images.entries) lt

-- what is found at an address, or the word beneath, is the word that is seen there
seen : (all : CommittedWords) (at : ℕ) (found : Option ℕ) → at < length (words_of all) → found ≡ lookup (is_at (nat_cmp at)) all.before_images.entries → unwrap_or found (slice_index all.words.now at) ≡ slice_index (words_of all) at
seen all at found lt is =
    ap (λ o. unwrap_or o (slice_index all.words.now at)) is ∙ sym (laid_over-at all.words.now all.before_images.entries at (beneath all at lt))

pub bounds-self-at : goal.bounds-self-at
bounds-self-at c = beneath c.args.self.now c.args.at c.requires

pub returns-in-Some-clause-word : goal.returns-in-Some-clause-word
returns-in-Some-clause-word c told = seen c.args.self.now c.args.at _ c.requires c.in-Some.ensures.value

pub returns-in-None-clause-word : goal.returns-in-None-clause-word
returns-in-None-clause-word c told = seen c.args.self.now c.args.at _ c.requires c.in-None.ensures.value
