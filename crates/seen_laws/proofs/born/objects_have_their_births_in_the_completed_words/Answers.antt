use Rattle.seen_laws.proofs.Births.{heap_birth}
use Rattle.seen_laws.proofs.born.objects_have_their_births_in_the_completed_words.Goals as goal

pub returns : goal.returns
returns c s places remaining words id at heap there = heap_birth heap id at there
