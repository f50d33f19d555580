use Rattle.committed_words.specs.Committed.{words_of}
use Rattle.logged_pages.specs.State.{pages_in_memory}
use Rattle.heap_engine.proofs.SessionsLeft.{IsLeft}
use Rattle.heap_engine.proofs.engine.Engine.committed_words.Given as goal

abbrev pub invariant-loop-session : goal.invariant-loop-session
invariant-loop-session l = IsLeft l.self.table (pages_in_memory l.self.pages).words l.session (words_of l.words)
