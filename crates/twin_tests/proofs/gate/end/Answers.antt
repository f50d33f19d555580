use Rattle.std.proofs.Common.{◌<◌, subst, sym}
use Rattle.turn_lock.specs.Turning.{times}
use Rattle.twin_ledger.proofs.Mirrors.{two_numbers}
use Rattle.twin_tests.proofs.gate.end.Goals as goal

pub close-requires-clause-all : goal.close-requires-clause-all
close-requires-clause-all c = λ n h. subst (λ l. 0 < times n l) (sym c.requires.numbers.1) (two_numbers n (subst (λ k. n < k) c.requires.numbers.0 h))
