use Rattle.std.proofs.Common.{sym, ◌∙◌, subst}
use Rattle.turn_lock.specs.Merging.{Rise}
use Rattle.shared_heap.proofs.shared.SharedHeap.front.Goals as goal

pub returns-clause-pass : goal.returns-clause-pass
returns-clause-pass g c =
    let read = c.front.ensures in
    let of = c.requires.of_lock in (
      record {
        of_lock = record {
          lock_is = read.pass.0.lock ∙ of.lock_is;
          first_is = read.pass.0.first ∙ of.first_is;
          number = λ none. of.number (sym read.pass.0.numbers ∙ none);
        };
        resting = read.resting c.requires.resting;
        rises = subst (Rise 0) (sym read.pass.1.mine) c.requires.rises;
      },
      read.pass.0,
      read.pass.1,
    )
