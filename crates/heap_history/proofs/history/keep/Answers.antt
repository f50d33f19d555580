use Rattle.heap_history.proofs.history.keep.Goals as goal

pub returns-in-Some-clause-within : goal.returns-in-Some-clause-within
returns-in-Some-clause-within c = (c.in-Some.ensures.same c.args.whole.now.items).0
