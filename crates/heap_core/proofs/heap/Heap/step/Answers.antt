use Rattle.heap_core.proofs.heap.Heap.step.Goals as goal

pub returns-clause-core : goal.returns-clause-core
returns-clause-core g c = c.step_on.ensures.core

pub returns-clause-kept : goal.returns-clause-kept
returns-clause-kept g c = c.step_on.ensures.kept

pub returns-clause-untouched : goal.returns-clause-untouched
returns-clause-untouched g c = c.step_on.ensures.untouched

pub returns-clause-holds : goal.returns-clause-holds
returns-clause-holds g c = c.step_on.ensures.holds

pub returns-clause-moments : goal.returns-clause-moments
returns-clause-moments g c = c.step_on.ensures.moments

pub returns-clause-passes : goal.returns-clause-passes
returns-clause-passes g c = c.step_on.ensures.passes

pub returns-clause-still : goal.returns-clause-still
returns-clause-still g c = c.step_on.ensures.still

pub returns-clause-collects : goal.returns-clause-collects
returns-clause-collects g c = c.step_on.ensures.collects

pub returns-clause-ends : goal.returns-clause-ends
returns-clause-ends g c = c.step_on.ensures.ends

pub returns-clause-memory : goal.returns-clause-memory
returns-clause-memory g c = c.step_on.ensures.memory

pub returns-clause-disk : goal.returns-clause-disk
returns-clause-disk g c = c.step_on.ensures.disk

pub returns-clause-recorded : goal.returns-clause-recorded
returns-clause-recorded g c = c.step_on.ensures.recorded
