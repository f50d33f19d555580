use Rattle.std.proofs.Common.{refl, sym, ◌∙◌}
use Rattle.heap_program.specs.Play.{IsRunning}
use Rattle.thread_program.proofs.EndedLaws.{told_some, told_none, ends_none, core_well, core_still, core_first, heap_well, heap_first}
use Rattle.thread_program.proofs.ending.make_ending.Goals as goal

pub returns-then-is_some-clause-core : goal.returns-then-is_some-clause-core
returns-then-is_some-clause-core g c core is reached =
    ends_none core _ _ (λ none. told_some c.failed.result (sym c.is_some.ensures ∙ c.if-is_some.true) (c.failed.ensures.exact core is ∙ none)) (refl, is)

pub returns-then-is_some-clause-holds : goal.returns-then-is_some-clause-holds
returns-then-is_some-clause-holds g c tells s core is reached =
    ends_none core _ _ (λ none. told_some c.failed.result (sym c.is_some.ensures ∙ c.if-is_some.true) (c.failed.ensures.exact core is.core ∙ none)) ((refl, refl), is)

pub returns-then-is_played_out-clause-core : goal.returns-then-is_played_out-clause-core
returns-then-is_played_out-clause-core g c core is reached =
    let running : IsRunning core = record { reached = reached; unfailed = sym (c.failed.ensures.exact core is) ∙ told_none c.failed.result (sym c.is_some.ensures ∙ c.if-is_some.false) } in
    core_well c.args.heap.now c.play_ending.new.heap core running _ _ _ c.play_ending.result (sym c.is_played_out.ensures ∙ c.if-is_played_out.true) c.play_ending.ensures.disk (c.play_ending.ensures.core core is running)

pub returns-then-is_played_out-clause-holds : goal.returns-then-is_played_out-clause-holds
returns-then-is_played_out-clause-holds g c tells s core is reached =
    let running : IsRunning core = record { reached = reached; unfailed = sym (c.failed.ensures.exact core is.core) ∙ told_none c.failed.result (sym c.is_some.ensures ∙ c.if-is_some.false) } in
    heap_well c.args.heap.now c.play_ending.new.heap core running _ _ _ s c.play_ending.result (sym c.is_played_out.ensures ∙ c.if-is_played_out.true) c.play_ending.ensures.disk (c.play_ending.ensures.plays tells s core is running)

pub returns-clause-core : goal.returns-clause-core
returns-clause-core g c core is reached =
    let running : IsRunning core = record { reached = reached; unfailed = sym (c.failed.ensures.exact core is) ∙ told_none c.failed.result (sym c.is_some.ensures ∙ c.if-is_some.false) } in
    core_first c.args.heap.now c.play_ending.new.heap core running _ _ _ c.play_ending.result _ (c.play_ending.ensures.core core is running)

pub returns-clause-holds : goal.returns-clause-holds
returns-clause-holds g c tells s core is reached =
    let running : IsRunning core = record { reached = reached; unfailed = sym (c.failed.ensures.exact core is.core) ∙ told_none c.failed.result (sym c.is_some.ensures ∙ c.if-is_some.false) } in
    heap_first c.args.heap.now c.play_ending.new.heap core running _ _ _ s c.play_ending.result _ (c.play_ending.ensures.plays tells s core is running)

-- no fault of the disk was ignored
pub returns-then-is_played_out-clause-still : goal.returns-then-is_played_out-clause-still
returns-then-is_played_out-clause-still g c core is reached ok unfailed =
    let running : IsRunning core = record { reached = reached; unfailed = sym (c.failed.ensures.exact core is) ∙ told_none c.failed.result (sym c.is_some.ensures ∙ c.if-is_some.false) } in
    core_still c.args.heap.now c.play_ending.new.heap core running _ _ _ c.play_ending.result (sym c.is_played_out.ensures ∙ c.if-is_played_out.true) c.play_ending.ensures.disk (c.play_ending.ensures.core core is running) unfailed
