use Rattle.std.proofs.Common.{inl, refl, sym, ◌∙◌}
use Rattle.thread_program.proofs.OpenedLaws.{ends_at_once, goes_refused, goes_written, reach, reached_mid, reached_end, core_together, ends_caused, ends_still, reach_on, reached_on, reached_last, heap_together}
use Rattle.heap_program.proofs.Unfaulted.{counts_on}
use Rattle.thread_program.proofs.OpenedLaws.{ok_is}
use Rattle.thread_program.proofs.threads.play_opened.Goals as goal

pub returns-then-is_err-clause-core : goal.returns-then-is_err-clause-core
returns-then-is_err-clause-core g c core is running fresh =
    let mid = c.play_together-end.result.1 in
    let end = c.play_together-end.result.0 in
    let f = c.play_together-end.ensures.follows in
    let r = reach core running c.args.heap mid mid f is in
    let ended = ends_at_once r.core end ⊥ _ (sym c.is_err.ensures.value ∙ c.if-is_err.true) (refl, r.is) in
    core_together core running c.args.heap mid mid f is end ⊥ ended c.args.tries c.args.script.now fresh end c.play_together-end.ensures.worked _ g.K.Sink.tells (g.K.Sink.written c.args.sink.now) (g.K.Sink.written c.args.sink.now)
    (goes_refused end end ended.made ended.core g.K.Sink.tells (g.K.Sink.written c.args.sink.now) (λ err. refl))

pub returns-then-is_err-clause-holds : goal.returns-then-is_err-clause-holds
returns-then-is_err-clause-holds g c tells s core is running fresh =
    let mid = c.play_together-end.result.1 in
    let end = c.play_together-end.result.0 in
    let f = c.play_together-end.ensures.follows in
    let r = reach_on core running c.args.heap mid mid f tells s is in
    let ended = ends_at_once r.core end ⊥ _ (sym c.is_err.ensures.value ∙ c.if-is_err.true) ((refl, refl), r.is) in
    heap_together core running c.args.heap mid mid f tells s is end ⊥ ended c.args.tries c.args.script.now fresh end c.play_together-end.ensures.worked _ g.K.Sink.tells (g.K.Sink.written c.args.sink.now) (g.K.Sink.written c.args.sink.now)
    (goes_refused end end ended.made ended.core g.K.Sink.tells (g.K.Sink.written c.args.sink.now) (λ err. refl))

pub returns-then-is_err-2-clause-core : goal.returns-then-is_err-2-clause-core
returns-then-is_err-2-clause-core g c core is running fresh =
    let mid = c.play_together-end.result.1 in
    let end = c.play_together-end.result.0 in
    let new = c.make_ending.new.heap in
    let f = c.play_together-end.ensures.follows in
    let r = reach core running c.args.heap mid new f is in
    let ended = c.make_ending.ensures.core r.core r.is (reached_mid core running c.args.heap mid new f is) in
    core_together core running c.args.heap mid new f is c.make_ending.result _ ended c.args.tries c.args.script.now fresh end c.play_together-end.ensures.worked _ g.K.Sink.tells (g.K.Sink.written c.args.sink.now) (g.K.Sink.written c.args.sink.now)
    (goes_refused end c.make_ending.result ended.made ended.core g.K.Sink.tells (g.K.Sink.written c.args.sink.now) (λ err. let never = sym c.if-is_err.false ∙ c.is_err.ensures.value ∙ err in cc))

pub returns-then-is_err-2-clause-holds : goal.returns-then-is_err-2-clause-holds
returns-then-is_err-2-clause-holds g c tells s core is running fresh =
    let mid = c.play_together-end.result.1 in
    let end = c.play_together-end.result.0 in
    let new = c.make_ending.new.heap in
    let f = c.play_together-end.ensures.follows in
    let r = reach_on core running c.args.heap mid new f tells s is in
    let ended = c.make_ending.ensures.holds tells s r.core r.is (reached_on core running c.args.heap mid new f tells s is) in
    heap_together core running c.args.heap mid new f tells s is c.make_ending.result _ ended c.args.tries c.args.script.now fresh end c.play_together-end.ensures.worked _ g.K.Sink.tells (g.K.Sink.written c.args.sink.now) (g.K.Sink.written c.args.sink.now)
    (goes_refused end c.make_ending.result ended.made ended.core g.K.Sink.tells (g.K.Sink.written c.args.sink.now) (λ err. let never = sym c.if-is_err.false ∙ c.is_err.ensures.value ∙ err in cc))

pub returns-clause-caused : goal.returns-clause-caused
returns-clause-caused g c core is running failed =
    let mid = c.play_together-end.result.1 in
    let new = c.make_ending.new.heap in
    let f = c.play_together-end.ensures.follows in
    let r = reach core running c.args.heap mid new f is in
    let ended = c.make_ending.ensures.core r.core r.is (reached_mid core running c.args.heap mid new f is) in
    inl (ends_caused core running c.args.heap mid new f is c.make_ending.result (sym c.is_err-2.ensures.value ∙ c.if-is_err-2.false) c.make_ending.ensures.disk ended failed)

pub returns-clause-core : goal.returns-clause-core
returns-clause-core g c core is running fresh =
    let mid = c.play_together-end.result.1 in
    let end = c.play_together-end.result.0 in
    let new = c.make_ending.new.heap in
    let f = c.play_together-end.ensures.follows in
    let r = reach core running c.args.heap mid new f is in
    let ended = c.make_ending.ensures.core r.core r.is (reached_mid core running c.args.heap mid new f is) in
    let w = c.write_all-status.ensures in
    core_together core running c.args.heap mid new f is c.make_ending.result _ ended c.args.tries c.args.script.now fresh end c.play_together-end.ensures.worked c.write_all-status.result g.K.Sink.tells (g.K.Sink.written c.args.sink.now) (g.K.Sink.written c.write_all-status.new.sink)
    (goes_written end c.make_ending.result ended.made ended.core c.write_all-status.result g.K.Sink.tells (g.K.Sink.written c.args.sink.now) (g.K.Sink.written c.write_all-status.new.sink) new ended.reached.1
    (reached_end core running c.args.heap mid new f is c.make_ending.result _ ended) (sym c.is_err.ensures.value ∙ c.if-is_err.false) (sym c.is_err-2.ensures.value ∙ c.if-is_err-2.false) w.end w.failed w.done w.wrote)

pub returns-clause-holds : goal.returns-clause-holds
returns-clause-holds g c tells s core is running fresh =
    let mid = c.play_together-end.result.1 in
    let end = c.play_together-end.result.0 in
    let new = c.make_ending.new.heap in
    let f = c.play_together-end.ensures.follows in
    let r = reach_on core running c.args.heap mid new f tells s is in
    let ended = c.make_ending.ensures.holds tells s r.core r.is (reached_on core running c.args.heap mid new f tells s is) in
    let w = c.write_all-status.ensures in
    heap_together core running c.args.heap mid new f tells s is c.make_ending.result _ ended c.args.tries c.args.script.now fresh end c.play_together-end.ensures.worked c.write_all-status.result g.K.Sink.tells (g.K.Sink.written c.args.sink.now) (g.K.Sink.written c.write_all-status.new.sink)
    (goes_written end c.make_ending.result ended.made ended.core c.write_all-status.result g.K.Sink.tells (g.K.Sink.written c.args.sink.now) (g.K.Sink.written c.write_all-status.new.sink) new ended.reached.1.core
    (reached_last core running c.args.heap mid new f tells s is c.make_ending.result _ ended) (sym c.is_err.ensures.value ∙ c.if-is_err.false) (sym c.is_err-2.ensures.value ∙ c.if-is_err-2.false) w.end w.failed w.done w.wrote)

-- no fault of the disk was ignored
pub returns-clause-still : goal.returns-clause-still
returns-clause-still g c core is running done =
    let mid = c.play_together-end.result.1 in
    let new = c.make_ending.new.heap in
    let f = c.play_together-end.ensures.follows in
    let r = reach core running c.args.heap mid new f is in
    let at = reached_mid core running c.args.heap mid new f is in
    let ended = c.make_ending.ensures.core r.core r.is at in
    let unfailed = c.write_all-status.ensures.done done in
    counts_on g.D.Disk _ _ _ (ends_still core running c.args.heap mid new f is c.make_ending.result _ ended unfailed)
    (c.make_ending.ensures.still r.core r.is at (ok_is c.make_ending.result (sym c.is_err-2.ensures.value ∙ c.if-is_err-2.false)).0 unfailed)
